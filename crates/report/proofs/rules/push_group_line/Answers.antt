use Rattle.std.proofs.Common.{◌∙◌, sym}
use Rattle.audit_model.specs.Meets.{majorities}
use Rattle.report.proofs.Regions.{group_is_observed}
use Rattle.report.proofs.Written.{appends-by}
use Rattle.report.proofs.rules.push_group_line.Goals as goal

pub returns : goal.returns
returns c =
    let job = c.args.job.now in
    let members = job.group.members in
    let some = rw (c.as_slice.ensures, c.rules.ensures.value) at (sym c.is_empty.ensures ∙ c.if-is_empty.false) in
    appends-by c.args.out.now c.push_line.new.out _ _ c.push_line.result
    (group_is_observed job.setting.group_districts (majorities job.setting.group_share job.group job.start) members some)
    (rw (c.from.ensures, c.from-2.ensures, c.majorities.ensures, c.setting.ensures.value) at c.push_line.ensures)
