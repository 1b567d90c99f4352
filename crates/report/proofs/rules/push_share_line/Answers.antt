use Rattle.std.proofs.Common.{◌∙◌, sym, ne_eqb}
use Rattle.report.proofs.Regions.{share_is_observed}
use Rattle.report.proofs.Written.{appends-by}
use Rattle.report.proofs.rules.push_share_line.Goals as goal

pub returns : goal.returns
returns c =
    let share = c.args.job.now.setting.group_share in
    let members = c.args.job.now.group.members in
    let some = rw (c.as_slice.ensures, c.rules.ensures.value) at (sym c.is_empty.ensures ∙ c.if-is_empty.false) in
    let other = rw c.setting.ensures.value at c.if-share-eq5000.false in
    appends-by c.args.out.now c.push_line.new.out _ _ c.push_line.result (share_is_observed share members some (ne_eqb share 5000 other))
    (rw (c.from.ensures, c.setting.ensures.value) at c.push_line.ensures)
