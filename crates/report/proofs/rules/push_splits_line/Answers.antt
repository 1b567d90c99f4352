use Rattle.std.proofs.Common.{◌∙◌, sym}
use Rattle.report.proofs.Regions.{splits_are_observed}
use Rattle.report.proofs.Written.{appends-by}
use Rattle.report.proofs.rules.push_splits_line.Goals as goal

pub returns : goal.returns
returns c =
    let setting = c.args.job.now.setting in
    let regions = c.args.job.now.regions in
    let some = rw c.regions_of.ensures.value at (sym c.is_empty.ensures ∙ c.if-is_empty.false) in
    let limited = rw c.setting-setting.ensures.value at (sym c.limits_splits.ensures ∙ c.if-not-limits_splits.false) in
    appends-by c.args.out.now c.push_line.new.out _ _ c.push_line.result (splits_are_observed setting.max_splits setting.max_split_regions regions some limited)
    (rw (c.from.ensures, c.from-2.ensures, c.setting-setting.ensures.value) at c.push_line.ensures)
