use Rattle.std.proofs.Common.{flat_map, ap, ◌∙◌}
use Rattle.report.proofs.Ranked.{lines_alone}
use Rattle.report.proofs.Written.{appends-by}
use Rattle.audit_model.specs.Stopping.{placed_asks}
use Rattle.audit_statement.specs.Report.{ends_line, ends_lines}
use Rattle.report.proofs.ends.push_ends_lines.Goals as goal

pub returns : goal.returns
returns c =
    let job = c.args.job.now in
    let ends = c.ends_of.result.now in
    appends-by c.args.out.now c.push_ends.new.out (flat_map (ends_line job ends) (placed_asks job)) (ends_lines job.setting.ends job c.args.sorted.now) c.push_ends.result
    (lines_alone job.setting.ends job c.args.sorted.now ends (λ none. c.if-setting-eq0.false (ap (λ s. s.ends) c.setting.ensures.value ∙ none)) c.ends_of.ensures.all c.ends_of.ensures.sound)
    c.push_ends.ensures
