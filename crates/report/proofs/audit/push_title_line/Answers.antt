use Rattle.std.proofs.Common.{◌∙◌, ap}
use Rattle.audit_statement.specs.Report.{title_by}
use Rattle.report.proofs.Written.{appends-by}
use Rattle.report.proofs.audit.push_title_line.Goals as goal

pub returns : goal.returns
returns c = appends-by c.args.out.now c.push_line.new.out _ _ c.push_line.result (c.title_of.ensures ∙ ap (λ s. title_by s.blind s.shift) c.setting-setting.ensures.value) c.push_line.ensures
