use Rattle.std.proofs.Common.{ap, sym}
use Rattle.plan_csv.specs.declared.named.Named.{Named}
use Rattle.audit_run.proofs.plan_reports.first_of.Goals as goal

pub returns : goal.returns
returns c = (c.index-plans-0.result, c.index-plans-0.is, ap (λ (n : Named). n.job) (sym c.index-plans-0.is))
