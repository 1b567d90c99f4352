use Rattle.audit_model.proofs.Histogram.{consistent_are_right}
use Rattle.audit_model.proofs.laws.consistent_runs_go_on_rightly.Goals as goal

pub returns : goal.returns
returns c = consistent_are_right
