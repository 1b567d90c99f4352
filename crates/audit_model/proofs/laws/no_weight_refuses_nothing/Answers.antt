use Rattle.audit_model.proofs.Weighing.{even_next}
use Rattle.audit_model.proofs.laws.no_weight_refuses_nothing.Goals as goal

pub returns : goal.returns
returns c = even_next
