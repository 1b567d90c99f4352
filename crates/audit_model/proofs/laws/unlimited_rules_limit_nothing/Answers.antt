use Rattle.audit_model.proofs.Meeting.{unlimited_meets}
use Rattle.audit_model.proofs.laws.unlimited_rules_limit_nothing.Goals as goal

pub returns : goal.returns
returns c = unlimited_meets
