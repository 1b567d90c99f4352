use Rattle.audit_model.proofs.Meeting.{default_meets}
use Rattle.audit_model.proofs.laws.default_rules_limit_nothing.Goals as goal

pub returns : goal.returns
returns c = default_meets
