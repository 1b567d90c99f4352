use Rattle.audit_model.proofs.Meeting.{meets_passes, passes_meets}
use Rattle.audit_model.proofs.laws.meets_rules_decides.Goals as goal

pub returns : goal.returns
returns c = λ rules cut plan. (passes_meets rules cut plan, meets_passes rules cut plan)
