use Rattle.audit_run.proofs.Surely.{surely}
use Rattle.audit_run.proofs.sure.audit_surely.Goals as goal

pub returns-clause-complete : goal.returns-clause-complete
returns-clause-complete g c = surely c.questions_were_refused.ensures _ _ _ _ _ _ _ _ _ c.audit.ensures.kept
