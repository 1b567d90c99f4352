use Rattle.audit_start.proofs.Started.{opens_later}
use Rattle.audit_laws.proofs.Starting.{same_kept}
use Rattle.audit_start.proofs.resume_state.look_and_open.Goals as goal

pub returns-in-Ok : goal.returns-in-Ok
returns-in-Ok g c = opens_later _ _ _ _ (same_kept _ _ c.look.ensures.slots c.look.ensures.attempted c.in-Ok.ensures.cause.cause c.look.ensures.saves) (c.open_found.ensures _ c.in-Ok.ensures.saw)
