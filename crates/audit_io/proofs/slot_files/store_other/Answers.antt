use Rattle.audit_io.proofs.Calls.{other_found, other_none}
use Rattle.audit_io.proofs.slot_files.store_other.Goals as goal

pub returns-then-found : goal.returns-then-found
returns-then-found g c = other_found _ _ _ _ _ c.if-found.true c.store_found.ensures

pub returns : goal.returns
returns g c = other_none _ _ _ c.if-found.false
