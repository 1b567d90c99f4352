use Rattle.audit_folders.proofs.Loads.{both_loaded}
use Rattle.audit_folders.proofs.slots.load_both.Goals as goal

pub returns-clause-loaded : goal.returns-clause-loaded
returns-clause-loaded g c = both_loaded _ _ c.in_ok-zero.zero c.in_ok-one.one c.in_ok-zero.ensures.slots c.in_ok-zero.ensures.loaded c.in_ok-one.ensures.loaded
