use Rattle.audit_start.proofs.Making.{accepted_grid}
use Rattle.audit_start.proofs.prepare.prepare.Goals as goal

pub prepare_grid-requires-clause-made : goal.prepare_grid-requires-clause-made
prepare_grid-requires-clause-made g c = accepted_grid _ c.in-Ok.setting c.in-Ok.ensures.exact c.in-Make.is

pub returns-in-Check : goal.returns-in-Check
returns-in-Check g c = c.prepare_read.ensures _ c.in-Ok.ensures.exact

pub returns-in-Make : goal.returns-in-Make
returns-in-Make g c = c.prepare_grid.ensures _ _ c.in-Ok.ensures.exact
