use Rattle.std.proofs.Common.{refl}
use Rattle.audit_io.specs.Looks.{open_refused, open_attempted}
use Rattle.audit_io.proofs.looks.open_plain.Goals as goal

pub returns-in-Ok : goal.returns-in-Ok
returns-in-Ok g c = open_attempted _ _ c.in-Ok.ensures c.open.ensures

pub returns-in-Err : goal.returns-in-Err
returns-in-Err g c = open_refused _ c.in-Err.ensures refl
