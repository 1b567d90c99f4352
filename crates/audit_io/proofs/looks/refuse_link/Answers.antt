use Rattle.std.proofs.Common.{Err, refl, ap}
use Rattle.std_io.specs.declared.io.kind.ErrorKind.{ErrorKind}
use Rattle.audit_io.specs.Looks.{link_loose, link_none}
use Rattle.audit_io.proofs.looks.refuse_link.Goals as goal

pub returns-in-Ok : goal.returns-in-Ok
returns-in-Ok g c = link_loose c.in-Ok.ensures (ap (λ (k : ErrorKind). Err k) c.from.ensures)

pub returns-in-Err : goal.returns-in-Err
returns-in-Err g c = link_none _ c.in-Err.ensures refl
