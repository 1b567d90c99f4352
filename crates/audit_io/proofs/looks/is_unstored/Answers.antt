use Rattle.std.proofs.Common.{refl}
use Rattle.audit_io.specs.Looks.{look_known}
use Rattle.audit_io.proofs.Looking.{looked_still}
use Rattle.audit_io.proofs.looks.is_unstored.Goals as goal

pub returns-then-is_stored : goal.returns-then-is_stored
returns-then-is_stored g c = look_known c.if-is_stored.true refl refl

pub returns : goal.returns
returns g c = looked_still _ _ _ _ _ c.if-is_stored.false c.is_there.ensures
