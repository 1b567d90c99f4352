use Rattle.std.proofs.Common.{Some, ap}
use Rattle.std_io.specs.declared.io.kind.ErrorKind.{ErrorKind}
use Rattle.audit_io.proofs.Looking.{opened_apart, opened_one}
use Rattle.audit_io.proofs.looks.open_slot.Goals as goal

pub returns-then-are_one : goal.returns-then-are_one
returns-then-are_one g c = opened_one _ _ _ _ _ c.if-are_one.true c.are_one.ensures (ap (λ (k : ErrorKind). Some k) c.from.ensures)

pub returns : goal.returns
returns g c = opened_apart _ _ _ _ _ _ _ c.if-are_one.false c.are_one.ensures c.name_of.ensures c.open_plain.ensures
