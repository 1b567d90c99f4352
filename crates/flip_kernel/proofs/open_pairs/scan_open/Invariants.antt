use Rattle.std.proofs.Common.{◌≡◌, false, take}
use Rattle.std.specs.List.{list_any}
use Rattle.audit_model.specs.District.{in_district}
use Rattle.flip_kernel.proofs.open_pairs.scan_open.Given as goal

abbrev pub invariant-loop-one : goal.invariant-loop-one
invariant-loop-one l = list_any (in_district l.plan l.district) (take l.one-index l.row) ≡ false

abbrev pub invariant-loop-other : goal.invariant-loop-other
invariant-loop-other l = list_any (in_district l.plan l.district) (take l.other-index l.row) ≡ l.beside
