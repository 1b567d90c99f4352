use Rattle.std.proofs.Common.{◌≡◌, true, take}
use Rattle.std.specs.List.{list_all}
use Rattle.audit_model.specs.District.{in_district}
use Rattle.contig.proofs.long.lies_inside.Given as goal

abbrev pub invariant-loop-place : goal.invariant-loop-place
invariant-loop-place l = list_all (in_district l.plan l.district) (take l.place l.ring) ≡ true
