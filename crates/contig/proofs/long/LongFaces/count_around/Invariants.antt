use Rattle.std.proofs.Common.{◌≡◌, ℕ, ◌+◌, ◌<◌, ◌≤◌, true, false, List, drop, get_or}
use Rattle.std.specs.List.{list_all}
use Rattle.audit_model.specs.District.{in_district}
use Rattle.audit_model.specs.Graph.{has}
use Rattle.contig.specs.Faces.{count_inner_faces}
use Rattle.contig.specs.Long.{units_of_all}
use Rattle.contig.proofs.long.LongFaces.count_around.Given as goal

abbrev pub invariant-loop-place : goal.invariant-loop-place
invariant-loop-place l = record {
  few : l.count ≤ l.place;
  counted : l.count + count_inner_faces (in_district l.leaving.plan.now l.home) (units_of_all (drop l.place l.rings)) ≡ count_inner_faces (in_district l.leaving.plan.now l.home) (units_of_all l.rings);
  apart : (k : ℕ) (d : List ℕ) → k < l.place → list_all (in_district l.leaving.plan.now l.home) (get_or (units_of_all l.rings) k d) ≡ true → has (get_or (units_of_all l.rings) k d) l.leaving.unit ≡ false;
}
