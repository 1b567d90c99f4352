use Rattle.std.proofs.Common.{ℕ, ◌<◌, ◌≤◌, ◌⊎◌, length, slice_index}
use Rattle.scores.specs.Known.{AgreesAt, IsListed}
use Rattle.scores.proofs.last_plan.find_changes.Given as goal

abbrev pub invariant-loop-district : goal.invariant-loop-district
invariant-loop-district l = record {
  few : l.count ≤ l.district;
  inside : (place : ℕ) → place < l.count → slice_index l.changed place < length l.sums.first;
  listed : (d : ℕ) → d < l.district → AgreesAt l.first l.second l.sums d ⊎ IsListed l.changed 0 l.count d;
}
