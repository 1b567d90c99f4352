use Rattle.std.proofs.Common.{◌≡◌, ℕ, ◌<◌, ◌⊎◌, length}
use Rattle.scores.specs.Known.{AgreesAt, IsListed}
use Rattle.scores.proofs.last_plan.LastPlan.replace_all.Given as goal

abbrev pub invariant-loop-place : goal.invariant-loop-place
invariant-loop-place l = record {
  first : length l.self.first ≡ length l.sums.first;
  second : length l.self.second ≡ length l.sums.first;
  listed : (d : ℕ) → d < length l.sums.first → AgreesAt l.self.first l.self.second l.sums d ⊎ IsListed l.changed l.place l.count d;
}
