use Rattle.std.proofs.Common.{◌≡◌, ℕ, ◌*◌, ◌<◌, ◌≤◌, cond, length, get_or}
use Rattle.audit_model.specs.Below.{sum_below}
use Rattle.audit_model.specs.District.{in_district}
use Rattle.plan_core.proofs.sums.district_sums.Given as goal

abbrev pub invariant-loop-unit : goal.invariant-loop-unit
invariant-loop-unit l = record {
  width : length l.sums ≡ 200;
  sums : (d : ℕ) → d < 200 → get_or l.sums d 0 ≡ sum_below l.unit (λ u. cond (in_district l.plan d u) (get_or l.column u 0) 0);
  small : (d : ℕ) → d < 200 → get_or l.sums d 0 ≤ 1000000000 * l.unit;
}
