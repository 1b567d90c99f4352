use Rattle.std.proofs.Common.{◌≡◌, ◌*◌, ◌^◌, ◌≤◌}
use Rattle.audit_model.specs.Below.{sum_below}
use Rattle.audit_model.specs.Score.{first_wasted, second_wasted}
use Rattle.scores.proofs.efficiency_gap.Given as goal

abbrev pub invariant-loop-district : goal.invariant-loop-district
invariant-loop-district l = record {
  first : l.first_wasted ≡ sum_below l.district (first_wasted l.sums);
  second : l.second_wasted ≡ sum_below l.district (second_wasted l.sums);
  small_first : l.first_wasted ≤ l.district * (2 * 10 ^ 14);
  small_second : l.second_wasted ≤ l.district * (2 * 10 ^ 14);
}
