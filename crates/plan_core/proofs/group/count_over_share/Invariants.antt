use Rattle.std.proofs.Common.{◌≡◌, ◌*◌, ◌≤◌}
use Rattle.std.specs.Prelude.{nat_lt, slice_index}
use Rattle.audit_model.specs.Below.{count_below}
use Rattle.plan_core.proofs.group.count_over_share.Given as goal

abbrev pub invariant-loop-district : goal.invariant-loop-district
invariant-loop-district l = record {
  count : l.count ≡ count_below l.district (λ d. nat_lt (l.share * slice_index l.whole d) (10000 * slice_index l.members d));
  few : l.count ≤ l.district;
}
