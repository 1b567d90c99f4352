use Rattle.std.proofs.Common.{◌≡◌, ◌≤◌, false}
use Rattle.std.specs.List.{slice_index_or}
use Rattle.audit_model.specs.Below.{count_below}
use Rattle.plan_core.proofs.splits.count_marked.Given as goal

abbrev pub invariant-loop-place : goal.invariant-loop-place
invariant-loop-place l = record {
  count : l.count ≡ count_below l.place (λ d. slice_index_or l.seen d false);
  few : l.count ≤ l.place;
}
