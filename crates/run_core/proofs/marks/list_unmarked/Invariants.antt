use Rattle.std.proofs.Common.{◌≡◌, false, not}
use Rattle.std.specs.Prelude.{vec_capacity}
use Rattle.std.specs.List.{slice_index_or}
use Rattle.audit_model.specs.Below.{filter_below}
use Rattle.run_core.proofs.marks.list_unmarked.Given as goal

abbrev pub invariant-loop-id : goal.invariant-loop-id
invariant-loop-id l = record {
  ids : l.ids.items ≡ filter_below l.id (λ id. not (slice_index_or l.marks id false));
  room : vec_capacity l.ids ≡ vec_capacity l.initial.ids;
}
