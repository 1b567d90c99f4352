use Rattle.std.proofs.Common.{◌≡◌, ℕ, ◌<◌, ◌&&◌, false, length}
use Rattle.std.specs.Prelude.{◌==◌, slice_index}
use Rattle.std.specs.List.{slice_index_or}
use Rattle.audit_model.specs.Below.{any_below}
use Rattle.plan_core.proofs.splits.split_of.Given as goal

abbrev pub invariant-loop-unit : goal.invariant-loop-unit
invariant-loop-unit l = record {
  width : length l.seen ≡ 200;
  seen : (d : ℕ) → d < 200 → slice_index_or l.seen d false ≡ any_below l.unit (λ u. (slice_index l.regions u == l.region) && (slice_index l.plan u == d));
}
