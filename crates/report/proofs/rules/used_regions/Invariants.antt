use Rattle.std.proofs.Common.{◌≡◌, ℕ, ◌<◌, false, length, take}
use Rattle.std.specs.List.{slice_index_or}
use Rattle.audit_model.specs.Graph.{has}
use Rattle.report.proofs.rules.used_regions.Given as goal

abbrev pub invariant-loop-region : goal.invariant-loop-region
invariant-loop-region l = record {
  width : length l.seen ≡ 5000;
  seen : (r : ℕ) → r < 5000 → slice_index_or l.seen r false ≡ has (take l.region-index l.regions) r;
}
