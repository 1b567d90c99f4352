use Rattle.std.proofs.Common.{◌≡◌, ℕ, None, length}
use Rattle.std.specs.List.{slice_index_or}
use Rattle.plan_csv.proofs.units.blanks.Given as goal

abbrev pub invariant-loop : goal.invariant-loop
invariant-loop l = (length l.places.items ≡ l.counter) × ((u : ℕ) → slice_index_or l.places.items u None ≡ None)
