use Rattle.plan_csv.proofs.Placed.{IsPlaced}
use Rattle.plan_csv.proofs.units.places_of.Given as goal

abbrev pub invariant-loop-entry : goal.invariant-loop-entry
invariant-loop-entry l = IsPlaced l.units l.count l.entry l.places.items
