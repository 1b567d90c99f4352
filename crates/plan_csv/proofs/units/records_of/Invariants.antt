use Rattle.plan_csv.proofs.Placed.{IsThere}
use Rattle.plan_csv.proofs.units.records_of.Given as goal

abbrev pub invariant-loop-unit : goal.invariant-loop-unit
invariant-loop-unit l = IsThere l.places l.unit l.records.items
