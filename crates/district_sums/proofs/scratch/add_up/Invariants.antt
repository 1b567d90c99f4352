use Rattle.district_sums.proofs.Summing.{IsAdded}
use Rattle.district_sums.proofs.scratch.add_up.Given as goal

abbrev pub invariant-loop-unit : goal.invariant-loop-unit
invariant-loop-unit l = IsAdded l.column l.plan l.unit l.sums
