use Rattle.std.proofs.Common.{◌≡◌, take}
use Rattle.outcome_book.specs.Union.{HoldsBoth}
use Rattle.outcome_book.proofs.gathering.Gathering.add.Given as goal

abbrev pub invariant-loop-outcome : goal.invariant-loop-outcome
invariant-loop-outcome l = record {
  total : l.self.total ≡ l.initial.self.total;
  both : HoldsBoth l.initial.self.outcomes (take l.outcome-index l.found) l.self.outcomes;
}
