use Rattle.std.proofs.Common.{All, take}
use Rattle.outcome_book.specs.Union.{AgreesWith}
use Rattle.outcome_book.proofs.gathering.Gathering.difference.Given as goal

abbrev pub invariant-loop-outcome : goal.invariant-loop-outcome
invariant-loop-outcome l = record { agreed : All (AgreesWith l.self.outcomes) (take l.outcome-index l.found) }
