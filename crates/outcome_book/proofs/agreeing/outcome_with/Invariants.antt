use Rattle.std.proofs.Common.{◌≡◌, None, take}
use Rattle.audit_model.specs.Run.{with_id}
use Rattle.outcome_book.proofs.agreeing.outcome_with.Given as goal

abbrev pub invariant-loop-outcome : goal.invariant-loop-outcome
invariant-loop-outcome l = record { none : with_id (take l.outcome-index l.outcomes) l.id ≡ None }
