use Rattle.std.proofs.Common.{◌≡◌, ◌≤◌, take, count_by, not}
use Rattle.audit_model.specs.Run.{has_id}
use Rattle.outcome_book.proofs.gathering.Gathering.count_new.Given as goal

abbrev pub invariant-loop-outcome : goal.invariant-loop-outcome
invariant-loop-outcome l = record {
  counted : l.count ≡ count_by (λ o. not (has_id l.self.outcomes o.id)) (take l.outcome-index l.found);
  few : l.count ≤ l.outcome-index;
}
