use Rattle.outcome_book.proofs.Unions.{consistent_outcomes_agree, unions_are_consistent, unions_are_right}
use Rattle.outcome_book.proofs.union_laws.unions_are_right.Goals as goal

pub returns-clause-agree : goal.returns-clause-agree
returns-clause-agree c = consistent_outcomes_agree

pub returns-clause-consistent : goal.returns-clause-consistent
returns-clause-consistent c = unions_are_consistent

pub returns-clause-right : goal.returns-clause-right
returns-clause-right c = unions_are_right
