use Rattle.outcome_book.proofs.Unions.{grouping_does_not_matter, order_does_not_matter, twice_changes_nothing, unions_are_one}
use Rattle.outcome_book.proofs.union_laws.unions_are_one.Goals as goal

pub returns-clause-one : goal.returns-clause-one
returns-clause-one c = unions_are_one

pub returns-clause-order : goal.returns-clause-order
returns-clause-order c = order_does_not_matter

pub returns-clause-groups : goal.returns-clause-groups
returns-clause-groups c = grouping_does_not_matter

pub returns-clause-twice : goal.returns-clause-twice
returns-clause-twice c = twice_changes_nothing
