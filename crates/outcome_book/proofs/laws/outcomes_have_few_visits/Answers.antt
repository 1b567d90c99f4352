use Rattle.outcome_book.proofs.AddingUp.{found_has_few, fitting_has_few}
use Rattle.outcome_book.proofs.laws.outcomes_have_few_visits.Goals as goal

pub returns-clause-found : goal.returns-clause-found
returns-clause-found c = found_has_few

pub returns-clause-fit : goal.returns-clause-fit
returns-clause-fit c = fitting_has_few
