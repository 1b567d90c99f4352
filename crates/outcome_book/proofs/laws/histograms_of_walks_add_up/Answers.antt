use Rattle.outcome_book.proofs.AddingUp.{whole_adds_up}
use Rattle.outcome_book.proofs.laws.histograms_of_walks_add_up.Goals as goal

pub returns : goal.returns
returns c = whole_adds_up
