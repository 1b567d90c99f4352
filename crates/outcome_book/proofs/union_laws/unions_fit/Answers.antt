use Rattle.outcome_book.proofs.Unions.{unions_fit}
use Rattle.outcome_book.proofs.union_laws.unions_fit.Goals as goal

pub returns : goal.returns
returns c = unions_fit
