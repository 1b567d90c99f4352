use Rattle.outcome_book.proofs.ById.{by_id-mapped}
use Rattle.outcome_book.proofs.laws.outcomes_by_id_are_mapped.Goals as goal

pub returns : goal.returns
returns c = by_id-mapped
