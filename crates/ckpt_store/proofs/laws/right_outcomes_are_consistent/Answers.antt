use Rattle.ckpt_store.proofs.Consistent.{right_is_consistent}
use Rattle.ckpt_store.proofs.laws.right_outcomes_are_consistent.Goals as goal

pub returns : goal.returns
returns c = right_is_consistent c.outcomes_without_histogram_match.ensures
