use Rattle.tally_desk.proofs.Righting.{saved_outcomes_are_right}
use Rattle.tally_desk.proofs.laws.saved_outcomes_are_right.Goals as goal

pub returns : goal.returns
returns c = saved_outcomes_are_right
