use Rattle.tally_desk.proofs.Reaching.{halts_are_restarts}
use Rattle.tally_desk.proofs.laws.halts_are_restarts.Goals as goal

pub returns : goal.returns
returns c = halts_are_restarts
