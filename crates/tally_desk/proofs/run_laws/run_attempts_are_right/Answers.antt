use Rattle.tally_desk.proofs.Holding.{run_attempts_are_right}
use Rattle.tally_desk.proofs.run_laws.run_attempts_are_right.Goals as goal

pub returns : goal.returns
returns c = run_attempts_are_right
