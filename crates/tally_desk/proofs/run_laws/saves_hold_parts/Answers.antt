use Rattle.tally_desk.proofs.Holding.{saves_hold_parts}
use Rattle.tally_desk.proofs.run_laws.saves_hold_parts.Goals as goal

pub returns : goal.returns
returns c = saves_hold_parts
