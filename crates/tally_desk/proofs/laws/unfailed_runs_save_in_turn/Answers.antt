use Rattle.tally_desk.proofs.InTurn.{unfailed_runs_save_in_turn}
use Rattle.tally_desk.proofs.laws.unfailed_runs_save_in_turn.Goals as goal

pub returns : goal.returns
returns c = unfailed_runs_save_in_turn c.saved_slots_are_newest.ensures c.checkpoints_are_ours.ensures
