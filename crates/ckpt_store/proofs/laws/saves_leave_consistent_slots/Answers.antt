use Rattle.ckpt_store.proofs.Outlasted.{saves_leave_consistent_slots}
use Rattle.ckpt_store.proofs.laws.saves_leave_consistent_slots.Goals as goal

pub returns : goal.returns
returns c = saves_leave_consistent_slots c.right_outcomes_are_consistent.ensures
