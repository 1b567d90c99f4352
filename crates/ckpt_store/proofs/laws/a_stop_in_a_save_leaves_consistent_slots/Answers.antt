use Rattle.ckpt_store.proofs.Consistent.{stops_leave_consistent_slots}
use Rattle.ckpt_store.proofs.laws.a_stop_in_a_save_leaves_consistent_slots.Goals as goal

pub returns : goal.returns
returns c = stops_leave_consistent_slots
