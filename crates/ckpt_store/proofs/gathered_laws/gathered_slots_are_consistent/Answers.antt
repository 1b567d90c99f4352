use Rattle.ckpt_store.proofs.Gathered.{gathered_slots_are_consistent}
use Rattle.ckpt_store.proofs.gathered_laws.gathered_slots_are_consistent.Goals as goal

pub returns : goal.returns
returns c = gathered_slots_are_consistent c.a_stop_in_a_save_leaves_consistent_slots.ensures c.checkpoints_are_ours.ensures c.unions_are_right.ensures.consistent
