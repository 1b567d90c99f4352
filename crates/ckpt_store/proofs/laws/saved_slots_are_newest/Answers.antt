use Rattle.ckpt_store.proofs.Turns.{saved_slots_are_newest}
use Rattle.ckpt_store.proofs.laws.saved_slots_are_newest.Goals as goal

pub returns : goal.returns
returns c = saved_slots_are_newest
