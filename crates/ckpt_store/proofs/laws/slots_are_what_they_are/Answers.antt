use Rattle.ckpt_store.proofs.Found.{slots_are_what_they_are}
use Rattle.ckpt_store.proofs.laws.slots_are_what_they_are.Goals as goal

pub returns : goal.returns
returns c = slots_are_what_they_are c.faultless_bytes_are_checkpoints.ensures c.checkpoints_are_read.ensures
