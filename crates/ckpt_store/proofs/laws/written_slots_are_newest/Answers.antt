use Rattle.ckpt_store.proofs.Turns.{written_slots_are_newest}
use Rattle.ckpt_store.proofs.laws.written_slots_are_newest.Goals as goal

pub returns : goal.returns
returns c = written_slots_are_newest
