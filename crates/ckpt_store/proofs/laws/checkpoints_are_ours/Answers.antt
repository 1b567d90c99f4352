use Rattle.ckpt_store.proofs.Ours.{checkpoints_are_ours}
use Rattle.ckpt_store.proofs.laws.checkpoints_are_ours.Goals as goal

pub returns : goal.returns
returns c = checkpoints_are_ours
