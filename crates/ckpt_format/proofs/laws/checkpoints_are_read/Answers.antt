use Rattle.ckpt_format.proofs.Stated.{checkpoints_are_read}
use Rattle.ckpt_format.proofs.laws.checkpoints_are_read.Goals as goal

pub returns : goal.returns
returns c = checkpoints_are_read
