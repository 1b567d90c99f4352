use Rattle.ckpt_format.proofs.Stated.{checkpoints_have_length}
use Rattle.ckpt_format.proofs.laws.checkpoints_have_a_length.Goals as goal

pub returns : goal.returns
returns c = checkpoints_have_length
