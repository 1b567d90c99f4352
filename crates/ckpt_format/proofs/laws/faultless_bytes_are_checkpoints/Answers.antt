use Rattle.ckpt_format.proofs.Stated.{faultless_are_checkpoints}
use Rattle.ckpt_format.proofs.laws.faultless_bytes_are_checkpoints.Goals as goal

pub returns : goal.returns
returns c = faultless_are_checkpoints
