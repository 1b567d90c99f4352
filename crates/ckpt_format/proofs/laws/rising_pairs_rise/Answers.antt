use Rattle.ckpt_format.proofs.Stated.{rising_pairs_rise}
use Rattle.ckpt_format.proofs.laws.rising_pairs_rise.Goals as goal

pub returns : goal.returns
returns c = rising_pairs_rise
