use Rattle.std.proofs.Common.{refl, inr}
use Rattle.ckpt_format.proofs.Writing.{all_without_histogram}
use Rattle.ckpt_format.proofs.encode.encode_old.Goals as goal

pub returns-clause-sound : goal.returns-clause-sound
returns-clause-sound c = c.encode_as.ensures.sound (inr (refl, all_without_histogram c.args.outcomes.now c.encode_as.ensures.each c.requires.without_histogram))
