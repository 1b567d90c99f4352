use Rattle.std.proofs.Common.{refl, inl}
use Rattle.ckpt_format.proofs.encode.encode_with.Goals as goal

pub returns-clause-sound : goal.returns-clause-sound
returns-clause-sound c = c.encode_as.ensures.sound (inl refl)
