use Rattle.flip_kernel.proofs.Words.{flags_of-set}
use Rattle.flip_kernel.proofs.open_pairs.put_bit.Goals as goal

pub returns : goal.returns
returns c = flags_of-set c.args.words.now c.args.place c.with_bit.result c.args.flag c.requires c.with_bit.ensures.own c.with_bit.ensures.others
