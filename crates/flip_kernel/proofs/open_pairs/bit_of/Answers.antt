use Rattle.std.proofs.Common.{ℕ, ◌/◌, ◌%◌, ◌==◌, get_or, ap}
use Rattle.std.proofs.lemmas.Nat.Bits.{shr_and_one}
use Rattle.flip_kernel.proofs.open_pairs.bit_of.Goals as goal

pub returns : goal.returns
returns c = ap (λ (b : ℕ). b == 1) (shr_and_one (get_or c.args.words.now (c.args.place / 64) 0) (c.args.place % 64))
