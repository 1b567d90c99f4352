use Rattle.std.proofs.Common.{ℕ, Bool, length, ap, arith}
use Rattle.flip_kernel.proofs.Words.{length-flags_of}
use Rattle.flip_kernel.proofs.open_pairs.OpenPairs.put.Goals as goal

pub put_bit-requires : goal.put_bit-requires
put_bit-requires c =
    omega (
      arith,
      length-flags_of c.self.inside.words.items,
      ap (length {A = Bool}) c.self.view_is,
      ap (length {A = ℕ}) c.deref_mut.ensures.value,
      c.place_of.ensures,
      c.requires,
    )
