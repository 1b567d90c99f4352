use Rattle.std.proofs.Common.{ℕ, Bool, false, List, length, get_or, sym, ap, ◌∙◌, subst, ◌<◌, arith}
use Rattle.flip_kernel.specs.Flags.{bit_of}
use Rattle.flip_kernel.proofs.Words.{length-flags_of, flag_at}
use Rattle.flip_kernel.proofs.open_pairs.OpenPairs.has_bit.Goals as goal

pub bit_of-requires : goal.bit_of-requires
bit_of-requires c =
    omega (
      arith,
      length-flags_of c.self.inside.words.items,
      ap (length {A = Bool}) c.self.view_is,
      ap (length {A = ℕ}) c.deref.ensures.value,
      c.requires,
    )

pub returns : goal.returns
returns c =
    let words : List ℕ = c.self.inside.words.items in
    c.bit_of.ensures
    ∙ ap (λ (xs : List ℕ). bit_of xs c.args.place) c.deref.ensures.value
    ∙ sym (flag_at words c.args.place (subst (λ (xs : List Bool). c.args.place < length xs) (sym c.self.view_is) c.requires))
    ∙ ap (λ (xs : List Bool). get_or xs c.args.place false) c.self.view_is
