use Rattle.std.proofs.Common.{Bool, false, List, length, replicate, ap, ◌∙◌, arith}
use Rattle.flip_kernel.specs.Flags.{flags_of}
use Rattle.flip_kernel.proofs.Words.{flags_of-zeros}
use Rattle.flip_kernel.proofs.open_pairs.OpenPairs.clear.Goals as goal

pub returns : goal.returns
returns c =
    ap flags_of (c.fill.ensures.items (λ y e. e))
    ∙ flags_of-zeros c.self.inside.words.items _ (omega (arith, c.self.inside.words.ok.0))
    ∙ ap (λ (xs : List Bool). replicate (length xs) false) c.self.view_is
