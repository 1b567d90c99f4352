use Rattle.std.proofs.Common.{ℕ, List, get_or, ap, ◌∙◌}
use Rattle.flip_kernel.proofs.NearPairs.{shows_is_open}
use Rattle.flip_kernel.proofs.open_pairs.OpenPairs.has.Goals as goal

pub returns-then-is_stored : goal.returns-then-is_stored
returns-then-is_stored c = λ g plan districts u d sound lu ld at counts marks.
    let table : List ℕ = c.args.near.now in
    let near = counts (c.is_stored.ensures.stored c.if-is_stored.true) in
    c.has_open.ensures
    ∙ shows_is_open g plan u d (get_or table c.args.place 0) sound (near.short u lu) (ap (λ (k : ℕ). get_or table k 0) at ∙ near.each u d lu ld)
