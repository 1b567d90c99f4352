use Rattle.std.proofs.Common.{ℕ, length, sym, ap, ◌∙◌, arith}
use Rattle.std.specs.Vec.{vec_len}
use Rattle.std.proofs.lemmas.Bool.{eqb-false, eqb-true, not-true, not-false}
use Rattle.flip_kernel.proofs.nearby.NeighborCounts.is_stored.Goals as goal

pub returns-clause-stored : goal.returns-clause-stored
returns-clause-stored c = λ stored.
    let off = eqb-false (vec_len c.self.inside.table) 0 (sym c.is_empty.ensures ∙ not-true c.is_empty.result stored) in
    omega (arith, off, ap (length {A = ℕ}) c.self.view_is, c.self.inside.table.ok.0)

pub returns-clause-empty : goal.returns-clause-empty
returns-clause-empty c = λ empty.
    let none = eqb-true (vec_len c.self.inside.table) 0 (sym c.is_empty.ensures ∙ not-false c.is_empty.result empty) in
    omega (arith, none, ap (length {A = ℕ}) c.self.view_is, c.self.inside.table.ok.0)
