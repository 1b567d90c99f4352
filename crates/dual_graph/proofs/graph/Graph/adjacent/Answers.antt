use Rattle.std.proofs.Common.{List, ℕ, sym, ap, ◌∙◌, arith}
use Rattle.std.proofs.lemmas.Bool.{false_from_ne_true}
use Rattle.audit_model.specs.Graph.{has}
use Rattle.audit_model.proofs.ListFacts.{has_at}
use Rattle.dual_graph.proofs.graph.Graph.adjacent.Goals as goal

pub returns : goal.returns
returns c =
    let row = c.neighbours-neighbour-items.result.now in
    sym (ap (λ (xs : List ℕ). has xs c.args.other) (sym c.neighbours-neighbour-items.ensures.list)
    ∙ false_from_ne_true (has row c.args.other) (λ h.
    let found = has_at row c.args.other h in
    let inside = found.1 in
    c.loop-neighbour.invariant found.0 (omega (arith, inside, c.loop-neighbour-test.false, c.loop-neighbour.auto.neighbour-index-end)) found.2))
