use Rattle.std.proofs.Common.{◌≡◌, false, not, ◌&&◌, sym, arith, ◌∙◌}
use Rattle.std.proofs.lemmas.Bool.{and_from, both_ways, false_from_ne_true, not_from_false}
use Rattle.audit_model.specs.Graph.{has}
use Rattle.audit_model.proofs.First.{first_below_here}
use Rattle.dual_graph.proofs.search.first_unmarked.Goals as goal

pub returns-then-not-has : goal.returns-then-not-has
returns-then-not-has g c =
    let absent : has c.args.marks.now.items c.loop-unit.unit ≡ false =
    false_from_ne_true (has c.args.marks.now.items c.loop-unit.unit) (λ h. both_ways c.has.result c.if-not-has.true (c.has.ensures.1 h)) in
    sym (first_below_here c.args.within.now.graph.now.units c.loop-unit.unit (λ u. g.I.Inside.inside c.args.within.now.set.now u && not (has c.args.marks.now.items u)) c.loop-unit.invariant (omega arith)
    (and_from (g.I.Inside.inside c.args.within.now.set.now c.loop-unit.unit) (not (has c.args.marks.now.items c.loop-unit.unit))
    (sym c.holds.ensures ∙ c.if-holds.true) (not_from_false (has c.args.marks.now.items c.loop-unit.unit) absent)))
