use Rattle.std.proofs.Common.{◌≤◌, ℕ, List, length, get_or, sym, subst}
use Rattle.audit_model.specs.Below.{sum_below}
use Rattle.dual_graph.specs.Placed.{arcs_of, AreDegrees}
use Rattle.dual_graph.proofs.Built.{built_from_pairs, begins_are_sums, sums_few}
use Rattle.dual_graph.proofs.graph.Graph.from_pairs.Goals as goal

pub begins_of-requires-clause-few : goal.begins_of-requires-clause-few
begins_of-requires-clause-few c =
    subst (λ (d : List ℕ). (u : ℕ) → u ≤ length d → sum_below u (λ v. get_or d v 0) ≤ 800000) (sym c.deref.ensures.value)
    (sums_few c.args.units c.args.pairs.now c.in_ok-degrees.degrees.items c.requires.few.1 c.requires.pairs c.in_ok-degrees.ensures)

pub near_of-requires-clause-begins : goal.near_of-requires-clause-begins
near_of-requires-clause-begins c =
    begins_are_sums c.args.units c.args.pairs.now c.deref.result.now c.in_ok-begins.begins.items
    (subst (λ (d : List ℕ). AreDegrees c.args.units (arcs_of c.args.pairs.now) (length (arcs_of c.args.pairs.now)) d) (sym c.deref.ensures.value) c.in_ok-degrees.ensures)
    c.in_ok-begins.ensures.width c.in_ok-begins.ensures.sums

pub invariant_of-result : goal.invariant_of-result
invariant_of-result c =
    let b = built_from_pairs c.args.units c.args.pairs.now c.in_ok-begins.begins.items c.in_ok-near.near.items c.requires.few.1 c.requires.pairs c.in_ok-near.ensures in
    (b.rows, b.sound, b.edges)

pub returns-clause-edges : goal.returns-clause-edges
returns-clause-edges c = (built_from_pairs c.args.units c.args.pairs.now c.in_ok-begins.begins.items c.in_ok-near.near.items c.requires.few.1 c.requires.pairs c.in_ok-near.ensures).joins

pub returns-clause-amount : goal.returns-clause-amount
returns-clause-amount c = sym (built_from_pairs c.args.units c.args.pairs.now c.in_ok-begins.begins.items c.in_ok-near.near.items c.requires.few.1 c.requires.pairs c.in_ok-near.ensures).edges.counted

pub returns-clause-sound : goal.returns-clause-sound
returns-clause-sound c = (built_from_pairs c.args.units c.args.pairs.now c.in_ok-begins.begins.items c.in_ok-near.near.items c.requires.few.1 c.requires.pairs c.in_ok-near.ensures).sound
