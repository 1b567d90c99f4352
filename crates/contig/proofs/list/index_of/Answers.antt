use Rattle.std.proofs.Common.{ℕ, ◌+◌, ◌<◌, sym, subst, arith}
use Rattle.audit_model.specs.Below.{sum_below}
use Rattle.audit_model.specs.Length.{degree}
use Rattle.contig.proofs.Indexing.{by_side, index_within}
use Rattle.contig.proofs.list.index_of.Goals as goal

within : (c : goal.After-place_of) → c.arcs_before.result + c.place_of.result < sum_below c.args.graph.now.units (degree c.args.graph.now)
within c =
    index_within c.args.graph.now c.side_of-low.result.0 c.place_of.result c.arcs_before.result c.neighbours.result.now
    (subst (λ (p : ℕ × ℕ). p.0 < c.args.graph.now.units) (sym c.side_of-low.ensures)
    (by_side (λ a b. a < c.args.graph.now.units) c.args.x c.args.y c.requires.units.0 c.requires.units.1))
    c.neighbours.ensures.list c.place_of.ensures.within c.arcs_before.ensures

pub returns-clause-within : goal.returns-clause-within
returns-clause-within c = within c

pub overflow_add-result : goal.overflow_add-result
overflow_add-result c = let l = within c in let few = c.requires.few in omega (arith, l, few)
