use Rattle.std.proofs.Common.{◌≡◌, ℕ, ◌+◌, ◌-◌, ◌<◌, List, [], length, get_or, sym, ap, subst, ◌∙◌, arith}
use Rattle.std.proofs.lemmas.List.{get_or_read}
use Rattle.audit_model.specs.Graph.{Graph}
use Rattle.dual_graph.proofs.Rows.{row_is, part_below}
use Rattle.dual_graph.proofs.graph.Graph.neighbours.Goals as goal

pub returns-clause-list : goal.returns-clause-list
returns-clause-list c =
    let i = c.self.inside in
    let u = c.args.unit in
    let lt : u < i.units = subst (λ (g : Graph). u < g.units) (sym c.self.view_is) c.requires in
    let long : length i.begins.items ≡ i.units + 1 = c.self.invariant.0.places in
    let a : c.index.result.now ≡ get_or i.begins.items u 0 = get_or_read i.begins.items u c.index.result.now (omega arith) c.index.ensures 0 in
    let b : c.index-2.result.now ≡ get_or i.begins.items (u + 1) 0 = get_or_read i.begins.items (u + 1) c.index-2.result.now (omega arith) c.index-2.ensures 0 in
    row_is i.units i.begins.items i.near.items u c.index.result.now c.index-2.result.now c.deref.result.now lt a b c.deref.ensures.value
    ∙ ap (λ (g : Graph). get_or g.neighbours u []) c.self.view_is

pub returns-clause-below : goal.returns-clause-below
returns-clause-below c =
    let i = c.self.inside in
    let units : i.units ≡ c.args.self.now.units = ap (λ (g : Graph). g.units) c.self.view_is in
    let below : (k : ℕ) → k < length c.deref.result.now → get_or c.deref.result.now k 0 < c.args.self.now.units =
    λ k l. subst (λ (t : List ℕ). get_or t k 0 < c.args.self.now.units) (sym c.deref.ensures.value)
    (subst (λ n. get_or i.near.items k 0 < n) units (c.self.invariant.0.below k (subst (λ (t : List ℕ). k < length t) c.deref.ensures.value l))) in
    part_below c.args.self.now.units c.index.result.now (c.index-2.result.now - c.index.result.now) c.deref.result.now below
