use Rattle.std.proofs.Common.{◌≡◌, ℕ, ◌+◌, ◌<◌, ◌++◌, ◌∷◌, [], List, length, get_or, sym, ap, subst, ◌∙◌, refl, arith, length-set, inl}
use Rattle.std.proofs.lemmas.List.{take_more_set}
use Rattle.dual_graph.specs.Marked.{Marked}
use Rattle.dual_graph.proofs.Marking.{marked_if}
use Rattle.dual_graph.proofs.mark_list.MarkList.mark_as.Goals as goal

pub index_mut-requires-2 : goal.index_mut-requires-2
index_mut-requires-2 c = omega (arith, c.self.inside.order.ok.0, c.self.invariant.0, c.self.invariant.1)

pub invariant_of-self : goal.invariant_of-self
invariant_of-self c =
    let i = c.self.inside in
    let labels : List ℕ = i.labels.items in
    let u : ℕ = c.args.unit in
    let lt : u < length labels = subst (λ (t : Marked). u < t.units) (sym c.self.view_is) c.requires.unit in
    let none : get_or labels u 0 ≡ 0 = ap (λ (t : Marked). get_or t.labels u 0) c.self.view_is ∙ c.requires.absent in
    let after = marked_if labels i.order.items i.count u c.args.label c.args.label 1 c.self.invariant.2 c.self.invariant.0 c.self.invariant.1 lt c.requires.label (inl (refl, refl, none)) in
    (length-set i.order.items i.count u ∙ c.self.invariant.0 ∙ sym (ap (λ k. k + 1) (length-set labels u c.args.label)), after.0, after.1)

pub returns-clause-items : goal.returns-clause-items
returns-clause-items c =
    let i = c.self.inside in
    take_more_set i.order.items i.count c.args.unit (omega (arith, c.self.invariant.0, c.self.invariant.1)) ∙ ap (λ (t : Marked). t.items ++ c.args.unit ∷ []) c.self.view_is

pub returns-clause-sound : goal.returns-clause-sound
returns-clause-sound c =
    let i = c.self.inside in
    let labels : List ℕ = i.labels.items in
    let u : ℕ = c.args.unit in
    let lt : u < length labels = subst (λ (t : Marked). u < t.units) (sym c.self.view_is) c.requires.unit in
    let none : get_or labels u 0 ≡ 0 = ap (λ (t : Marked). get_or t.labels u 0) c.self.view_is ∙ c.requires.absent in
    let after = marked_if labels i.order.items i.count u c.args.label c.args.label 1 c.self.invariant.2 c.self.invariant.0 c.self.invariant.1 lt c.requires.label (inl (refl, refl, none)) in
    after.1
