use Rattle.std.proofs.Common.{◌≡◌, ℕ, ◌+◌, ◌<◌, List, length, get_or, sym, ap, subst, ◌∙◌, length-set, inl, inr}
use Rattle.std.proofs.lemmas.List.{get_or_read}
use Rattle.dual_graph.specs.Marked.{Marked}
use Rattle.dual_graph.proofs.Marking.{marked_if}
use Rattle.dual_graph.proofs.mark_list.MarkList.mark_if.Goals as goal
use Rattle.dual_graph.proofs.mark_list.MarkList.mark_if.Goals.{then-fresh, else-fresh}

pub invariant_of-self : goal.invariant_of-self
invariant_of-self c =
    let i = c.self.inside in
    let labels : List ℕ = i.labels.items in
    let u : ℕ = c.args.unit in
    let lt : u < length labels = subst (λ (t : Marked). u < t.units) (sym c.self.view_is) c.requires.unit in
    let is : c.index-before.result.now ≡ get_or labels u 0 = get_or_read labels u c.index-before.result.now lt c.index-before.ensures 0 in
    let after = marked_if labels i.order.items i.count u c.args.label c.if-fresh.after c.from.result c.self.invariant.2 c.self.invariant.0 c.self.invariant.1 lt c.requires.label (elim c.if-fresh.branch [
      | then-fresh w ↦ inl (w.after-is, rw w.if-fresh.true at c.from.ensures, ap (λ (t : Marked). get_or t.labels u 0) c.self.view_is ∙ c.requires.absent w.if-fresh.true)
      | else-fresh w ↦ inr (w.after-is ∙ is, rw w.if-fresh.false at c.from.ensures)
    ]) in
    (length-set i.order.items i.count u ∙ c.self.invariant.0 ∙ sym (ap (λ k. k + 1) (length-set labels u c.if-fresh.after)), after.0, after.1)

pub returns-clause-sound : goal.returns-clause-sound
returns-clause-sound c =
    let i = c.self.inside in
    let labels : List ℕ = i.labels.items in
    let u : ℕ = c.args.unit in
    let lt : u < length labels = subst (λ (t : Marked). u < t.units) (sym c.self.view_is) c.requires.unit in
    let is : c.index-before.result.now ≡ get_or labels u 0 = get_or_read labels u c.index-before.result.now lt c.index-before.ensures 0 in
    let after = marked_if labels i.order.items i.count u c.args.label c.if-fresh.after c.from.result c.self.invariant.2 c.self.invariant.0 c.self.invariant.1 lt c.requires.label (elim c.if-fresh.branch [
      | then-fresh w ↦ inl (w.after-is, rw w.if-fresh.true at c.from.ensures, ap (λ (t : Marked). get_or t.labels u 0) c.self.view_is ∙ c.requires.absent w.if-fresh.true)
      | else-fresh w ↦ inr (w.after-is ∙ is, rw w.if-fresh.false at c.from.ensures)
    ]) in
    after.1
