use Rattle.std.proofs.Common.{◌≡◌, ℕ, ◌+◌, ◌<◌, ◌≤◌, List, true, length, take, get_or, sym, ap, subst, ◌∙◌, refl, arith}
use Rattle.std.proofs.lemmas.List.{length-take-le, get_or-take, get_or_read}
use Rattle.audit_model.specs.Graph.{has}
use Rattle.audit_model.proofs.ListFacts.{at_has}
use Rattle.dual_graph.specs.Marked.{Marked, IsMarked}
use Rattle.dual_graph.proofs.Marking.{clearing_done, marked_none}
use Rattle.dual_graph.proofs.mark_list.MarkList.clear.Goals as goal

unit_in : (m : Marked) (order : List ℕ) (count k u n : ℕ) → IsMarked m → m.items ≡ take count order → k < count → count ≤ length order
    → u ≡ get_or order k 0 → n ≡ m.units → u < n
unit_in m order count k u n marked same l le is width =
    let len : length (take count order) ≡ count = length-take-le count order le in
    let at : get_or m.items k 0 ≡ u = ap (λ (t : List ℕ). get_or t k 0) same ∙ get_or-take count order k 0 l ∙ sym is in
    let there : k < length m.items = omega (arith, len, ap length same) in
    subst (λ t. u < t) (sym width) (marked.below u (subst (λ t. has m.items t ≡ true) at (at_has m.items k there)))

pub index_mut-requires : goal.index_mut-requires
index_mut-requires c =
    let i = c.self.inside in
    let m : Marked = record { units = length i.labels.items; items = take i.count i.order.items; labels = i.labels.items } in
    let lt : c.loop-place.place < i.count = omega arith in
    let inside_order : c.loop-place.place < length c.loop-place.self-inside.order.items =
    subst (λ o. c.loop-place.place < length o.items) (sym c.loop-place.invariant.order) (omega (arith, lt, c.self.invariant.0, c.self.invariant.1)) in
    let is : c.index-unit.result.now ≡ get_or i.order.items c.loop-place.place 0 =
    get_or_read c.loop-place.self-inside.order.items c.loop-place.place c.index-unit.result.now inside_order c.index-unit.ensures 0
    ∙ ap (λ o. get_or o.items c.loop-place.place 0) c.loop-place.invariant.order in
    unit_in m i.order.items i.count c.loop-place.place c.index-unit.result.now _ c.self.invariant.2 refl lt (omega (arith, c.self.invariant.0, c.self.invariant.1)) is
    (c.loop-place.self-inside.labels.ok.0 ∙ c.loop-place.invariant.clearing.width)

pub invariant_of-self : goal.invariant_of-self
invariant_of-self c =
    let i = c.self.inside in
    let m : Marked = record { units = length i.labels.items; items = take i.count i.order.items; labels = i.labels.items } in
    let len : length m.items ≡ i.count = length-take-le i.count i.order.items (omega (arith, c.self.invariant.0, c.self.invariant.1)) in
    let none = clearing_done m c.loop-place.self-inside.labels.items c.loop-place.place c.self.invariant.2 c.loop-place.invariant.clearing (omega (arith, len)) in (
      ap (λ o. length o.items) c.loop-place.invariant.order ∙ c.self.invariant.0 ∙ sym (ap (λ k. k + 1) c.loop-place.invariant.clearing.width),
      omega arith,
      marked_none c.loop-place.self-inside.labels.items none,
    )

pub returns-clause-sound : goal.returns-clause-sound
returns-clause-sound c =
    let i = c.self.inside in
    let m : Marked = record { units = length i.labels.items; items = take i.count i.order.items; labels = i.labels.items } in
    let len : length m.items ≡ i.count = length-take-le i.count i.order.items (omega (arith, c.self.invariant.0, c.self.invariant.1)) in
    let none = clearing_done m c.loop-place.self-inside.labels.items c.loop-place.place c.self.invariant.2 c.loop-place.invariant.clearing (omega (arith, len)) in
    marked_none c.loop-place.self-inside.labels.items none
