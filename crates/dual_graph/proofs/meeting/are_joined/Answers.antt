use Rattle.std.proofs.Common.{ℕ, ◌+◌, ◌∷◌, [], Bool, List, get_or, arith, refl, sym, subst, ◌∙◌}
use Rattle.std.proofs.lemmas.Bool.{true≢false}
use Rattle.audit_model.specs.Graph.{Graph}
use Rattle.audit_model.specs.Search.{IsSearch}
use Rattle.audit_model.proofs.Searching.{path_turned, search_begins, search_goes_on}
use Rattle.dual_graph.proofs.Marking.{items_le}
use Rattle.dual_graph.proofs.TwoSearches.{AreDisjoint, disjoint_turned, disjoint_ones, disjoint_more, met_joins, ended_apart}
use Rattle.dual_graph.proofs.meeting.are_joined.Goals as goal

pub loop-next-init : goal.loop-next-init
loop-next-init g c =
    let graph : Graph = c.args.graph.now in
    let inside : ℕ → Bool = g.I.Inside.inside c.args.set.now in
    record {
      near_units = c.begin.ensures.units ∙ c.requires.near;
      far_units = c.begin-2.ensures.units ∙ c.requires.far;
      near_marked = c.begin.ensures.marked;
      far_marked = c.begin-2.ensures.marked;
      near_search = subst (λ (t : List ℕ). IsSearch graph inside c.args.units.0 0 t) (sym c.begin.ensures.items) (search_begins graph inside c.args.units.0 c.requires.one);
      far_search = subst (λ (t : List ℕ). IsSearch graph inside c.args.units.1 0 t) (sym c.begin-2.ensures.items) (search_begins graph inside c.args.units.1 c.requires.other);
      apart = subst (λ (t : List ℕ). AreDisjoint t c.begin-2.new.side.items) (sym c.begin.ensures.items)
          (subst (λ (t : List ℕ). AreDisjoint (c.args.units.0 ∷ []) t) (sym c.begin-2.ensures.items) (disjoint_ones c.args.units.0 c.args.units.1 c.requires.apart));
    }

pub returns-then-visit-clause-joined : goal.returns-then-visit-clause-joined
returns-then-visit-clause-joined g c =
    let (v, near, there) = c.if-visit.ensures.met refl in (
      λ _. met_joins c.args.graph.now (g.I.Inside.inside c.args.set.now) c.units-units.ensures.sound c.args.units.0 c.args.units.1 c.loop-next.next c.loop-next.next c.loop-next.next v
          c.loop-next.near.items c.loop-next.far.items c.loop-next.invariant.near_search c.loop-next.invariant.far_search (omega (arith, c.loop-next-test.true, c.count.ensures)) near there,
      λ _. refl,
    )

pub returns-then-visit-2-clause-joined : goal.returns-then-visit-2-clause-joined
returns-then-visit-2-clause-joined g c =
    let graph : Graph = c.args.graph.now in
    let inside : ℕ → Bool = g.I.Inside.inside c.args.set.now in
    let k : ℕ = c.loop-next.next in
    let inv = c.loop-next.invariant in
    let (v, near, there) = c.if-visit-2.ensures.met refl in
    let search = search_goes_on graph inside c.args.units.0 k c.loop-next.near.items c.visit.new.side.items (get_or graph.neighbours (get_or c.loop-next.near.items k 0) [])
    refl (omega (arith, c.loop-next-test.true, c.count.ensures)) inv.near_search c.visit.ensures.added in (
      λ _. path_turned graph inside c.units-units.ensures.sound c.args.units.1 c.args.units.0
          (met_joins graph inside c.units-units.ensures.sound c.args.units.1 c.args.units.0 k (k + 1) k v
          c.loop-next.far.items c.visit.new.side.items inv.far_search search (omega (arith, c.if-next-count.true, c.count-in-loop-next.ensures)) near there),
      λ _. refl,
    )

pub loop-next-smaller : goal.loop-next-smaller
loop-next-smaller g c =
    let le = items_le c.loop-next.near c.loop-next.invariant.near_marked in
    omega (arith, le, c.loop-next-test.true, c.count.ensures, c.loop-next.invariant.near_units)

pub loop-next-preserved : goal.loop-next-preserved
loop-next-preserved g c =
    let graph : Graph = c.args.graph.now in
    let inside : ℕ → Bool = g.I.Inside.inside c.args.set.now in
    let k : ℕ = c.loop-next.next in
    let inv = c.loop-next.invariant in
    let near : List ℕ = c.loop-next.near.items in
    let far : List ℕ = c.loop-next.far.items in
    let near' : List ℕ = c.visit.new.side.items in
    let far' : List ℕ = c.visit-in-loop-next.new.side.items in
    let apart = disjoint_more graph inside (get_or near k 0) near near' far c.visit.ensures.added (c.if-visit.ensures.apart refl) inv.apart in
    record {
      near_units = c.visit.ensures.units;
      far_units = c.visit-in-loop-next.ensures.units;
      near_marked = c.visit.ensures.marked;
      far_marked = c.visit-in-loop-next.ensures.marked;
      near_search = search_goes_on graph inside c.args.units.0 k near near' (get_or graph.neighbours (get_or near k 0) [])
          refl (omega (arith, c.loop-next-test.true, c.count.ensures)) inv.near_search c.visit.ensures.added;
      far_search = search_goes_on graph inside c.args.units.1 k far far' (get_or graph.neighbours (get_or far k 0) [])
          refl (omega (arith, c.if-next-count.true, c.count-in-loop-next.ensures)) inv.far_search c.visit-in-loop-next.ensures.added;
      apart = disjoint_turned far' near' (disjoint_more graph inside (get_or far k 0) far far' near' c.visit-in-loop-next.ensures.added (c.if-visit-2.ensures.apart refl)
          (disjoint_turned near' far apart));
    }

pub returns-else-next-count-clause-joined : goal.returns-else-next-count-clause-joined
returns-else-next-count-clause-joined g c = (
  λ h. absurd (true≢false (sym h)),
  λ path. absurd (ended_apart c.args.graph.now (g.I.Inside.inside c.args.set.now) c.units-units.ensures.sound c.args.units.1 c.args.units.0 c.loop-next.next c.loop-next.next
      c.loop-next.far.items c.loop-next.near.items (omega (arith, c.if-next-count.false, c.count-in-loop-next.ensures)) c.loop-next.invariant.far_search c.loop-next.invariant.near_search
      (disjoint_turned c.loop-next.near.items c.loop-next.far.items c.loop-next.invariant.apart)
      (path_turned c.args.graph.now (g.I.Inside.inside c.args.set.now) c.units-units.ensures.sound c.args.units.0 c.args.units.1 path)),
)

pub returns-after-loop-next-clause-joined : goal.returns-after-loop-next-clause-joined
returns-after-loop-next-clause-joined g c = (
  λ h. absurd (true≢false (sym h)),
  λ path. absurd (ended_apart c.args.graph.now (g.I.Inside.inside c.args.set.now) c.units-units.ensures.sound c.args.units.0 c.args.units.1 c.loop-next.next c.loop-next.next
      c.loop-next.near.items c.loop-next.far.items (omega (arith, c.loop-next-test.false, c.count.ensures)) c.loop-next.invariant.near_search c.loop-next.invariant.far_search
      c.loop-next.invariant.apart path),
)
