use Rattle.std.proofs.Common.{◌≡◌, ℕ, ◌<◌, ◌++◌, ◌∷◌, Bool, false, length, get_or, List, [], arith, sym, ap, subst, ◌∙◌}
use Rattle.audit_model.specs.Graph.{Graph, has}
use Rattle.dual_graph.specs.Marked.{Marked}
use Rattle.dual_graph.proofs.Marking.{items_le}
use Rattle.audit_model.proofs.ListFacts.{at_has}
use Rattle.audit_model.proofs.Searching.{search_begins, search_goes_on, search_ends}
use Rattle.audit_model.specs.Search.{IsSearch}
use Rattle.dual_graph.proofs.search.reach.Goals as goal

pub loop-next-init : goal.loop-next-init
loop-next-init g c =
    let graph : Graph = c.args.within.now.graph.now in
    let inside : ℕ → Bool = g.I.Inside.inside c.args.within.now.set.now in
    let absent : has c.clear.new.self.items c.args.start ≡ false = ap (λ (t : List ℕ). has t c.args.start) c.clear.ensures.items in
    let items : c.mark.new.self.items ≡ c.args.start ∷ [] = c.mark.ensures.appended (c.mark.ensures.new.1 absent) ∙ ap (λ (t : List ℕ). t ++ c.args.start ∷ []) c.clear.ensures.items in
    record {
      units = c.mark.ensures.units ∙ c.clear.ensures.units ∙ c.requires.units;
      marked = c.mark.ensures.sound;
      search = subst (λ (t : List ℕ). IsSearch graph inside c.args.start 0 t) (sym items) (search_begins graph inside c.args.start c.requires.start);
    }

pub mark_neighbours-requires-clause-unit : goal.mark_neighbours-requires-clause-unit
mark_neighbours-requires-clause-unit g c =
    let m : Marked = c.loop-next.marks in
    let lt : c.loop-next.next < length m.items = omega (arith, c.loop-next-test.true, c.count.ensures) in
    subst (λ t. t < c.args.within.now.graph.now.units) (sym c.at-unit.ensures)
    (subst (λ t. get_or m.items c.loop-next.next 0 < t) c.loop-next.invariant.units (c.loop-next.invariant.marked.below (get_or m.items c.loop-next.next 0) (at_has m.items c.loop-next.next lt)))

pub loop-next-smaller : goal.loop-next-smaller
loop-next-smaller g c =
    let le = items_le c.loop-next.marks c.loop-next.invariant.marked in
    omega (arith, le, c.loop-next-test.true, c.count.ensures, c.loop-next.invariant.units)

pub loop-next-preserved : goal.loop-next-preserved
loop-next-preserved g c =
    let graph : Graph = c.args.within.now.graph.now in
    let inside : ℕ → Bool = g.I.Inside.inside c.args.within.now.set.now in
    let lt : c.loop-next.next < length c.loop-next.marks.items = omega (arith, c.loop-next-test.true, c.count.ensures) in
    record {
      units = c.mark_neighbours.ensures.units;
      marked = c.mark_neighbours.ensures.marked;
      search = search_goes_on graph inside c.args.start c.loop-next.next c.loop-next.marks.items c.mark_neighbours.new.marks.items (get_or graph.neighbours c.at-unit.result [])
          (ap (λ (t : ℕ). get_or graph.neighbours t []) c.at-unit.ensures) lt c.loop-next.invariant.search c.mark_neighbours.ensures.added;
    }

pub returns-clause-found : goal.returns-clause-found
returns-clause-found g c =
    search_ends c.args.within.now.graph.now (g.I.Inside.inside c.args.within.now.set.now) c.args.start c.loop-next.marks.items c.loop-next.next
    (omega (arith, c.loop-next-test.false, c.count.ensures)) c.loop-next.invariant.search
