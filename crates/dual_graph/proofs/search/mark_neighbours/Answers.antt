use Rattle.std.proofs.Common.{◌≡◌, ℕ, ◌+◌, ◌<◌, ◌++◌, ◌∷◌, Bool, true, length, take, get_or, List, [], sym, ap, subst, ◌∙◌, inl, inr}
use Rattle.std.proofs.lemmas.Bool.{cases_Bool, both_ways, true_from_ne_false}
use Rattle.std.proofs.lemmas.List.{take_more}
use Rattle.audit_model.specs.Graph.{Graph, has, IsIn}
use Rattle.audit_model.proofs.Searching.{adds_passed, adds_pushed}
use Rattle.audit_model.specs.Search.{AddsFrom}
use Rattle.dual_graph.specs.Marked.{Marked, IsMarked}
use Rattle.dual_graph.proofs.search.mark_neighbours.Goals as goal
use Rattle.dual_graph.proofs.search.mark_neighbours.Goals.{then-holds, else-holds}

pub loop-other-preserved : goal.loop-other-preserved
loop-other-preserved g c =
    let graph : Graph = c.args.within.now.graph.now in
    let inside : ℕ → Bool = g.I.Inside.inside c.args.within.now.set.now in
    let row : List ℕ = c.neighbours-other-items.result.now in
    let i : ℕ = c.loop-other.other-index in
    let lt : i < length row = c.loop-other-test.true in
    let v : ℕ = get_or row i 0 in
    let old : List ℕ = c.args.marks.now.items in
    let m : Marked = c.loop-other.marks in
    let adds : AddsFrom graph inside (take i row) old m.items = c.loop-other.invariant.added in
    let more : take i row ++ v ∷ [] ≡ take (i + 1) row = sym (take_more row i 0 lt) in
    let far : (new : List ℕ) → AddsFrom graph inside (take i row ++ v ∷ []) old new → AddsFrom graph inside (take (i + 1) row) old new =
    λ new h. subst (λ (r : List ℕ). AddsFrom graph inside r old new) more h in
    elim c.if-holds.branch [
      | then-holds w ↦
          let is_in : IsIn graph inside v = (c.neighbours-other-items.ensures.below i 0 lt, sym c.holds.ensures ∙ w.if-holds.true) in
          record {
            units = ap (λ (t : Marked). t.units) w.marks-is ∙ w.mark.ensures.units ∙ c.loop-other.invariant.units;
            marked = subst IsMarked (sym w.marks-is) w.mark.ensures.sound;
            added = subst (λ (t : Marked). AddsFrom graph inside (take (i + 1) row) old t.items) (sym w.marks-is) (elim (cases_Bool w.mark.result) [
              | inl new ↦ subst (λ (t : List ℕ). AddsFrom graph inside (take (i + 1) row) old t) (sym (w.mark.ensures.appended new)) (far (m.items ++ v ∷ []) (adds_pushed graph inside (take i row) old m.items v adds is_in))
              | inr there ↦
                  let was : has m.items v ≡ true = true_from_ne_false (has m.items v) (λ none. both_ways w.mark.result there (w.mark.ensures.new.1 none)) in
                  subst (λ (t : Marked). AddsFrom graph inside (take (i + 1) row) old t.items) (sym (w.mark.ensures.unchanged there)) (far m.items (adds_passed graph inside (take i row) old m.items v adds (λ _. was)))
            ]);
          }
      | else-holds w ↦ record {
        units = ap (λ (t : Marked). t.units) w.marks-is ∙ c.loop-other.invariant.units;
        marked = subst IsMarked (sym w.marks-is) c.loop-other.invariant.marked;
        added = subst (λ (t : Marked). AddsFrom graph inside (take (i + 1) row) old t.items) (sym w.marks-is)
            (far m.items (adds_passed graph inside (take i row) old m.items v adds (λ is_in. absurd (both_ways c.holds.result w.if-holds.false (c.holds.ensures ∙ is_in.1)))));
      }
    ]
