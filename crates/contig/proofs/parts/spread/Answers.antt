use Rattle.std.proofs.Common.{◌≡◌, ℕ, ◌+◌, ◌<◌, ◌++◌, ◌∷◌, Bool, true, false, not, ◌&&◌, ◌||◌, length, take, get_or, List, [], arith, refl, sym, ap, subst, ◌∙◌, inl, inr}
use Rattle.std.specs.Prelude.{◌==◌}
use Rattle.std.proofs.lemmas.Bool.{cases_Bool, and_from, and_left, and_right, eqb-true, eqb-false, both_ways}
use Rattle.std.proofs.lemmas.List.{take_all, take_more}
use Rattle.audit_model.specs.Graph.{Graph, has, adjacent, IsIn}
use Rattle.audit_model.specs.Local.{stays_behind}
use Rattle.audit_model.proofs.ListFacts.{at_has}
use Rattle.dual_graph.specs.Marked.{Marked}
use Rattle.contig.specs.Parts.{IsRowMarked, IsOnePart}
use Rattle.contig.proofs.Spreading.{row_passed, row_marked, one_passed, one_marked, not_met, above_zero}
use Rattle.contig.proofs.parts.spread.Goals as goal

pub loop-other-preserved : goal.loop-other-preserved
loop-other-preserved c =
    let g : Graph = c.args.leaving.graph.now in
    let plan : List ℕ = c.args.leaving.plan.now in
    let u : ℕ = c.args.leaving.unit in
    let inside : ℕ → Bool = stays_behind plan u in
    let row : List ℕ = c.neighbours-other-items.result.now in
    let i : ℕ = c.loop-other.other-index in
    let lt : i < length row = c.loop-other-test.true in
    let v : ℕ = get_or row i 0 in
    let old : Marked = c.args.marks.now in
    let new : Marked = c.loop-other.marks in
    let after : Marked = c.mark_if.new.self in
    let roots : List ℕ = c.args.roots.now in
    let label : ℕ = c.args.label in
    let unit : ℕ = c.args.unit in
    let there : ℕ = c.label-there.result in
    let s : IsRowMarked g inside (take i row) label old new roots = c.loop-other.invariant.marked in
    let more : take i row ++ v ∷ [] ≡ take (i + 1) row = sym (take_more row i 0 lt) in
    let lv : v < g.units = c.neighbours-other-items.ensures.below i 0 lt in
    let uv : adjacent g unit v ≡ true = subst (λ (xs : List ℕ). has xs v ≡ true) c.neighbours-other-items.ensures.list (at_has row i lt) in
    let vu : adjacent g v unit ≡ true = c.args.leaving.sound.symmetric v unit ∙ uv in
    let was : 0 < get_or old.labels unit 0 = subst (λ t. 0 < t) (sym c.requires.label.1) c.requires.label.0 in
    let found : get_or new.labels unit 0 ≡ label = s.spread.kept unit was ∙ c.requires.label.1 in
    let there_is : there ≡ get_or new.labels v 0 = c.label-there.ensures in
    let test : Bool = c.loop-other.met || (not (there == 0) && not (get_or roots there 0 == get_or roots label 0)) in
    let fails : test ≡ false → (c.loop-other.met ≡ false) × (0 < there → get_or roots there 0 ≡ get_or roots label 0) =
    not_met c.loop-other.met there (get_or roots there 0) (get_or roots label 0) in
    let passed : after ≡ new → (IsIn g inside v → 0 < there) → IsRowMarked g inside (take (i + 1) row) label old after roots =
    λ off pos. subst (λ (m : Marked). IsRowMarked g inside (take (i + 1) row) label old m roots) (sym off)
    (subst (λ (xs : List ℕ). IsRowMarked g inside xs label old new roots) more
    (row_passed g inside (take i row) label old new roots s v (λ j. subst (λ t. 0 < t) there_is (pos j)))) in
    let alone : after ≡ new → (IsIn g inside v → 0 < there) → test ≡ false → IsOnePart g inside (take (i + 1) row) label after.labels roots =
    λ off pos h. subst (λ (m : Marked). IsOnePart g inside (take (i + 1) row) label m.labels roots) (sym off)
    (subst (λ (xs : List ℕ). IsOnePart g inside xs label new.labels roots) more
    (one_passed g inside (take i row) label old new roots s v (c.loop-other.invariant.alone (fails h).0)
    (λ j. ap (λ t. get_or roots t 0) (sym there_is) ∙ (fails h).1 (pos j)))) in
    elim (cases_Bool (inside v)) [
      | inl in_rest ↦ elim (cases_Bool (there == 0)) [
        | inl none ↦
            let fresh = and_from (inside v) (there == 0) in_rest none in
            let room : v < new.units = subst (λ t. v < t) (sym (s.spread.units ∙ c.requires.found.units)) lv in
            let labels = c.mark_if.ensures.labels fresh in
            record {
              marked = subst (λ (xs : List ℕ). IsRowMarked g inside xs label old after roots) more
                  (row_marked g inside (take i row) label old new roots s v after room labels unit found c.requires.label.0 (lv, in_rest) uv vu
                  (sym there_is ∙ eqb-true there 0 none) c.mark_if.ensures.units (c.mark_if.ensures.items fresh) c.mark_if.ensures.sound);
              alone = λ h. subst (λ (xs : List ℕ). IsOnePart g inside xs label after.labels roots) more
                  (one_marked g inside (take i row) label old new roots s v after room labels (c.loop-other.invariant.alone (fails h).0));
            }
        | inr some ↦
            let off = c.mark_if.ensures.unchanged (and_right (inside v) (there == 0) some) in
            let pos : IsIn g inside v → 0 < there = λ j. above_zero there there refl (eqb-false there 0 some) in
            record { marked = passed off pos; alone = alone off pos }
      ]
      | inr out ↦
          let off = c.mark_if.ensures.unchanged (and_left (inside v) (there == 0) out) in
          let pos : IsIn g inside v → 0 < there = λ j. absurd (both_ways (inside v) out j.1) in
          record { marked = passed off pos; alone = alone off pos }
    ]

pub returns-clause-alone : goal.returns-clause-alone
returns-clause-alone c alone =
    let g : Graph = c.args.leaving.graph.now in
    subst (λ (xs : List ℕ). IsOnePart g (stays_behind c.args.leaving.plan.now c.args.leaving.unit) xs c.args.label c.loop-other.marks.labels c.args.roots.now)
    (take_all c.loop-other.other-index c.neighbours-other-items.result.now (omega (arith, c.loop-other-test.false)) ∙ c.neighbours-other-items.ensures.list) (c.loop-other.invariant.alone alone)
