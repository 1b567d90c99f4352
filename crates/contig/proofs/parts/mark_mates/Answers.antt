use Rattle.std.proofs.Common.{◌≡◌, ℕ, ◌+◌, ◌<◌, ◌++◌, ◌∷◌, true, length, take, get_or, List, [], arith, sym, subst, ◌∙◌}
use Rattle.std.specs.Prelude.{slice_index}
use Rattle.std.proofs.lemmas.Bool.{and_parts, and_from, eqb-true, eq-eqb}
use Rattle.std.proofs.lemmas.List.{take_all, take_more}
use Rattle.audit_model.specs.Graph.{Graph, has, adjacent}
use Rattle.audit_model.specs.District.{in_district}
use Rattle.audit_model.proofs.ListFacts.{at_has}
use Rattle.dual_graph.specs.Marked.{Marked}
use Rattle.contig.proofs.Between.{IsSeeding}
use Rattle.contig.proofs.Seeding.{seeding_passed, seeding_marked, not_labelled, not_before}
use Rattle.contig.proofs.parts.mark_mates.Goals as goal
use Rattle.contig.proofs.parts.mark_mates.Goals.{then-plan-v+else-count-eq-MOST, else-plan-v}

pub mark_as-requires-clause-absent : goal.mark_as-requires-clause-absent
mark_as-requires-clause-absent c =
    let row : List ℕ = c.neighbours-other-items.result.now in
    let i = c.loop-other.other-index in
    let rising : (j : ℕ) → j + 1 < length row → get_or row j 0 < get_or row (j + 1) 0 =
    subst (λ (xs : List ℕ). (j : ℕ) → j + 1 < length xs → get_or xs j 0 < get_or xs (j + 1) 0) (sym c.neighbours-other-items.ensures.list) (c.args.leaving.sound.rising c.args.leaving.unit) in
    not_labelled c.args.leaving.graph.now c.args.leaving.plan.now c.args.leaving.unit (take i row) c.loop-other.count c.loop-other.marks (get_or row i 0) c.loop-other.invariant.seeding (not_before row i rising c.loop-other-test.true)

pub loop-other-preserved : goal.loop-other-preserved
loop-other-preserved c =
    let g : Graph = c.args.leaving.graph.now in
    let plan : List ℕ = c.args.leaving.plan.now in
    let u : ℕ = c.args.leaving.unit in
    let row : List ℕ = c.neighbours-other-items.result.now in
    let i : ℕ = c.loop-other.other-index in
    let lt : i < length row = c.loop-other-test.true in
    let v : ℕ = get_or row i 0 in
    let m : Marked = c.loop-other.marks in
    let count : ℕ = c.loop-other.count in
    let rising : (j : ℕ) → j + 1 < length row → get_or row j 0 < get_or row (j + 1) 0 =
    subst (λ (xs : List ℕ). (j : ℕ) → j + 1 < length xs → get_or xs j 0 < get_or xs (j + 1) 0) (sym c.neighbours-other-items.ensures.list) (c.args.leaving.sound.rising u) in
    let fresh : has (take i row) v ≡ true → ⊥ = not_before row i rising lt in
    let more : take i row ++ v ∷ [] ≡ take (i + 1) row = sym (take_more row i 0 lt) in
    let s : IsSeeding g plan u (take i row) count m = c.loop-other.invariant.seeding in
    let uv : adjacent g u v ≡ true = subst (λ (xs : List ℕ). has xs v ≡ true) c.neighbours-other-items.ensures.list (at_has row i lt) in
    let lv : v < g.units = c.neighbours-other-items.ensures.below i 0 lt in
    let far : (n : ℕ) (x : Marked) → c.if-plan-v.count ≡ n → c.if-plan-v.marks ≡ x → IsSeeding g plan u (take i row ++ v ∷ []) n x
    → IsSeeding g plan u (take (i + 1) row) c.if-plan-v.count c.if-plan-v.marks =
    λ n x en ex h. subst (λ t. IsSeeding g plan u (take (i + 1) row) t c.if-plan-v.marks) (sym en)
    (subst (λ (t : Marked). IsSeeding g plan u (take (i + 1) row) n t) (sym ex)
    (subst (λ (xs : List ℕ). IsSeeding g plan u xs n x) more h)) in
    elim c.if-plan-v.branch [
      | then-plan-v+else-count-eq-MOST w ↦ record {
        seeding = far (count + 1) w.mark_as.new.self w.count-is w.marks-is
            (seeding_marked g plan u (take i row) count m v s w.mark_as.new.self fresh
            (lv, and_from (adjacent g u v) (in_district plan (slice_index plan u) v) uv (eq-eqb (get_or plan v 0) (get_or plan u 0) w.if-plan-v.true))
            w.mark_as.ensures.units w.mark_as.ensures.items w.mark_as.ensures.labels w.mark_as.ensures.sound);
        few = omega (arith, w.count-is, c.loop-other.invariant.few, w.if-count-eq-MOST.false);
      }
      | else-plan-v w ↦ record {
        seeding = far count m w.count-is w.marks-is
            (seeding_passed g plan u (take i row) count m v s
            (λ j. w.if-plan-v.false (eqb-true (get_or plan v 0) (get_or plan u 0) (and_parts (adjacent g u v) (in_district plan (slice_index plan u) v) j.1).1)));
        few = omega (arith, w.count-is, c.loop-other.invariant.few);
      }
    ]

pub returns-then-count-eq-MOST-clause-seeded : goal.returns-then-count-eq-MOST-clause-seeded
returns-then-count-eq-MOST-clause-seeded c most = absurd (omega (arith, most))

pub returns-clause-seeded : goal.returns-clause-seeded
returns-clause-seeded c few =
    let g : Graph = c.args.leaving.graph.now in
    let plan : List ℕ = c.args.leaving.plan.now in
    let u : ℕ = c.args.leaving.unit in
    let s = subst (λ (xs : List ℕ). IsSeeding g plan u xs c.loop-other.count c.loop-other.marks)
    (take_all c.loop-other.other-index c.neighbours-other-items.result.now (omega (arith, c.loop-other-test.false)) ∙ c.neighbours-other-items.ensures.list) c.loop-other.invariant.seeding in
    record {
      few = few;
      units = s.units;
      marked = s.marked;
      small = s.small;
      seeds = s.seeds;
      single = s.single;
      mates = λ v p. (s.mates v p).0;
      complete = λ v i. s.complete v i (and_parts (adjacent g u v) (in_district plan (slice_index plan u) v) i.1).0;
      order = s.order;
    }
