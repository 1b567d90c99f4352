use Rattle.std.proofs.Common.{◌≡◌, ℕ, false, ◌+◌, ◌<◌, List, [], length, get_or, drop, sym, ap, ◌∙◌, subst, arith}
use Rattle.std.proofs.lemmas.Bool.{both_ways}
use Rattle.std.specs.List.{list_all}
use Rattle.audit_model.specs.District.{in_district}
use Rattle.audit_model.specs.Graph.{has}
use Rattle.contig.specs.Faces.{AreCycles, count_inner_faces, share_face}
use Rattle.contig.specs.Long.{units_of_all, units_on}
use Rattle.contig.specs.declared.long.LongRing.{LongRing}
use Rattle.contig.proofs.LongFaces.{inner_shares}
use Rattle.contig.proofs.LongLists.{apart_more, below_at, counted_all, cycle_at, inner_more, outer_more, rings_length}
use Rattle.contig.proofs.long.LongFaces.count_around.Goals.{then-lies_inside+else-has_unit, else-lies_inside}
use Rattle.contig.proofs.long.LongFaces.count_around.Goals as goal

pub lies_inside-requires : goal.lies_inside-requires
lies_inside-requires c =
    let m = c.args.leaving in
    let rings : List LongRing = c.rings-rings.result.now in
    let d : LongRing = record { count = 0; units = [] } in
    let cycle = cycle_at m.graph.now rings c.loop-place.place d c.loop-place-test.true (subst (AreCycles m.graph.now) (sym c.rings-rings.ensures) c.requires) in
    subst (λ (ring : List ℕ). (i : ℕ) → i < length ring → get_or ring i 0 < length m.plan.now) (sym c.as_slice-ring.ensures)
    (λ i l. subst (λ n. get_or (units_on (get_or rings c.loop-place.place d)) i 0 < n) (sym m.complete)
    (below_at m.graph.now.units (units_on (get_or rings c.loop-place.place d)) cycle.below i l))

pub loop-place-preserved : goal.loop-place-preserved
loop-place-preserved c =
    let m = c.args.leaving in
    let u : ℕ = m.unit in
    let inside = in_district m.plan.now (get_or m.plan.now u 0) in
    let rings : List LongRing = c.rings-rings.result.now in
    let k : ℕ = c.loop-place.place in
    let d : LongRing = record { count = 0; units = [] } in
    let all : ℕ = count_inner_faces inside (units_of_all rings) in
    let s = c.loop-place.invariant in
    let test : list_all inside (units_on (get_or rings k d)) ≡ c.lies_inside.result = ap (list_all inside) (sym c.as_slice-ring.ensures) ∙ sym c.lies_inside.ensures in
    elim c.if-lies_inside.branch [
      | then-lies_inside+else-has_unit w ↦
          let new : has (units_on (get_or rings k d)) u ≡ false = ap (λ (ring : List ℕ). has ring u) (sym c.as_slice-ring.ensures) ∙ sym w.has_unit.ensures ∙ w.if-has_unit.false in
          record {
            few = omega (arith, s.few, w.count-is);
            counted = subst (λ n. n + count_inner_faces inside (units_of_all (drop (k + 1) rings)) ≡ all) (sym w.count-is)
                (inner_more inside rings k d all c.loop-place.count c.loop-place-test.true (test ∙ w.if-lies_inside.true) s.counted);
            apart = apart_more (list_all inside) (λ ring. has ring u) rings k d c.loop-place-test.true s.apart (λ _. new);
          }
      | else-lies_inside w ↦
          let out : list_all inside (units_on (get_or rings k d)) ≡ false = test ∙ w.if-lies_inside.false in
          record {
            few = omega (arith, s.few, w.count-is);
            counted = subst (λ n. n + count_inner_faces inside (units_of_all (drop (k + 1) rings)) ≡ all) (sym w.count-is)
                (outer_more inside rings k d all c.loop-place.count c.loop-place-test.true out s.counted);
            apart = apart_more (list_all inside) (λ ring. has ring u) rings k d c.loop-place-test.true s.apart (λ h. absurd (both_ways (list_all inside (units_on (get_or rings k d))) out h));
          }
    ]

pub returns : goal.returns
returns c =
    let m = c.args.leaving in
    let u : ℕ = m.unit in
    let inside = in_district m.plan.now (get_or m.plan.now u 0) in
    let rings : List LongRing = c.rings-rings.result.now in
    let s = c.loop-place.invariant in
    let most = c.loop-place-test.false in
    subst (λ (long : List (List ℕ)). (c.loop-place.count ≡ count_inner_faces inside long) × ((x y : ℕ) → share_face long inside u x y ≡ false)) c.rings-rings.ensures (
      counted_all inside rings c.loop-place.place (count_inner_faces inside (units_of_all rings)) c.loop-place.count most s.counted,
      inner_shares (units_of_all rings) inside u (λ k d l h. s.apart k d (omega (arith, l, rings_length rings, most)) h),
    )
