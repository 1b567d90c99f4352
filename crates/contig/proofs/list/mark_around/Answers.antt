use Rattle.std.proofs.Common.{◌≡◌, true, ℕ, List, length, get_or, sym, ◌∙◌, subst, inl, inr, arith}
use Rattle.std.proofs.lemmas.Bool.{cases_lt}
use Rattle.contig.specs.Faces.{has_side}
use Rattle.contig.specs.Listed.{is_marked, side}
use Rattle.contig.specs.Cycles.{next_place}
use Rattle.contig.proofs.LongLists.{below_at, side_here, sides_pass}
use Rattle.contig.proofs.list.mark_around.Goals as goal

pub mark-requires-clause-units : goal.mark-requires-clause-units
mark-requires-clause-units c =
    let n : ℕ = c.args.graph.now.units in
    (below_at n c.args.ring.now c.requires.ring.below c.loop-place.place c.loop-place-test.true, below_at n c.args.ring.now c.requires.ring.below c.place_after-next.result c.place_after-next.ensures.within)

pub mark-requires-clause-near : goal.mark-requires-clause-near
mark-requires-clause-near c =
    let ring : List ℕ = c.args.ring.now in
    let k : ℕ = c.loop-place.place in
    c.requires.ring.sides (get_or ring k 0) (get_or ring c.place_after-next.result 0)
    (subst (λ j. has_side ring (get_or ring k 0) (get_or ring j 0) ≡ true) (sym c.place_after-next.ensures.value) (side_here ring k c.requires.ring.size c.loop-place-test.true))

pub loop-place-preserved : goal.loop-place-preserved
loop-place-preserved c =
    let g = c.args.graph.now in
    let ring : List ℕ = c.args.ring.now in
    let k : ℕ = c.loop-place.place in
    let s = c.loop-place.invariant in
    record {
      width = c.mark.ensures.width ∙ s.width;
      kept = λ q h. c.mark.ensures.kept q (s.kept q h);
      there = λ i l. elim (cases_lt i k) [
        | inl less ↦ c.mark.ensures.kept (side (get_or ring i 0) (get_or ring (next_place (length ring) i) 0)) (s.there i less)
        | inr most ↦ subst (λ j. is_marked g c.mark.new.marks.items (side (get_or ring j 0) (get_or ring (next_place (length ring) j) 0)) ≡ true) (omega (arith, l, most))
            (subst (λ j. is_marked g c.mark.new.marks.items (side (get_or ring k 0) (get_or ring j 0)) ≡ true) c.place_after-next.ensures.value c.mark.ensures.there)
      ];
    }

pub returns-clause-there : goal.returns-clause-there
returns-clause-there c =
    sides_pass (is_marked c.args.graph.now c.loop-place.marks.items) c.args.ring.now (λ i l. c.loop-place.invariant.there i (omega (arith, l, c.loop-place-test.false)))
