use Rattle.std.proofs.Common.{◌≡◌, ◌<◌, get_or, refl, sym, ◌∙◌, subst, inl, inr, arith}
use Rattle.std.proofs.lemmas.Bool.{cases_lt}
use Rattle.contig.proofs.LongFaces.{apart_from_places}
use Rattle.contig.proofs.LongLists.{apart_here}
use Rattle.contig.proofs.long.are_distinct.Goals as goal

pub loop-place-preserved : goal.loop-place-preserved
loop-place-preserved c = λ i j li l lj. elim (cases_lt i c.loop-place.place) [
  | inl before ↦ c.loop-place.invariant i j before l lj
  | inr most ↦ subst (λ k. k < j → get_or c.args.ring.now k 0 ≡ get_or c.args.ring.now j 0 → ⊥) (omega (arith, li, most)) (λ more. apart_here c.args.ring.now _ c.loop-place.place j more lj refl (sym c.has_unit.ensures ∙ c.if-has_unit.false)) l
]

pub returns : goal.returns
returns c _ = apart_from_places c.args.ring.now (λ i j l lj. c.loop-place.invariant i j (omega (arith, l, lj, c.loop-place-test.false)) l lj)
