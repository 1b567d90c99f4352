use Rattle.std.proofs.Common.{◌≡◌, true, ℕ, List, [], sym, ◌∙◌, subst, arith}
use Rattle.contig.specs.Faces.{IsCycle, has_side}
use Rattle.contig.specs.Listed.{is_marked, side}
use Rattle.contig.specs.declared.long.LongRing.{LongRing}
use Rattle.contig.proofs.LongLists.{any_more, any_of_all, cycle_at}
use Rattle.contig.proofs.list.mark_long.Goals as goal

pub mark_around-requires-clause-ring : goal.mark_around-requires-clause-ring
mark_around-requires-clause-ring c =
    let d : LongRing = record { count = 0; units = [] } in
    subst (IsCycle c.args.graph.now) (sym c.as_slice.ensures) (cycle_at c.args.graph.now c.args.rings.now c.loop-place.place d c.loop-place-test.true c.requires.cycles)

pub loop-place-preserved : goal.loop-place-preserved
loop-place-preserved c =
    let g = c.args.graph.now in
    let s = c.loop-place.invariant in
    let d : LongRing = record { count = 0; units = [] } in
    record {
      width = c.mark_around.ensures.width ∙ s.width;
      there = λ x y. any_more (λ ring. has_side ring x y) (is_marked g c.mark_around.new.marks.items (side x y) ≡ true) c.args.rings.now c.loop-place.place d c.loop-place-test.true
          (λ h. c.mark_around.ensures.kept (side x y) (s.there x y h))
          (λ h. c.mark_around.ensures.there x y (subst (λ (ring : List ℕ). has_side ring x y ≡ true) (sym c.as_slice.ensures) h));
    }

pub returns-clause-there : goal.returns-clause-there
returns-clause-there c = λ x y h.
    c.loop-place.invariant.there x y (any_of_all (λ ring. has_side ring x y) c.args.rings.now c.loop-place.place (omega (arith, c.loop-place-test.false)) h)
