use Rattle.std.proofs.Common.{◌<◌, ◌≤◌, length, get_or, sym, subst, inl, inr, arith}
use Rattle.std.proofs.lemmas.Bool.{cases_Bool}
use Rattle.dual_graph.specs.Marked.{Marked}
use Rattle.contig.proofs.Linking.{linked_stays, linked_one, linked_parted}
use Rattle.contig.proofs.parts.are_linked.Goals as goal
use Rattle.audit_model.proofs.ListFacts.{at_has}

pub link-requires-clause-unit : goal.link-requires-clause-unit
link-requires-clause-unit c =
    let m : Marked = c.args.marks.now in
    let s = c.requires.seeded in
    let lt : c.loop-place.place < length m.items = omega (arith, c.loop-place-test.true, c.count-place-end.ensures) in
    subst (λ t. t < c.args.leaving.graph.now.units) (sym c.at.ensures)
    (subst (λ t. get_or m.items c.loop-place.place 0 < t) s.units (s.marked.below (get_or m.items c.loop-place.place 0) (at_has m.items c.loop-place.place lt)))

pub returns-clause-local : goal.returns-clause-local
returns-clause-local c =
    let all : length c.args.marks.now.items ≤ c.loop-place.place = omega (arith, c.loop-place-test.false, c.count-place-end.ensures) in (
      λ h. linked_one c.args.leaving.graph.now c.args.leaving.plan.now c.args.leaving.unit c.args.last c.args.marks.now c.requires.seeded c.loop-place.roots c.loop-place.place c.loop-place.invariant
          c.requires.some (c.all_one.ensures.yes h),
      λ local. elim (cases_Bool c.all_one.result) [
        | inl e ↦ e
        | inr e ↦ absurd (linked_parted c.args.leaving.graph.now c.args.leaving.plan.now c.args.leaving.unit c.args.last c.args.marks.now c.requires.seeded c.loop-place.roots c.loop-place.place c.loop-place.invariant
            c.args.leaving.sound all c.requires.some (c.all_one.ensures.no e) local)
      ],
    )

pub returns-clause-joined : goal.returns-clause-joined
returns-clause-joined c =
    linked_stays c.args.leaving.graph.now c.args.leaving.plan.now c.args.leaving.unit c.args.last c.args.marks.now c.requires.seeded c.loop-place.roots c.loop-place.place c.loop-place.invariant c.args.leaving.sound
