use Rattle.std.proofs.Common.{◌≤◌, refl, sym, ◌∙◌, arith}
use Rattle.std.proofs.lemmas.Bool.{both_ways}
use Rattle.audit_model.specs.Local.{IsLocal}
use Rattle.audit_model.proofs.Local.{may_leave, simple}
use Rattle.contig.proofs.Growing.{seeds_joined}
use Rattle.contig.proofs.Ending.{one_leaves}
use Rattle.contig.proofs.Places.{own_labels, own_at}
use Rattle.contig.proofs.TwoParts.{mate_at, one_stays, other_stays, two_units, two_leave}
use Rattle.contig.proofs.leave.can_leave.Goals as goal

pub returns-then-mates-eq1-clause-leaves : goal.returns-then-mates-eq1-clause-leaves
returns-then-mates-eq1-clause-leaves g c connected =
    let few : c.mark_mates-mates.result ≤ 16 = omega (arith, c.if-mates-eq1.true) in (
      λ _. one_leaves c.args.leaving.graph.now c.args.leaving.plan.now c.args.leaving.unit c.args.leaving.sound c.args.leaving.within connected c.mark_mates-mates.result c.mark_mates-mates.new.marks
          (c.mark_mates-mates.ensures.seeded few) c.if-mates-eq1.true,
      λ _. refl,
    )

pub returns-then-mates_are_whole-clause-leaves : goal.returns-then-mates_are_whole-clause-leaves
returns-then-mates_are_whole-clause-leaves g c connected =
    let local : IsLocal c.args.leaving.graph.now c.args.leaving.plan.now c.args.leaving.unit = c.mates_are_whole.ensures.whole.0 c.if-mates_are_whole.true in (
      λ _. may_leave c.args.leaving.graph.now c.args.leaving.plan.now c.args.leaving.unit (simple c.args.leaving.graph.now c.args.leaving.sound) local connected,
      λ _. refl,
    )

pub are_linked-requires-clause-joined : goal.are_linked-requires-clause-joined
are_linked-requires-clause-joined g c =
    let few : c.mark_mates-mates.result ≤ 16 = omega (arith, c.if-mates-gt-MOST.false) in
    seeds_joined c.args.leaving.graph.now c.args.leaving.plan.now c.args.leaving.unit c.mark_mates-mates.result c.mark_mates-mates.new.marks own_labels (c.mark_mates-mates.ensures.seeded few) few own_at

pub returns-then-are_linked-clause-leaves : goal.returns-then-are_linked-clause-leaves
returns-then-are_linked-clause-leaves g c connected =
    let local : IsLocal c.args.leaving.graph.now c.args.leaving.plan.now c.args.leaving.unit = c.are_linked.ensures.local.0 c.if-are_linked.true in (
      λ _. may_leave c.args.leaving.graph.now c.args.leaving.plan.now c.args.leaving.unit (simple c.args.leaving.graph.now c.args.leaving.sound) local connected,
      λ _. refl,
    )

pub returns-then-mates-eq1-clause-marks : goal.returns-then-mates-eq1-clause-marks
returns-then-mates-eq1-clause-marks g c = c.mark_mates-mates.ensures.units ∙ sym c.requires

pub returns-then-mates_are_whole-clause-marks : goal.returns-then-mates_are_whole-clause-marks
returns-then-mates_are_whole-clause-marks g c = c.mates_are_whole.ensures.units ∙ sym c.requires

pub returns-then-mates-eq0-clause-marks : goal.returns-then-mates-eq0-clause-marks
returns-then-mates-eq0-clause-marks g c = c.rest_is_whole.ensures.units ∙ sym c.requires

pub returns-then-mates-eq0-clause-leaves : goal.returns-then-mates-eq0-clause-leaves
returns-then-mates-eq0-clause-leaves g c _ = c.rest_is_whole.ensures.whole

pub returns-then-mates-eq0-clause-local : goal.returns-then-mates-eq0-clause-local
returns-then-mates-eq0-clause-local g c local = absurd (both_ways c.mates_are_whole.result c.if-mates_are_whole.false (c.mates_are_whole.ensures.whole.1 local))

pub returns-then-are_linked-clause-marks : goal.returns-then-are_linked-clause-marks
returns-then-are_linked-clause-marks g c = c.mark_mates-mates.ensures.units ∙ sym c.requires

pub at-one-requires : goal.at-one-requires
at-one-requires g c =
    let few : c.mark_mates-mates.result ≤ 16 = omega (arith, c.if-mates-gt-MOST.false) in
    let other = c.other_part-other.ensures.within in
    (mate_at c.args.leaving.graph.now c.args.leaving.plan.now c.args.leaving.unit c.mark_mates-mates.result c.mark_mates-mates.new.marks
    (c.mark_mates-mates.ensures.seeded few) 1 (omega arith) (omega (arith, other.0, other.1))).0

pub at-other-requires : goal.at-other-requires
at-other-requires g c =
    let few : c.mark_mates-mates.result ≤ 16 = omega (arith, c.if-mates-gt-MOST.false) in
    let other = c.other_part-other.ensures.within in
    (mate_at c.args.leaving.graph.now c.args.leaving.plan.now c.args.leaving.unit c.mark_mates-mates.result c.mark_mates-mates.new.marks
    (c.mark_mates-mates.ensures.seeded few) c.other_part-other.result other.0 other.1).0

pub rest_joins-requires-clause-one : goal.rest_joins-requires-clause-one
rest_joins-requires-clause-one g c =
    let few : c.mark_mates-mates.result ≤ 16 = omega (arith, c.if-mates-gt-MOST.false) in
    let within = c.other_part-other.ensures.within in
    one_stays c.args.leaving.graph.now c.args.leaving.plan.now c.args.leaving.unit c.mark_mates-mates.result c.mark_mates-mates.new.marks
    (c.mark_mates-mates.ensures.seeded few) c.args.leaving.sound c.other_part-other.result c.at-one.result c.at-other.result within.0 within.1 c.at-one.ensures c.at-other.ensures

pub rest_joins-requires-clause-other : goal.rest_joins-requires-clause-other
rest_joins-requires-clause-other g c =
    let few : c.mark_mates-mates.result ≤ 16 = omega (arith, c.if-mates-gt-MOST.false) in
    let within = c.other_part-other.ensures.within in
    other_stays c.args.leaving.graph.now c.args.leaving.plan.now c.args.leaving.unit c.mark_mates-mates.result c.mark_mates-mates.new.marks
    (c.mark_mates-mates.ensures.seeded few) c.args.leaving.sound c.other_part-other.result c.at-one.result c.at-other.result within.0 within.1 c.at-one.ensures c.at-other.ensures

pub rest_joins-requires-clause-apart : goal.rest_joins-requires-clause-apart
rest_joins-requires-clause-apart g c =
    let few : c.mark_mates-mates.result ≤ 16 = omega (arith, c.if-mates-gt-MOST.false) in
    let within = c.other_part-other.ensures.within in
    two_units c.args.leaving.graph.now c.args.leaving.plan.now c.args.leaving.unit c.mark_mates-mates.result c.mark_mates-mates.new.marks
    (c.mark_mates-mates.ensures.seeded few) c.args.leaving.sound c.other_part-other.result c.at-one.result c.at-other.result within.0 within.1 c.at-one.ensures c.at-other.ensures
    c.are_linked.new.roots c.other_part-other.ensures.other

pub returns-then-are_two_parts-clause-leaves : goal.returns-then-are_two_parts-clause-leaves
returns-then-are_two_parts-clause-leaves g c connected =
    let few : c.mark_mates-mates.result ≤ 16 = omega (arith, c.if-mates-gt-MOST.false) in
    let within = c.other_part-other.ensures.within in
    let leave = two_leave c.args.leaving.graph.now c.args.leaving.plan.now c.args.leaving.unit c.mark_mates-mates.result c.mark_mates-mates.new.marks
    (c.mark_mates-mates.ensures.seeded few) c.args.leaving.sound c.other_part-other.result c.at-one.result c.at-other.result within.0 within.1 c.at-one.ensures c.at-other.ensures
    c.args.leaving.within connected c.are_linked.new.roots c.are_linked.ensures.joined (c.if-are_two_parts.ensures refl) in
    (λ h. leave.0 (c.rest_joins.ensures.joined.0 h), λ may. c.rest_joins.ensures.joined.1 (leave.1 may))

pub returns-then-are_two_parts-clause-marks : goal.returns-then-are_two_parts-clause-marks
returns-then-are_two_parts-clause-marks g c = c.rest_joins.ensures.units ∙ sym c.requires

pub returns-clause-marks : goal.returns-clause-marks
returns-clause-marks g c = c.meet.ensures.units ∙ sym c.requires

pub returns-clause-leaves : goal.returns-clause-leaves
returns-clause-leaves g c = c.meet.ensures.leaves

pub returns-clause-local : goal.returns-clause-local
returns-clause-local g c local = absurd (both_ways c.are_linked.result c.if-are_linked.false (c.are_linked.ensures.local.1 local))
