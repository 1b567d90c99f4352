use Rattle.std.proofs.Common.{◌≡◌, ℕ, ◌+◌, ◌-◌, ◌*◌, ◌^◌, ◌<◌, List, length, get_or, Some, sym, ap, subst, ◌∙◌, arith}
use Rattle.std.proofs.lemmas.Bool.{both_ways}
use Rattle.audit_model.specs.Job.{Job}
use Rattle.audit_model.specs.Plan.{IsLegal}
use Rattle.audit_model.specs.Proposal.{proposal}
use Rattle.audit_model.specs.Step.{next, mirrored}
use Rattle.audit_model.proofs.Mirror.{mirrored_below, mirrored_stays}
use Rattle.std.proofs.Math.Nat.{mod-le}
use Rattle.flip_kernel.specs.ChainState.{IsStep, ProposesOpen}
use Rattle.flip_kernel.proofs.flip.find_mirror.Goals as goal
use Rattle.flip_kernel.proofs.Flipping.{next_moved, next_stays, move_differs, mirrored_turned, proposed_place}

-- a draw minus its district, plus the unit's old district
turned : (job : Job) (plan : List ℕ) (draw unit district minus plus : ℕ) → proposal job.graph.units job.districts draw ≡ Some (unit, district)
    → unit < length plan → IsStep job plan draw unit district → minus ≡ district → plus ≡ get_or plan unit 0 → draw - minus + plus ≡ mirrored job plan draw
turned job plan draw unit district minus plus is l move less more =
    ap (λ (n : ℕ). draw - n + plus) less ∙ ap (λ (n : ℕ). draw - district + n) more
    ∙ sym (mirrored_turned job plan draw unit district is
    (λ same. move_differs job plan draw unit district l move.move (sym (next_moved job plan draw unit district is move) ∙ same)))

pub returns-in-None-clause-value : goal.returns-in-None-clause-value
returns-in-None-clause-value g c =
    let plan : List ℕ = c.args.state.now.plan in
    sym (mirrored_stays c.args.job.now plan c.args.draw (subst (λ (j : Job). next j plan c.args.draw ≡ plan) c.requires.made c.in-None.ensures))

pub overflow_add-result : goal.overflow_add-result
overflow_add-result g c =
    let job = c.args.job.now in
    let plan : List ℕ = c.args.state.now.plan in
    let offer : ProposesOpen job plan c.args.draw c.in-Some.unit c.in-Some.district =
    subst (λ (j : Job). ProposesOpen j plan c.args.draw c.in-Some.unit c.in-Some.district) c.requires.made c.in-Some.ensures in
    let legal : IsLegal job plan = subst (λ (j : Job). IsLegal j plan) c.requires.made c.plan-plan.ensures.legal in
    let draw_below : c.args.draw < 2 ^ 64 = omega arith in
    let below : mirrored job plan c.args.draw < 2 ^ 64 = mirrored_below job plan c.args.draw legal draw_below in
    let same = turned job plan c.args.draw c.in-Some.unit c.in-Some.district c.from.result c.from-then-may_move.result offer.proposed offer.inside (c.may_move.ensures.moves.0 c.if-may_move.true)
    c.from.ensures (c.from-then-may_move.ensures ∙ ap (λ (p : List ℕ). get_or p c.in-Some.unit 0) (c.as_slice.ensures ∙ c.plan-plan.ensures.value)) in
    omega (arith, below, same)

pub returns-then-may_move-clause-value : goal.returns-then-may_move-clause-value
returns-then-may_move-clause-value g c =
    let job = c.args.job.now in
    let plan : List ℕ = c.args.state.now.plan in
    let offer : ProposesOpen job plan c.args.draw c.in-Some.unit c.in-Some.district =
    subst (λ (j : Job). ProposesOpen j plan c.args.draw c.in-Some.unit c.in-Some.district) c.requires.made c.in-Some.ensures in
    turned job plan c.args.draw c.in-Some.unit c.in-Some.district c.from.result c.from-then-may_move.result offer.proposed offer.inside (c.may_move.ensures.moves.0 c.if-may_move.true)
    c.from.ensures (c.from-then-may_move.ensures ∙ ap (λ (p : List ℕ). get_or p c.in-Some.unit 0) (c.as_slice.ensures ∙ c.plan-plan.ensures.value))

pub returns-clause-value : goal.returns-clause-value
returns-clause-value g c =
    let job = c.args.job.now in
    let plan : List ℕ = c.args.state.now.plan in
    let offer : ProposesOpen job plan c.args.draw c.in-Some.unit c.in-Some.district =
    subst (λ (j : Job). ProposesOpen j plan c.args.draw c.in-Some.unit c.in-Some.district) c.requires.made c.in-Some.ensures in
    sym (mirrored_stays job plan c.args.draw (next_stays job plan c.args.draw c.in-Some.unit c.in-Some.district offer.proposed
    (λ move. both_ways c.may_move.result c.if-may_move.false (c.may_move.ensures.moves.1 move))))

pub returns-in-None-clause-legal : goal.returns-in-None-clause-legal
returns-in-None-clause-legal g c = subst (λ (j : Job). IsLegal j c.args.state.now.plan) c.requires.made c.plan-plan.ensures.legal

pub bounds-as_slice-unit : goal.bounds-as_slice-unit
bounds-as_slice-unit g c =
    let long = ap (length {A = ℕ}) (c.as_slice.ensures ∙ c.plan-plan.ensures.value) in
    omega (arith, long, c.in-Some.ensures.inside)

pub invariant_of-flip : goal.invariant_of-flip
invariant_of-flip g c =
    let offer = subst (λ (j : Job). ProposesOpen j c.args.state.now.plan c.args.draw c.in-Some.unit c.in-Some.district) c.requires.made c.in-Some.ensures in
    record { unit_below = offer.unit_below; district_below = offer.district_below }

pub may_move-requires-clause-made : goal.may_move-requires-clause-made
may_move-requires-clause-made g c = c.requires.made

pub may_move-requires-clause-beside : goal.may_move-requires-clause-beside
may_move-requires-clause-beside g c =
    let offer = subst (λ (j : Job). ProposesOpen j c.args.state.now.plan c.args.draw c.in-Some.unit c.in-Some.district) c.requires.made c.in-Some.ensures in
    offer.beside

pub overflow_sub-result : goal.overflow_sub-result
overflow_sub-result g c =
    let offer = c.in-Some.ensures in
    let job = c.args.state.now.job in
    omega (
      arith,
      proposed_place job.graph.units job.districts c.args.draw c.in-Some.unit c.in-Some.district offer.proposed,
      mod-le c.args.draw (job.graph.units * job.districts),
      c.from.ensures,
    )

pub returns-then-may_move-clause-same : goal.returns-then-may_move-clause-same
returns-then-may_move-clause-same g c = c.may_move.ensures.same

pub returns-then-may_move-clause-legal : goal.returns-then-may_move-clause-legal
returns-then-may_move-clause-legal g c = subst (λ (j : Job). IsLegal j c.args.state.now.plan) c.requires.made c.plan-plan.ensures.legal

pub returns-clause-same : goal.returns-clause-same
returns-clause-same g c = c.may_move.ensures.same

pub returns-clause-legal : goal.returns-clause-legal
returns-clause-legal g c = subst (λ (j : Job). IsLegal j c.args.state.now.plan) c.requires.made c.plan-plan.ensures.legal
