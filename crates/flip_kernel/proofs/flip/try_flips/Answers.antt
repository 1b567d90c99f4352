use Rattle.std.proofs.Common.{◌≡◌, ℕ, ◌+◌, ◌-◌, Some, slice_index, subst, arith}
use Rattle.audit_model.specs.Job.{Job}
use Rattle.audit_model.specs.Proposal.{proposal}
use Rattle.audit_model.specs.Step.{next}
use Rattle.flip_kernel.specs.ChainState.{ChainState, ProposesOpen}
use Rattle.flip_kernel.proofs.Flipping.{flip_next, flip_rejected}
use Rattle.flip_kernel.proofs.flip.try_flips.Goals as goal

-- the index before the next one
back : (n : ℕ) → n ≡ n + 1 - 1
back n = omega arith

pub returns-in-Some-clause-next : goal.returns-in-Some-clause-next
returns-in-Some-clause-next g c =
    let job = c.args.job.now in
    let old : ChainState = c.args.state.now in
    let place = c.in-Some.place in
    let draw = slice_index c.args.draws.now place in
    let offer : ProposesOpen old.job old.plan draw c.in-Some.unit c.in-Some.district = c.in-Some.ensures.found.2 in
    subst (λ (k : ℕ). c.flip.new.self ≡ record { job = old.job; plan = next job old.plan (slice_index c.args.draws.now k) }) (back place)
    (flip_next job old c.flip.new.self draw c.in-Some.unit c.in-Some.district c.flip.result
    (subst (λ (j : Job). proposal j.graph.units j.districts draw ≡ Some (c.in-Some.unit, c.in-Some.district)) c.requires.made offer.proposed) offer.inside
    c.flip.ensures.moves c.flip.ensures.moved c.flip.ensures.unchanged)

pub returns-in-Some-clause-unchanged : goal.returns-in-Some-clause-unchanged
returns-in-Some-clause-unchanged g c =
    let job = c.args.job.now in
    let old : ChainState = c.args.state.now in
    let draw = slice_index c.args.draws.now c.in-Some.place in
    let offer : ProposesOpen old.job old.plan draw c.in-Some.unit c.in-Some.district = c.in-Some.ensures.found.2 in
    flip_rejected job old c.flip.new.self draw c.in-Some.unit c.in-Some.district c.flip.result
    (subst (λ (j : Job). proposal j.graph.units j.districts draw ≡ Some (c.in-Some.unit, c.in-Some.district)) c.requires.made offer.proposed) offer.inside
    c.flip.ensures.moves c.flip.ensures.moved c.flip.ensures.unchanged
