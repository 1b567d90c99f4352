use Rattle.std.proofs.Common.{◌≡◌, Some, subst}
use Rattle.audit_model.specs.Job.{Job}
use Rattle.audit_model.specs.Proposal.{proposal}
use Rattle.flip_kernel.specs.ChainState.{ChainState, ProposesOpen}
use Rattle.flip_kernel.proofs.Flipping.{flip_next, flip_rejected}
use Rattle.flip_kernel.proofs.flip.try_flip.Goals as goal

pub returns-in-Some-clause-next : goal.returns-in-Some-clause-next
returns-in-Some-clause-next g c =
    let job = c.args.job.now in
    let old : ChainState = c.args.state.now in
    let offer : ProposesOpen old.job old.plan c.args.draw c.in-Some.unit c.in-Some.district = c.in-Some.ensures in
    flip_next job old c.flip.new.self c.args.draw c.in-Some.unit c.in-Some.district c.flip.result
    (subst (λ (j : Job). proposal j.graph.units j.districts c.args.draw ≡ Some (c.in-Some.unit, c.in-Some.district)) c.requires.made offer.proposed) offer.inside
    c.flip.ensures.moves c.flip.ensures.moved c.flip.ensures.unchanged

pub returns-in-Some-clause-unchanged : goal.returns-in-Some-clause-unchanged
returns-in-Some-clause-unchanged g c =
    let job = c.args.job.now in
    let old : ChainState = c.args.state.now in
    let offer : ProposesOpen old.job old.plan c.args.draw c.in-Some.unit c.in-Some.district = c.in-Some.ensures in
    flip_rejected job old c.flip.new.self c.args.draw c.in-Some.unit c.in-Some.district c.flip.result
    (subst (λ (j : Job). proposal j.graph.units j.districts c.args.draw ≡ Some (c.in-Some.unit, c.in-Some.district)) c.requires.made offer.proposed) offer.inside
    c.flip.ensures.moves c.flip.ensures.moved c.flip.ensures.unchanged
