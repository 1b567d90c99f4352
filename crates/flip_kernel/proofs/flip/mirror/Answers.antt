use Rattle.std.proofs.Common.{ℕ, ap, ◌∙◌}
use Rattle.audit_model.specs.Step.{next, mirrored}
use Rattle.audit_model.proofs.Mirror.{next-mirrored, mirrored-mirrored, mirrored_stays}
use Rattle.audit_model.proofs.Weighing.{can_return}
use Rattle.flip_kernel.proofs.Flipping.{mirrored_moved}
use Rattle.flip_kernel.proofs.flip.mirror.Goals as goal

pub returns-clause-unchanged : goal.returns-clause-unchanged
returns-clause-unchanged g c = λ same. c.find_mirror.ensures.value ∙ mirrored_stays c.args.job.now c.args.state.now.plan c.args.draw same

pub returns-clause-moved : goal.returns-clause-moved
returns-clause-moved g c = λ unit district is differs.
    c.find_mirror.ensures.value ∙ mirrored_moved c.args.job.now c.args.state.now.plan c.args.draw unit district is differs

pub returns-clause-back : goal.returns-clause-back
returns-clause-back g c = λ can.
    let plan = c.args.state.now.plan in
    ap (λ (w : ℕ). next c.args.job.now (next c.args.job.now plan c.args.draw) w) c.find_mirror.ensures.value
    ∙ next-mirrored c.args.job.now plan c.args.draw c.find_mirror.ensures.legal (can_return c.args.job.now plan c.args.draw c.find_mirror.ensures.legal can)

pub returns-clause-again : goal.returns-clause-again
returns-clause-again g c = λ can.
    let plan = c.args.state.now.plan in
    ap (λ (w : ℕ). mirrored c.args.job.now (next c.args.job.now plan c.args.draw) w) c.find_mirror.ensures.value
    ∙ mirrored-mirrored c.args.job.now plan c.args.draw c.find_mirror.ensures.legal (can_return c.args.job.now plan c.args.draw c.find_mirror.ensures.legal can)
