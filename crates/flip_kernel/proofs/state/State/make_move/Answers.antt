use Rattle.std.proofs.Common.{◌≡◌, ℕ, List, get_or, ap, subst, ◌∙◌}
use Rattle.audit_model.specs.Job.{Job}
use Rattle.audit_model.specs.Plan.{IsLegal}
use Rattle.flip_kernel.specs.ChainState.{ChainState}
use Rattle.flip_kernel.specs.Judged.{HasConstraintAt}
use Rattle.flip_kernel.proofs.Judging.{judged_after}
use Rattle.flip_kernel.proofs.state.State.make_move.Goals as goal

pub moved-requires-clause-after : goal.moved-requires-clause-after
moved-requires-clause-after g c =
    let old : ChainState = c.self.inside.board in
    let made : old.job ≡ c.args.flip.job.now = ap (λ (h : ChainState). h.job) c.self.view_is ∙ c.requires.made in
    let by = g.J.Judge.judging c.self.inside.judge in
    let legal : IsLegal c.args.flip.job.now old.plan = subst (λ (j : Job). IsLegal j old.plan) made c.plan.ensures.legal in
    judged_after c.args.flip.job.now by old.plan (subst (λ (j : Job). HasConstraintAt j old.plan by) made c.self.invariant) legal
    c.as_slice-2.result.now c.args.flip.unit c.args.flip.district
    (get_or c.as_slice.result.now c.args.flip.unit 0) c.args.flip.unit_below c.args.flip.district_below
    (c.as_slice-2.ensures ∙ c.plan-2.ensures.value ∙ ap (λ (h : ChainState). h.plan) c.make_move.ensures)
    (ap (λ (p : List ℕ). get_or p c.args.flip.unit 0) (c.as_slice.ensures ∙ c.plan.ensures.value))
