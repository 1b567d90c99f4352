use Rattle.std.proofs.Common.{ℕ, List, sym, subst}
use Rattle.audit_model.specs.Plan.{IsLegal}
use Rattle.flip_kernel.proofs.Judging.{plan_taken}
use Rattle.flip_kernel.proofs.state.State.new.Goals as goal

pub reset-requires-clause-plan : goal.reset-requires-clause-plan
reset-requires-clause-plan g c =
    let legal : IsLegal c.args.job.now c.as_slice.result.now = subst (λ (p : List ℕ). IsLegal c.args.job.now p) (sym c.as_slice.ensures) c.start.ensures.legal in
    plan_taken c.args.job.now (g.J.Judge.judging c.args.judge) c.requires.judge c.as_slice.result.now legal.complete legal.in_range
