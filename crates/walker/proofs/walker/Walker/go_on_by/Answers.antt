use Rattle.std.proofs.Common.{sym, subst}
use Rattle.audit_statement.specs.Along.{first_plan, stream_of}
use Rattle.audit_statement.specs.Draw.{draw}
use Rattle.flip_kernel.specs.ChainState.{ChainState}
use Rattle.walker.specs.Walked.{IsWalked}
use Rattle.walker.proofs.walker.Walker.go_on_by.Goals as goal

pub returns-clause-way : goal.returns-clause-way
returns-clause-way g c = λ id place under.
    let job = c.args.job.now in
    let way = c.args.way.now in
    let first = first_plan job (draw job.setting.key) id in
    record {
      walked = c.go_on.ensures.walked job.setting.key (stream_of job id) first place
          (subst (λ (h : ChainState). IsWalked job job.setting.key (stream_of job id) first place h way.draws way.moved) (sym c.self.view_is) under.walked);
    }
