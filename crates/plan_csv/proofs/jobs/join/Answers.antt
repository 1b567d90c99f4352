use Rattle.std.proofs.Common.{sym, subst, List}
use Rattle.plan_csv.specs.declared.named.Named.{Named}
use Rattle.plan_csv.specs.Shared.{AreShared}
use Rattle.plan_csv.proofs.Reading.{shared_with}
use Rattle.plan_csv.proofs.jobs.join.Goals as goal

pub returns-in-Ok-with_first-clause-shared : goal.returns-in-Ok-with_first-clause-shared
returns-in-Ok-with_first-clause-shared c =
    subst (λ (ns : List Named). AreShared c.args.own.job.setting ns) (sym c.in-Ok-with_first.ensures)
    (shared_with c.args.own c.in-Ok.named.items c.requires.sound c.in-Ok.ensures.each)
