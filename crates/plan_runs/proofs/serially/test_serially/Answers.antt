use Rattle.std.proofs.Common.{subst}
use Rattle.plan_runs.specs.Serially.{IsTester}
use Rattle.plan_runs.proofs.Testing.{asked, fits_some}
use Rattle.plan_runs.proofs.serially.test_serially.Goals as goal

pub returns-in-Some-clause-within : goal.returns-in-Some-clause-within
returns-in-Some-clause-within g c =
    let job = c.args.job.now in
    let made = asked job c.in-Some.walker
    (subst (IsTester job) c.in-Some.is c.requires.tester) in
    fits_some job c.serial-found.result made.0 c.serial-found.ensures.place c.serial-found.ensures.ranks
