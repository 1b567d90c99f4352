use Rattle.std.proofs.Common.{length, subst}
use Rattle.plan_runs.specs.Resources.{AreWorkersFor}
use Rattle.plan_runs.proofs.walking.walk.Goals as goal

pub walk_all-requires-clause-workers : goal.walk_all-requires-clause-workers
walk_all-requires-clause-workers g c κs within = subst (AreWorkersFor c.args.job.now (length c.args.buffers.todo)) c.in-All.is c.requires.workers

pub walk_early-requires-clause-workers : goal.walk_early-requires-clause-workers
walk_early-requires-clause-workers g c κs within = subst (AreWorkersFor c.args.job.now (length c.args.buffers.todo)) c.in-Early.is c.requires.workers
