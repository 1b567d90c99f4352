use Rattle.std.proofs.Common.{◌≡◌, ◌+◌, All, vec_len, true}
use Rattle.tally_desk.specs.Passes.{Belongs, HasPostedAll, view_of}
use Rattle.tally_desk.specs.Pools.{IsDeskWorkerDone}
use Rattle.tally_desk.proofs.walking.gather.Given as goal

abbrev pub invariant-loop-worker : goal.invariant-loop-worker
invariant-loop-worker g l = record {
  workers : All (IsDeskWorkerDone l.desk) l.workers.items;
  pass : Belongs l.desk l.pass;
  ended : (view_of l.pass).own.ended ≡ true;
  seats : (view_of l.pass).own.weight + (view_of l.pass).own.spare + vec_len l.workers ≡ vec_len l.fn.workers;
  whole : HasPostedAll l.desk.parts (view_of l.pass);
}

abbrev pub decreases-loop-worker : goal.decreases-loop-worker
decreases-loop-worker g l = vec_len l.workers
