use Rattle.std.proofs.Common.{◌+◌, vec_len}
use Rattle.sequential_test.specs.Pools.{HasWalkedTo}
use Rattle.sequential_test.proofs.Rounding.{IsAtRound}
use Rattle.sequential_test.proofs.walking.walk_rounds.Given as goal

abbrev pub invariant-loop-batch : goal.invariant-loop-batch
invariant-loop-batch g l = record {
  round : IsAtRound l.job (vec_len l.fn.batch_workers.idle_workers) (vec_len l.fn.rounds.batches) l.batches.items l.walked;
  walked_is : HasWalkedTo l.job (vec_len l.fn.batch_workers.idle_workers) (l.job.setting.walks + l.walked) l.batch_workers l.book l.sorted;
}

abbrev pub decreases-loop-batch : goal.decreases-loop-batch
decreases-loop-batch g l = vec_len l.batches
