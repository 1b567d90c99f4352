use Rattle.std.proofs.Common.{◌≡◌, ℕ, subst, sym, vec_len}
use Rattle.audit_model.specs.declared.setting.Setting.{Setting}
use Rattle.claim_counter.specs.Batches.{IsFreshBatch, IsBatchWorkers}
use Rattle.sequential_test.specs.Pools.{AreRounds}
use Rattle.sequential_test.specs.Rounds.{ends_after}
use Rattle.sequential_test.proofs.pool.make_pool.Goals as goal

pub returns-clause-pool : goal.returns-clause-pool
returns-clause-pool g c = record {
  workers_are = c.len-seats.ensures;
  batch_workers = subst (λ (n : ℕ). IsBatchWorkers c.args.job.now n c.in_ok-batch_workers.batch_workers) (sym c.len-seats.ensures) c.in_ok-batch_workers.ensures.batch_workers;
  walks = subst (λ (s : Setting). IsFreshBatch s.walks c.len-seats.result c.in_ok-walks.walks) c.setting.ensures.value c.in_ok-walks.ensures;
  rounds = subst (λ (s : Setting). AreRounds s.ends c.len-seats.result 0 c.in_ok-rounds.rounds.items) c.setting-2.ensures.value c.in_ok-rounds.ensures.rounds;
  all = subst (λ (s : Setting). ends_after s.ends (vec_len c.in_ok-rounds.rounds) ≡ s.ends) c.setting-2.ensures.value c.in_ok-rounds.ensures.all;
}
