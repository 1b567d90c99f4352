use Rattle.std.proofs.Common.{◌≡◌, ℕ, subst, vec_len, arith}
use Rattle.audit_model.proofs.ListFacts.{popped_last, popped_rest}
use Rattle.tally_desk.specs.Pools.{IsDeskPool}
use Rattle.flip_kernel.specs.Judged.{IsJudgeFor}
use Rattle.plan_runs.proofs.saving.make_walkers.Goals as goal

pub make_tester-requires : goal.make_tester-requires
make_tester-requires g c = popped_last (λ judge. IsJudgeFor c.args.job.now (g.J.Judge.judging judge)) _ _ c.in-Some.judge c.requires.judges_are c.in-Some.ensures.items

pub make_pool-requires : goal.make_pool-requires
make_pool-requires g c = record { judges = popped_rest (λ judge. IsJudgeFor c.args.job.now (g.J.Judge.judging judge)) _ _ c.in-Some.judge c.requires.judges_are c.in-Some.ensures.items }

pub returns-clause-pool : goal.returns-clause-pool
returns-clause-pool g c =
    let left : vec_len c.pop.new.self ≡ c.args.job.now.setting.workers = omega (arith, c.in-Some.ensures.len, c.requires.count_is) in
    subst (λ (n : ℕ). IsDeskPool c.args.job.now n c.in_ok-pool.pool) left c.in_ok-pool.ensures
