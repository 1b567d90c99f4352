use Rattle.std.proofs.Common.{◌≤◌, ap, arith}
use Rattle.audit_model.specs.declared.setting.Setting.{Setting}
use Rattle.audit_laws.proofs.Running.{few_run_todo, run_setting}
use Rattle.plan_runs.proofs.resources.make_workers.Goals as goal

pub make_pool-requires-clause-workers : goal.make_pool-requires-clause-workers
make_pool-requires-clause-workers g c =
    let of = run_setting c.args.job.now c.requires.buffers.start.run in
    (omega (arith, c.requires.workers, of.some_workers), omega (arith, c.requires.workers, of.few_workers))

pub make_pool-requires-2-clause-workers : goal.make_pool-requires-2-clause-workers
make_pool-requires-2-clause-workers g c =
    let of = run_setting c.args.job.now c.requires.buffers.start.run in
    (omega (arith, c.requires.workers, of.some_workers), omega (arith, c.requires.workers, of.few_workers))

pub overflow_cast-len : goal.overflow_cast-len
overflow_cast-len g c = omega (arith, c.len.ensures, few_run_todo c.args.job.now c.requires.buffers.start.run _ _ c.args.job.now.setting.budget c.requires.buffers.ids)

pub make_pool-requires-2-clause-count : goal.make_pool-requires-2-clause-count
make_pool-requires-2-clause-count g c = omega (arith, c.len.ensures, few_run_todo c.args.job.now c.requires.buffers.start.run _ _ c.args.job.now.setting.budget c.requires.buffers.ids)

pub returns-then-setting-gt0 : goal.returns-then-setting-gt0
returns-then-setting-gt0 g c =
    let early : 1 ≤ c.args.job.now.setting.stop = omega (arith, c.if-setting-gt0.true, ap (λ (s : Setting). s.stop) c.setting.ensures.value) in
    record { early = early; pool = rw c.requires.workers at c.in_ok-pool.ensures.pool }

pub returns : goal.returns
returns g c = record { plain = omega (arith, c.if-setting-gt0.false, ap (λ (s : Setting). s.stop) c.setting.ensures.value); pool = rw (c.requires.workers, c.len.ensures) at c.in_ok-pool-2.ensures.pool }
