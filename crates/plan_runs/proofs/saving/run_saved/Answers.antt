use Rattle.std.proofs.Common.{◌∙◌, ◌≤◌, ℕ, List, ap, arith, subst, sym}
use Rattle.tally_desk.specs.Pools.{IsDeskPool}
use Rattle.report.specs.declared.ended.Ended.{Ended}
use Rattle.audit_laws.specs.Calls.{Finishes}
use Rattle.audit_laws.proofs.Leaving.{no_memory_ends}
use Rattle.audit_laws.proofs.Running.{run_setting}
use Rattle.audit_statement.specs.Due.{LetsRun}
use Rattle.ckpt_store.proofs.Ours.{checkpoints_are_ours}
use Rattle.outcome_book.proofs.ById.{by_id-mapped}
use Rattle.tally_desk.proofs.Holding.{run_attempts_are_right, saves_hold_parts}
use Rattle.plan_runs.specs.Ending.{SavedBy, SavesLast}
use Rattle.plan_runs.specs.Saving.{target_of}
use Rattle.plan_runs.proofs.Reporting.{all_found}
use Rattle.plan_runs.proofs.Desked.{all_outcomes, saves_last}
use Rattle.plan_runs.proofs.Placing.{first_place_for, place_observed_for, placed_known, saved_plain, saves_every}
use Rattle.plan_runs.proofs.Permitted.{report_permitted}
use Rattle.plan_runs.proofs.saving.run_saved.Goals as goal

pub run_over-requires-clause-found : goal.run_over-requires-clause-found
run_over-requires-clause-found g c κs within =
    let job = c.args.job.now in
    let state = c.args.resources.state in
    let buffers = c.requires.resources.buffers in
    record {
      digest = c.requires.placed.digest_is;
      every = subst (λ (n : ℕ). 1 ≤ n) (sym c.requires.resources.every) (saves_every job c.requires.saved);
      slot = c.requires.placed.slot_below;
      generation = c.requires.placed.generation_below;
      place = place_observed_for job (g.C.Keeper.state state.keeper).slots (target_of state) c.requires.placed;
      whole = buffers.total_is;
      fit = buffers.start.fit.fit;
      todo = (job.setting.budget, buffers.ids);
      room = record { sorted_room = omega (arith, buffers.room, buffers.total_is); save_room = c.requires.resources.save_room };
    }

pub run_over-requires-clause-within : goal.run_over-requires-clause-within
run_over-requires-clause-within g c κs within = c.requires.resources.buffers.todo.within

pub run_over-requires-clause-pool : goal.run_over-requires-clause-pool
run_over-requires-clause-pool g c κs within =
    subst (λ (n : ℕ). IsDeskPool c.args.job.now n c.args.resources.pool) (sym c.requires.resources.pool.count_is) c.requires.resources.pool

pub run_over-requires-clause-workers : goal.run_over-requires-clause-workers
run_over-requires-clause-workers g c κs within =
    let setting = run_setting c.args.job.now c.requires.resources.buffers.start.run in
    let count = c.requires.resources.pool.count_is in
    (omega (arith, setting.some_workers, count), omega (arith, setting.few_workers, count))

pub run_over-requires-clause-lets : goal.run_over-requires-clause-lets
run_over-requires-clause-lets g c κs within =
    let job = c.args.job.now in
    let state = c.args.resources.state in
    let buffers = c.requires.resources.buffers in
    let observed = (g.C.Keeper.state state.keeper).attempted in
    let initial_outcomes = state.book.outcomes in
    subst (λ (x : ℕ × List ℕ). LetsRun g.C.Keeper.lets observed job initial_outcomes x.0 state.place x.1) (λ i. (sym c.requires.resources.every i, sym buffers.ids i))
    (c.requires.lets initial_outcomes state.place c.requires.saved c.requires.opened (first_place_for job (g.C.Keeper.state state.keeper).slots (target_of state) c.requires.placed))

pub end_run-finished-requires-clause-reportable : goal.end_run-finished-requires-clause-reportable
end_run-finished-requires-clause-reportable g c =
    let job = c.args.job.now in
    let buffers = c.requires.resources.buffers in
    let all = all_outcomes _ _ _ _ c.in-Ok.ensures.ran buffers.ids by_id-mapped buffers.start.run buffers.start.fit buffers.todo.within buffers.todo.absent in
    let found = c.all-found.ensures in
    (all_found job buffers.start.run (saved_plain job buffers.start.run c.requires.saved) c.args.resources.state.book.outcomes c.all-found.result (rw (found.sorted, c.into_outcomes-keeper.ensures.sorted) all) (rw found.sorted found.listed)
    found.observed (rw found.text buffers.blank) (rw found.text buffers.report_room)).reportable

pub returns-in-Ok-clause-finishes : goal.returns-in-Ok-clause-finishes
returns-in-Ok-clause-finishes g c =
    let job = c.args.job.now in
    let buffers = c.requires.resources.buffers in
    let initial_outcomes = c.args.resources.state.book.outcomes in
    let before = g.C.Keeper.state c.args.resources.state.keeper in
    let after = g.C.Keeper.state c.into_outcomes-keeper.result.0 in
    let h = c.in-Ok.ensures.ran in
    let all = all_outcomes _ _ _ _ h buffers.ids by_id-mapped buffers.start.run buffers.start.fit buffers.todo.within buffers.todo.absent in
    let last = saves_last _ _ _ _ h buffers.ids checkpoints_are_ours saves_hold_parts run_attempts_are_right c.requires.resources.every
    (placed_known job (g.C.Keeper.state c.args.resources.state.keeper).slots (target_of c.args.resources.state) c.requires.placed) all.full in
    let saved = subst (λ (x : g.row.C.Denot). SavesLast job initial_outcomes before (g.C.Keeper.state x) c.in-Ok.done.saved) (sym c.into_outcomes-keeper.ensures.keeper) last in
    let found = c.all-found.ensures in
    let has = all_found job buffers.start.run (saved_plain job buffers.start.run c.requires.saved) initial_outcomes c.all-found.result (rw (found.sorted, c.into_outcomes-keeper.ensures.sorted) all) (rw found.sorted found.listed)
    found.observed (rw found.text buffers.blank) (rw found.text buffers.report_room) in
    let out = g.K.Sink.state c.args.out.now in
    let later = g.K.Sink.state c.end_run-finished.new.out in
    subst (λ (why : Ended). Finishes job out later before after why) (sym c.ended.ensures.ended)
    (c.end_run-finished.ensures initial_outcomes before after c.requires.opened has (subst (λ b. SavedBy b job initial_outcomes before after c.in-Ok.done.saved) (sym c.requires.saved) saved))

pub returns-in-Err-clause-finishes : goal.returns-in-Err-clause-finishes
returns-in-Err-clause-finishes g c =
    let same = c.into_outcomes-keeper-in-Err.ensures.keeper ∙ c.in-Err.ensures.refused.1 in
    no_memory_ends c.args.job.now (g.K.Sink.state c.args.out.now)
    (g.C.Keeper.state c.args.resources.state.keeper)
    (g.C.Keeper.state c.into_outcomes-keeper-in-Err.result.0)
    (ap (λ x. (g.C.Keeper.state x).slots) same) (ap (λ x. (g.C.Keeper.state x).attempted) same) (ap (λ x. (g.C.Keeper.state x).save_faults) same) (ap (λ x. (g.C.Keeper.state x).load_faults) same)

pub end_run-finished-requires-clause-text : goal.end_run-finished-requires-clause-text
end_run-finished-requires-clause-text g c =
    let job = c.args.job.now in
    let buffers = c.requires.resources.buffers in
    let all = all_outcomes _ _ _ _ c.in-Ok.ensures.ran buffers.ids by_id-mapped buffers.start.run buffers.start.fit buffers.todo.within buffers.todo.absent in
    let found = c.all-found.ensures in
    let has = all_found job buffers.start.run (saved_plain job buffers.start.run c.requires.saved) c.args.resources.state.book.outcomes c.all-found.result (rw (found.sorted, c.into_outcomes-keeper.ensures.sorted) all) (rw found.sorted found.listed)
    found.observed (rw found.text buffers.blank) (rw found.text buffers.report_room) in
    report_permitted job c.args.resources.state.book.outcomes c.all-found.result (g.K.Sink.state c.args.out.now) c.requires.text has

pub returns-in-Ok-clause-memory : goal.returns-in-Ok-clause-memory
returns-in-Ok-clause-memory g c = λ is. absurd (c.ended.ensures.other is)

pub returns-in-Err-clause-memory : goal.returns-in-Err-clause-memory
returns-in-Err-clause-memory g c = λ is. c.in-Err.ensures.memory
