use Rattle.std.proofs.Common.{sym, subst}
use Rattle.std.specs.Prelude.{IfOk}
use Rattle.audit_statement.specs.Slots.{checkpoint_limit}
use Rattle.ckpt_store.specs.Fitting.{HasFitOutcomes}
use Rattle.ckpt_store.specs.Looked.{IsByBytes, LookCause, SawSlot}
use Rattle.ckpt_store.proofs.Seen.{loaded_cause, loaded_seen, unloaded_by_bytes, unloaded_cause, unloaded_fit, unloaded_seen}
use Rattle.ckpt_store.proofs.look.look_at.Goals as goal

pub returns-in-Ok-clause-saw : goal.returns-in-Ok-clause-saw
returns-in-Ok-clause-saw g c =
    loaded_seen c.args.job.now c.args.digest.now (g.C.Keeper.state c.args.keeper.now).slots c.args.slot checkpoint_limit c.load.new.room.items c.as_slice.result.now c.in-Ok.found c.judge_loaded.result
    c.as_slice.ensures c.in-Ok.ensures.found c.judge_loaded.ensures.slot

pub returns-in-Ok-clause-cause : goal.returns-in-Ok-clause-cause
returns-in-Ok-clause-cause g c =
    let loaded = c.in-Ok.ensures.cause in
    record {
      counts = loaded.counts;
      taken_count = loaded.taken_count;
      cause = loaded_cause _ _ c.judge_loaded.result loaded.cause c.judge_loaded.ensures.err;
    }

pub returns-in-Err-clause-saw : goal.returns-in-Err-clause-saw
returns-in-Err-clause-saw g c =
    subst (λ r. IfOk r (SawSlot c.args.job.now c.args.digest.now (g.C.Keeper.state c.args.keeper.now).slots c.args.slot)) (sym c.slot_of_load_error.ensures)
    (unloaded_seen c.args.job.now c.args.digest.now _ c.args.slot _ c.in-Err.error c.in-Err.ensures.found c.in-Err.ensures.within)

pub returns-in-Err-clause-sound : goal.returns-in-Err-clause-sound
returns-in-Err-clause-sound g c = subst (λ r. IfOk r (HasFitOutcomes c.args.job.now)) (sym c.slot_of_load_error.ensures) (unloaded_fit c.args.job.now c.in-Err.error)

pub returns-in-Err-clause-by_bytes : goal.returns-in-Err-clause-by_bytes
returns-in-Err-clause-by_bytes g c = subst (λ r. IfOk r IsByBytes) (sym c.slot_of_load_error.ensures) (unloaded_by_bytes c.in-Err.error)

pub returns-in-Err-clause-cause : goal.returns-in-Err-clause-cause
returns-in-Err-clause-cause g c =
    let failed = c.in-Err.ensures.cause in
    let before = (g.C.Keeper.state c.args.keeper.now).load_faults in
    let now = (g.C.Keeper.state c.load.new.self).load_faults in
    record {
      counts = failed.counts;
      taken_count = failed.taken_count;
      cause = subst (λ r. LookCause before now r) (sym c.slot_of_load_error.ensures) (unloaded_cause before now c.in-Err.error failed.cause);
    }
