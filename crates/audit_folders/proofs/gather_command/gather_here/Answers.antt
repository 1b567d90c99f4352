use Rattle.std.proofs.Common.{◌∙◌, List, ap, map, refl, subst}
use Rattle.audit_model.specs.State.{KeeperState}
use Rattle.audit_statement.specs.Checkpoint.{job_digest}
use Rattle.ckpt_store.specs.Whole.{MayBeSaved}
use Rattle.ckpt_store.specs.declared.gather_result.GatherError.TheVariants as ungathered
use Rattle.audit_folders.proofs.OpenedFolders.{no_room}
use Rattle.audit_folders.proofs.gather_command.gather_here.Goals as goal

pub gather_and_report-status-requires-clause-lets :
    goal.gather_and_report-status-requires-clause-lets
gather_and_report-status-requires-clause-lets g c = λ k folders_now place all attempted saving may sound.
    c.requires.lets k folders_now place all attempted saving
    (subst (λ (f : List KeeperState). MayBeSaved c.args.job.now (job_digest c.args.job.now) (g.C.Keeper.state c.args.keeper.now).slots f folders_now place all)
    (ap (λ xs. map {B = KeeperState} (λ k'. g.F.Slots.Keeper.state k') xs) c.as_mut_slice.ensures.value ∙ c.in-Ok.ensures.states) may) sound

pub end_for-status-requires : goal.end_for-status-requires
end_for-status-requires g c = c.requires.note.failed ungathered.Memory

pub returns-in-Err : goal.returns-in-Err
returns-in-Err g c = λ source source_now. no_room refl c.end_for-status.ensures.status (record { same = refl; lines_added = c.end_for-status.ensures.observed })
