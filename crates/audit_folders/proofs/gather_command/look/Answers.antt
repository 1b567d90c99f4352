use Rattle.std.proofs.Common.{refl}
use Rattle.ckpt_store.specs.declared.gather_result.GatherError.TheVariants as ungathered
use Rattle.audit_folders.proofs.OpenedFolders.{no_room}
use Rattle.audit_folders.proofs.gather_command.look.Goals as goal

pub end_for-status-requires : goal.end_for-status-requires
end_for-status-requires g c = c.requires.note.failed ungathered.Memory

pub returns-in-Err : goal.returns-in-Err
returns-in-Err g c = λ source source_now keeper.
    (refl, no_room c.open-here.ensures c.end_for-status.ensures.status (record { same = refl; lines_added = c.end_for-status.ensures.observed }))
