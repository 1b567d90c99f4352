use Rattle.std.proofs.Common.{◌∙◌}
use Rattle.ckpt_store.proofs.Judged.{slot_of_read, slot_of_broken, broken_is_fit}
use Rattle.ckpt_format.proofs.Stated.{checkpoints_are_read}
use Rattle.ckpt_store.proofs.judge.judge_bytes.Goals as goal

pub returns-in-Ok-clause-slot : goal.returns-in-Ok-clause-slot
returns-in-Ok-clause-slot c =
    c.judge.ensures.slot ∙ slot_of_read c.args.job.now c.args.digest.now c.args.bytes.now c.in-Ok.checkpoint c.requires c.in-Ok.ensures.faultless (checkpoints_are_read _ _ _ _ _ c.in-Ok.ensures.ok)

pub returns-in-Err-clause-slot : goal.returns-in-Err-clause-slot
returns-in-Err-clause-slot c =
    slot_of_broken c.args.job.now c.args.digest.now c.args.bytes.now c.in-Err.fault c.broken_slot.result c.requires c.in-Err.ensures.err c.broken_slot.ensures.slot c.broken_slot.ensures.known

pub returns-in-Err-clause-sound : goal.returns-in-Err-clause-sound
returns-in-Err-clause-sound c = broken_is_fit c.args.job.now c.in-Err.fault c.broken_slot.result c.broken_slot.ensures.slot
