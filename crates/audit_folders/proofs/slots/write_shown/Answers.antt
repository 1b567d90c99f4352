use Rattle.std.proofs.Common.{◌++◌, ap, sym}
use Rattle.audit_statement.specs.Note.{as_line}
use Rattle.ckpt_store.specs.Holding.{newest_in}
use Rattle.audit_folders.specs.SlotLines.{job_text, newest_texts, slot_line}
use Rattle.audit_folders.proofs.Texts.{adds_as, adds_both, said_of}
use Rattle.report.proofs.Letting.{next_as, next_begins, next_front, next_rest}
use Rattle.audit_folders.proofs.slots.write_shown.Goals as goal

pub returns : goal.returns
returns g c = said_of (adds_both (adds_both (adds_both c.add_slot_line-going.ensures c.add_slot_line-going-2.ensures)
    (adds_as c.add_newest_line-going.ensures (ap (λ n. as_line (newest_texts n)) c.newest-number.ensures))) c.add_progress.ensures)

pub add_slot_line-going-requires : goal.add_slot_line-going-requires
add_slot_line-going-requires g c =
    let shown = c.args.shown.now in
    let one = slot_line 0 shown.first in
    let two = slot_line 1 shown.second in
    let three = as_line (newest_texts (newest_in shown.first shown.second)) in
    next_front one two (next_front (one ++ two) three (next_front ((one ++ two) ++ three) (job_text shown.progress shown.total) (next_begins c.requires)))

pub add_slot_line-going-requires-2 : goal.add_slot_line-going-requires-2
add_slot_line-going-requires-2 g c =
    let shown = c.args.shown.now in
    let one = slot_line 0 shown.first in
    let two = slot_line 1 shown.second in
    let three = as_line (newest_texts (newest_in shown.first shown.second)) in
    next_rest one two (next_front (one ++ two) three (next_front ((one ++ two) ++ three) (job_text shown.progress shown.total) (next_begins c.requires))) c.add_slot_line-going.ensures.adds

pub add_newest_line-going-requires : goal.add_newest_line-going-requires
add_newest_line-going-requires g c =
    let shown = c.args.shown.now in
    let one = slot_line 0 shown.first in
    let two = slot_line 1 shown.second in
    let three = as_line (newest_texts (newest_in shown.first shown.second)) in
    next_as (next_rest (one ++ two) three (next_front ((one ++ two) ++ three) (job_text shown.progress shown.total) (next_begins c.requires))
    (adds_both c.add_slot_line-going.ensures c.add_slot_line-going-2.ensures).adds)
    (sym (ap (λ n. as_line (newest_texts n)) c.newest-number.ensures))

pub add_progress-requires : goal.add_progress-requires
add_progress-requires g c =
    let shown = c.args.shown.now in
    let one = slot_line 0 shown.first in
    let two = slot_line 1 shown.second in
    let three = as_line (newest_texts (newest_in shown.first shown.second)) in
    next_rest ((one ++ two) ++ three) (job_text shown.progress shown.total) (next_begins c.requires)
    (adds_both (adds_both c.add_slot_line-going.ensures c.add_slot_line-going-2.ensures)
    (adds_as c.add_newest_line-going.ensures (ap (λ n. as_line (newest_texts n)) c.newest-number.ensures))).adds
