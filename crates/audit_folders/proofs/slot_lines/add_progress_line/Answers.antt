use Rattle.audit_folders.proofs.Texts.{adds_as}
use Rattle.report.proofs.Letting.{next_as}
use Rattle.audit_folders.proofs.slot_lines.add_progress_line.Goals as goal

pub returns-in-Done : goal.returns-in-Done
returns-in-Done g c = adds_as c.add_line.ensures (rw (c.in-Done.is, c.from.ensures))

pub returns-in-OtherJob : goal.returns-in-OtherJob
returns-in-OtherJob g c = adds_as c.add_line-in-OtherJob.ensures (rw c.in-OtherJob.is)

pub returns-in-Damaged : goal.returns-in-Damaged
returns-in-Damaged g c = adds_as c.add_line-in-Damaged.ensures (rw c.in-Damaged.is)

pub add_line-requires : goal.add_line-requires
add_line-requires g c = next_as c.requires (rw (c.in-Done.is, c.from.ensures))

pub add_line-requires-in-OtherJob : goal.add_line-requires-in-OtherJob
add_line-requires-in-OtherJob g c = next_as c.requires (rw c.in-OtherJob.is)

pub add_line-requires-in-Damaged : goal.add_line-requires-in-Damaged
add_line-requires-in-Damaged g c = next_as c.requires (rw c.in-Damaged.is)
