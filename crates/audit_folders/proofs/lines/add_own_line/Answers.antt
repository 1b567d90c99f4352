use Rattle.audit_folders.proofs.Texts.{adds_as}
use Rattle.report.proofs.Letting.{next_as}
use Rattle.audit_folders.proofs.lines.add_own_line.Goals as goal

pub returns-in-Added : goal.returns-in-Added
returns-in-Added g c = adds_as c.add_line.ensures (rw (c.in-Added.is, c.from.ensures, c.beside_of.ensures))

pub returns-in-Nothing : goal.returns-in-Nothing
returns-in-Nothing g c = adds_as c.add_line-in-Nothing.ensures (rw c.in-Nothing.is)

pub returns-in-OtherJob : goal.returns-in-OtherJob
returns-in-OtherJob g c = adds_as c.add_line-in-OtherJob.ensures (rw c.in-OtherJob.is)

pub returns-in-Damaged : goal.returns-in-Damaged
returns-in-Damaged g c = adds_as c.add_line-in-Damaged.ensures (rw c.in-Damaged.is)

pub returns-in-Differs : goal.returns-in-Differs
returns-in-Differs g c = adds_as c.add_line-in-Differs.ensures (rw c.in-Differs.is)

pub returns-in-Unread : goal.returns-in-Unread
returns-in-Unread g c = adds_as c.add_line-in-Unread.ensures (rw c.in-Unread.is)

pub returns-in-Taken : goal.returns-in-Taken
returns-in-Taken g c = adds_as c.add_line-in-Taken.ensures (rw c.in-Taken.is)

pub add_line-requires : goal.add_line-requires
add_line-requires g c = next_as c.requires (rw (c.in-Added.is, c.from.ensures, c.beside_of.ensures))

pub add_line-requires-in-Nothing : goal.add_line-requires-in-Nothing
add_line-requires-in-Nothing g c = next_as c.requires (rw c.in-Nothing.is)

pub add_line-requires-in-OtherJob : goal.add_line-requires-in-OtherJob
add_line-requires-in-OtherJob g c = next_as c.requires (rw c.in-OtherJob.is)

pub add_line-requires-in-Damaged : goal.add_line-requires-in-Damaged
add_line-requires-in-Damaged g c = next_as c.requires (rw c.in-Damaged.is)

pub add_line-requires-in-Differs : goal.add_line-requires-in-Differs
add_line-requires-in-Differs g c = next_as c.requires (rw c.in-Differs.is)

pub add_line-requires-in-Unread : goal.add_line-requires-in-Unread
add_line-requires-in-Unread g c = next_as c.requires (rw c.in-Unread.is)

pub add_line-requires-in-Taken : goal.add_line-requires-in-Taken
add_line-requires-in-Taken g c = next_as c.requires (rw c.in-Taken.is)
