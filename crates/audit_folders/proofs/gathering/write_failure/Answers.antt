use Rattle.audit_folders.proofs.gathering.write_failure.Goals as goal

pub returns-in-Unread-clause-observed : goal.returns-in-Unread-clause-observed
returns-in-Unread-clause-observed g c = rw c.in-Unread.is c.write_diagnostic-in-Unread.ensures.observed

pub returns-in-Taken-clause-observed : goal.returns-in-Taken-clause-observed
returns-in-Taken-clause-observed g c = rw c.in-Taken.is c.write_diagnostic-in-Taken.ensures.observed

pub returns-in-Unsaved-clause-observed : goal.returns-in-Unsaved-clause-observed
returns-in-Unsaved-clause-observed g c = rw c.in-Unsaved.is c.write_diagnostic-in-Unsaved.ensures.observed
