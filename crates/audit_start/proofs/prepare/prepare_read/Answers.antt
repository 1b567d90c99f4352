use Rattle.audit_start.proofs.Preparing.{too_many_runs}
use Rattle.audit_start.proofs.prepare.prepare_read.Goals as goal

pub returns-in-Err-TooMany : goal.returns-in-Err-TooMany
returns-in-Err-TooMany g c = λ words e out keeper.
    too_many_runs words c.args.setting _ _ e out keeper c.requires.reads (rw c.in-Err-TooMany.field-0-is at c.in-Err-TooMany.ensures)
