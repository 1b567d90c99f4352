use Rattle.audit_run.proofs.Permitting.{all_saves, all_text, all_lines}
use Rattle.audit_run.proofs.premises.premises_hold_if_all_is_permitted.Goals as goal

pub returns-clause-lets : goal.returns-clause-lets
returns-clause-lets g c = all_saves _

pub returns-clause-text : goal.returns-clause-text
returns-clause-text g c = all_text _

pub returns-clause-note : goal.returns-clause-note
returns-clause-note g c = all_lines _
