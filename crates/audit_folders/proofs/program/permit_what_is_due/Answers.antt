use Rattle.audit_folders.proofs.Permitted.{all_answers, all_found, all_noted, all_saves, all_shown, all_shown_lines, any_text}
use Rattle.audit_folders.proofs.program.permit_what_is_due.Goals as goal

pub returns-clause-save : goal.returns-clause-save
returns-clause-save g c = all_saves _

pub returns-clause-found : goal.returns-clause-found
returns-clause-found g c = all_found _

pub returns-clause-noted : goal.returns-clause-noted
returns-clause-noted g c = all_noted _

pub returns-clause-shown : goal.returns-clause-shown
returns-clause-shown g c = all_shown _

pub returns-clause-line : goal.returns-clause-line
returns-clause-line g c = all_shown_lines _

pub returns-clause-answer : goal.returns-clause-answer
returns-clause-answer g c = all_answers _

pub returns-clause-text : goal.returns-clause-text
returns-clause-text g c = any_text _
