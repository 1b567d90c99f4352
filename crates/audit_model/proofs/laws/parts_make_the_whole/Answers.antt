use Rattle.audit_model.proofs.Parts.{each_in_its_part, once_in_its_part, only_part, within_its_part}
use Rattle.audit_model.proofs.laws.parts_make_the_whole.Goals as goal

pub returns-clause-each : goal.returns-clause-each
returns-clause-each c = each_in_its_part

pub returns-clause-within : goal.returns-clause-within
returns-clause-within c = within_its_part

pub returns-clause-once : goal.returns-clause-once
returns-clause-once c = once_in_its_part

pub returns-clause-one : goal.returns-clause-one
returns-clause-one c = only_part
