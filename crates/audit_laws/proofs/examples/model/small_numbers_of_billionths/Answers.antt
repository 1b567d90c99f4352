use Rattle.std.proofs.Common.{refl, arith}
use Rattle.audit_model.proofs.Least.{bound_from}
use Rattle.audit_laws.proofs.examples.model.small_numbers_of_billionths.Goals as goal

pub returns-clause-rare : goal.returns-clause-rare
returns-clause-rare c = bound_from 1 1000000 1414213 (omega arith) refl refl

pub returns-clause-exact : goal.returns-clause-exact
returns-clause-exact c = bound_from 2 4 999999999 (omega arith) refl refl

pub returns-clause-four_of_nine : goal.returns-clause-four_of_nine
returns-clause-four_of_nine c = bound_from 4 9 942809041 (omega arith) refl refl

pub returns-clause-eight_of_nine : goal.returns-clause-eight_of_nine
returns-clause-eight_of_nine c = bound_from 8 9 1333333333 (omega arith) refl refl
