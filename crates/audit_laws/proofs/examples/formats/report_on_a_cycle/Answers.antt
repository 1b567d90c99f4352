use Rattle.std.proofs.Common.{refl, arith}
use Rattle.std.specs.Fmt.{digits}
use Rattle.hex.specs.Hex.{encode_with}
use Rattle.audit_model.specs.Below.{count_below}
use Rattle.audit_model.proofs.Least.{bound_from}
use Rattle.audit_statement.specs.Report.{report}
use Rattle.audit_laws.proofs.examples.formats.report_on_a_cycle.Goals as goal

pub returns : goal.returns
unfolding report count_below digits encode_with
returns c = rw (bound_from 4 9 942809041 (omega arith) refl refl, bound_from 8 9 1333333333 (omega arith) refl refl) refl
