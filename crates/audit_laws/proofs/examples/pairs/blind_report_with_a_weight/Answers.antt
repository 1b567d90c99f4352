use Rattle.std.proofs.Common.{refl}
use Rattle.std.specs.Fmt.{digits}
use Rattle.hex.specs.Hex.{encode_with}
use Rattle.audit_model.specs.Below.{count_below}
use Rattle.audit_statement.specs.Report.{report}
use Rattle.audit_laws.proofs.examples.pairs.blind_report_with_a_weight.Goals as goal

pub returns : goal.returns
unfolding report count_below digits encode_with
returns c = refl
