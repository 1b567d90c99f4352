use Rattle.std.proofs.Common.{refl}
use Rattle.std.specs.Fmt.{digits}
use Rattle.hex.specs.Hex.{encode_with}
use Rattle.json.specs.Print.{escape_byte}
use Rattle.audit_model.specs.Below.{count_below}
use Rattle.audit_statement.specs.Report.{report}
use Rattle.audit_laws.proofs.examples.origins.report_with_origin.Goals as goal

pub returns : goal.returns
unfolding report count_below digits encode_with escape_byte
returns c = refl
