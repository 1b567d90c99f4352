use Rattle.std.proofs.Common.{refl}
use Rattle.std.specs.Fmt.{digits}
use Rattle.hex.specs.Hex.{encode_with}
use Rattle.json.specs.Print.{escape_byte}
use Rattle.audit_model.specs.Below.{count_below}
use Rattle.audit_statement.specs.Report.{check_text}
use Rattle.audit_laws.proofs.examples.origins.check_text_with_origin.Goals as goal

pub returns-clause-plain : goal.returns-clause-plain
unfolding check_text count_below digits encode_with escape_byte
returns-clause-plain c = refl

pub returns-clause-quoted : goal.returns-clause-quoted
unfolding check_text count_below digits encode_with escape_byte
returns-clause-quoted c = refl
