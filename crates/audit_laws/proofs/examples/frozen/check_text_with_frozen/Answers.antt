use Rattle.std.proofs.Common.{refl}
use Rattle.audit_model.specs.Below.{count_below}
use Rattle.std.specs.Fmt.{digits}
use Rattle.audit_statement.specs.Report.{check_text}
use Rattle.audit_laws.proofs.examples.frozen.check_text_with_frozen.Goals as goal

pub returns : goal.returns
unfolding check_text count_below digits
returns c = refl
