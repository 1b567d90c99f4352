use Rattle.std.proofs.Common.{refl}
use Rattle.audit_model.specs.Below.{count_below}
use Rattle.std.specs.Fmt.{digits}
use Rattle.audit_statement.specs.Report.{check_text}
use Rattle.audit_laws.proofs.examples.lengths.check_text_with_lengths.Goals as goal

pub returns-clause-limited : goal.returns-clause-limited
unfolding check_text count_below digits
returns-clause-limited c = refl

pub returns-clause-free : goal.returns-clause-free
unfolding check_text count_below digits
returns-clause-free c = refl
