use Rattle.std.proofs.Common.{refl}
use Rattle.hex.specs.Hex.{decode_pairs}
use Rattle.std.specs.Fmt.{digits}
use Rattle.audit_statement.specs.Words.{setting_of}
use Rattle.audit_laws.proofs.examples.further.words_of_the_serial_test.Goals as goal

pub returns-clause-default : goal.returns-clause-default
unfolding setting_of digits decode_pairs
returns-clause-default c = refl

pub returns-clause-asked : goal.returns-clause-asked
unfolding setting_of digits decode_pairs
returns-clause-asked c = refl

pub returns-clause-nine_plans : goal.returns-clause-nine_plans
unfolding setting_of digits decode_pairs
returns-clause-nine_plans c = refl

pub returns-clause-by_default : goal.returns-clause-by_default
unfolding setting_of digits decode_pairs
returns-clause-by_default c = refl

pub returns-clause-neither : goal.returns-clause-neither
unfolding setting_of digits decode_pairs
returns-clause-neither c = refl

pub returns-clause-unread_steps : goal.returns-clause-unread_steps
unfolding setting_of digits decode_pairs
returns-clause-unread_steps c = refl
