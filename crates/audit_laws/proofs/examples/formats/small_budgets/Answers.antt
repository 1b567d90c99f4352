use Rattle.std.proofs.Common.{refl}
use Rattle.std.specs.Fmt.{digits}
use Rattle.hex.specs.Hex.{decode_pairs}
use Rattle.audit_statement.specs.Words.{setting_of}
use Rattle.audit_laws.proofs.examples.formats.small_budgets.Goals as goal

pub returns-clause-by_default : goal.returns-clause-by_default
unfolding setting_of digits decode_pairs
returns-clause-by_default c = refl

pub returns-clause-unsaved : goal.returns-clause-unsaved
unfolding setting_of digits decode_pairs
returns-clause-unsaved c = refl

pub returns-clause-saved : goal.returns-clause-saved
unfolding setting_of digits decode_pairs
returns-clause-saved c = refl

pub returns-clause-unread_save : goal.returns-clause-unread_save
unfolding setting_of digits decode_pairs
returns-clause-unread_save c = refl
