use Rattle.std.proofs.Common.{refl}
use Rattle.hex.specs.Hex.{decode_pairs}
use Rattle.std.specs.Fmt.{digits}
use Rattle.audit_statement.specs.Words.{setting_of}
use Rattle.audit_laws.proofs.examples.tables.words_of_regions.Goals as goal

pub returns-clause-whole : goal.returns-clause-whole
unfolding setting_of digits decode_pairs
returns-clause-whole c = refl

pub returns-clause-alone : goal.returns-clause-alone
unfolding setting_of digits decode_pairs
returns-clause-alone c = refl

pub returns-clause-of_none : goal.returns-clause-of_none
unfolding setting_of digits decode_pairs
returns-clause-of_none c = refl

pub returns-clause-none_at_all : goal.returns-clause-none_at_all
unfolding setting_of digits decode_pairs
returns-clause-none_at_all c = refl
