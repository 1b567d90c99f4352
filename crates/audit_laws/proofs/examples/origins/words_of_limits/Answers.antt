use Rattle.std.proofs.Common.{refl}
use Rattle.hex.specs.Hex.{decode_pairs}
use Rattle.std.specs.Fmt.{digits}
use Rattle.audit_statement.specs.Words.{setting_of}
use Rattle.audit_laws.proofs.examples.origins.words_of_limits.Goals as goal

pub returns-clause-all : goal.returns-clause-all
unfolding setting_of digits decode_pairs
returns-clause-all c = refl

pub returns-clause-of_all : goal.returns-clause-of_all
unfolding setting_of digits decode_pairs
returns-clause-of_all c = refl

pub returns-clause-splits_alone : goal.returns-clause-splits_alone
unfolding setting_of digits decode_pairs
returns-clause-splits_alone c = refl

pub returns-clause-regions_alone : goal.returns-clause-regions_alone
unfolding setting_of digits decode_pairs
returns-clause-regions_alone c = refl

pub returns-clause-whole_alone : goal.returns-clause-whole_alone
unfolding setting_of digits decode_pairs
returns-clause-whole_alone c = refl

pub returns-clause-districts_alone : goal.returns-clause-districts_alone
unfolding setting_of digits decode_pairs
returns-clause-districts_alone c = refl

pub returns-clause-too_many : goal.returns-clause-too_many
unfolding setting_of digits decode_pairs
returns-clause-too_many c = refl

pub returns-clause-no_answer : goal.returns-clause-no_answer
unfolding setting_of digits decode_pairs
returns-clause-no_answer c = refl

pub returns-clause-made : goal.returns-clause-made
unfolding setting_of digits decode_pairs
returns-clause-made c = refl
