use Rattle.std.proofs.Common.{refl}
use Rattle.hex.specs.Hex.{decode_pairs}
use Rattle.std.specs.Fmt.{digits}
use Rattle.audit_statement.specs.Words.{setting_of}
use Rattle.audit_laws.proofs.examples.lengths.words_with_lengths.Goals as goal

pub returns-clause-both : goal.returns-clause-both
unfolding setting_of digits decode_pairs
returns-clause-both c = refl

pub returns-clause-limit_alone : goal.returns-clause-limit_alone
unfolding setting_of digits decode_pairs
returns-clause-limit_alone c = refl

pub returns-clause-ask_alone : goal.returns-clause-ask_alone
unfolding setting_of digits decode_pairs
returns-clause-ask_alone c = refl

pub returns-clause-too_much : goal.returns-clause-too_much
unfolding setting_of digits decode_pairs
returns-clause-too_much c = refl
