use Rattle.std.proofs.Common.{refl}
use Rattle.hex.specs.Hex.{decode_pairs}
use Rattle.std.specs.Fmt.{digits}
use Rattle.audit_statement.specs.Words.{setting_of}
use Rattle.audit_laws.proofs.examples.tables.more_refused_words.Goals as goal

pub returns-clause-many_cut : goal.returns-clause-many_cut
unfolding setting_of digits decode_pairs
returns-clause-many_cut c = refl

pub returns-clause-zero_in_front : goal.returns-clause-zero_in_front
unfolding setting_of digits decode_pairs
returns-clause-zero_in_front c = refl

pub returns-clause-no_answer : goal.returns-clause-no_answer
unfolding setting_of digits decode_pairs
returns-clause-no_answer c = refl
