use Rattle.std.proofs.Common.{refl}
use Rattle.std.specs.Fmt.{digits}
use Rattle.hex.specs.Hex.{decode_pairs}
use Rattle.audit_statement.specs.Words.{setting_of}
use Rattle.audit_laws.proofs.examples.pairs.words_of_pairs.Goals as goal

pub returns-clause-one_walk : goal.returns-clause-one_walk
unfolding setting_of digits decode_pairs
returns-clause-one_walk c = refl

pub returns-clause-no_answer : goal.returns-clause-no_answer
unfolding setting_of digits decode_pairs
returns-clause-no_answer c = refl

pub returns-clause-saved : goal.returns-clause-saved
unfolding setting_of digits decode_pairs
returns-clause-saved c = refl

pub returns-clause-weight : goal.returns-clause-weight
unfolding setting_of digits decode_pairs
returns-clause-weight c = refl
