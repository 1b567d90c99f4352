use Rattle.std.proofs.Common.{refl}
use Rattle.std.specs.Fmt.{digits}
use Rattle.hex.specs.Hex.{decode_pairs}
use Rattle.audit_statement.specs.Words.{setting_of}
use Rattle.audit_laws.proofs.examples.formats.refused_words.Goals as goal

pub returns-clause-none : goal.returns-clause-none
unfolding setting_of digits decode_pairs
returns-clause-none c = refl

pub returns-clause-no_value : goal.returns-clause-no_value
unfolding setting_of digits decode_pairs
returns-clause-no_value c = refl

pub returns-clause-twice : goal.returns-clause-twice
unfolding setting_of digits decode_pairs
returns-clause-twice c = refl

pub returns-clause-unknown : goal.returns-clause-unknown
unfolding setting_of digits decode_pairs
returns-clause-unknown c = refl

pub returns-clause-missing : goal.returns-clause-missing
unfolding setting_of digits decode_pairs
returns-clause-missing c = refl

pub returns-clause-leading_zero : goal.returns-clause-leading_zero
unfolding setting_of digits decode_pairs
returns-clause-leading_zero c = refl

pub returns-clause-no_trajectories : goal.returns-clause-no_trajectories
unfolding setting_of digits decode_pairs
returns-clause-no_trajectories c = refl

pub returns-clause-ends_before_ask : goal.returns-clause-ends_before_ask
unfolding setting_of digits decode_pairs
returns-clause-ends_before_ask c = refl

pub returns-clause-same_ask : goal.returns-clause-same_ask
unfolding setting_of digits decode_pairs
returns-clause-same_ask c = refl

pub returns-clause-many_workers : goal.returns-clause-many_workers
unfolding setting_of digits decode_pairs
returns-clause-many_workers c = refl

pub returns-clause-short_key : goal.returns-clause-short_key
unfolding setting_of digits decode_pairs
returns-clause-short_key c = refl
