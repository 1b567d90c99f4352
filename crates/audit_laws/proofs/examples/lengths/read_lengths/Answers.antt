use Rattle.std.proofs.Common.{refl}
use Rattle.std.specs.Char.{encode_utf8}
use Rattle.std.specs.Str.{chars, is_utf8}
use Rattle.serde_json.proofs.OnLiterals.{serde_json_on_literals}
use Rattle.audit_model.specs.Below.{count_below}
use Rattle.audit_statement.specs.Reading.{reading}
use Rattle.audit_laws.proofs.examples.lengths.read_lengths.Goals as goal

pub returns-clause-numbers : goal.returns-clause-numbers
unfolding reading is_utf8 chars encode_utf8 serde_json_on_literals count_below
returns-clause-numbers c = refl

pub returns-clause-missing : goal.returns-clause-missing
unfolding reading is_utf8 chars encode_utf8 serde_json_on_literals count_below
returns-clause-missing c = refl

pub returns-clause-no_number : goal.returns-clause-no_number
unfolding reading is_utf8 chars encode_utf8 serde_json_on_literals count_below
returns-clause-no_number c = refl

pub returns-clause-unequal : goal.returns-clause-unequal
unfolding reading is_utf8 chars encode_utf8 serde_json_on_literals count_below
returns-clause-unequal c = refl
