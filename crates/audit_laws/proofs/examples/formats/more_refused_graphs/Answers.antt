use Rattle.std.proofs.Common.{refl}
use Rattle.std.specs.Char.{encode_utf8}
use Rattle.std.specs.Str.{chars, is_utf8}
use Rattle.serde_json.proofs.OnLiterals.{serde_json_on_literals}
use Rattle.audit_model.specs.Below.{count_below}
use Rattle.audit_statement.specs.Reading.{reading}
use Rattle.audit_laws.proofs.examples.formats.more_refused_graphs.Goals as goal

pub returns-clause-fraction : goal.returns-clause-fraction
unfolding reading is_utf8 chars encode_utf8 serde_json_on_literals count_below
returns-clause-fraction c = refl

pub returns-clause-not_a_number : goal.returns-clause-not_a_number
unfolding reading is_utf8 chars encode_utf8 serde_json_on_literals count_below
returns-clause-not_a_number c = refl

pub returns-clause-same_id : goal.returns-clause-same_id
unfolding reading is_utf8 chars encode_utf8 serde_json_on_literals count_below
returns-clause-same_id c = refl

pub returns-clause-unknown : goal.returns-clause-unknown
unfolding reading is_utf8 chars encode_utf8 serde_json_on_literals count_below
returns-clause-unknown c = refl

pub returns-clause-missing : goal.returns-clause-missing
unfolding reading is_utf8 chars encode_utf8 serde_json_on_literals count_below
returns-clause-missing c = refl

pub returns-clause-root : goal.returns-clause-root
unfolding reading is_utf8 chars encode_utf8 serde_json_on_literals count_below
returns-clause-root c = refl

pub returns-clause-flag : goal.returns-clause-flag
unfolding reading is_utf8 chars encode_utf8 serde_json_on_literals count_below
returns-clause-flag c = refl

pub returns-clause-lengths : goal.returns-clause-lengths
unfolding reading is_utf8 chars encode_utf8 serde_json_on_literals count_below
returns-clause-lengths c = refl

pub returns-clause-brackets : goal.returns-clause-brackets
unfolding reading is_utf8 chars encode_utf8 serde_json_on_literals count_below
returns-clause-brackets c = refl
