use Rattle.std.proofs.Common.{refl}
use Rattle.std.specs.Char.{encode_utf8}
use Rattle.std.specs.Str.{chars, is_utf8}
use Rattle.serde_json.proofs.OnLiterals.{serde_json_on_literals}
use Rattle.audit_model.specs.Below.{count_below}
use Rattle.audit_statement.specs.Reading.{reading}
use Rattle.audit_laws.proofs.examples.formats.read_paths.Goals as goal

pub returns-clause-path : goal.returns-clause-path
unfolding reading is_utf8 chars encode_utf8 serde_json_on_literals count_below
returns-clause-path c = refl

pub returns-clause-other : goal.returns-clause-other
unfolding reading is_utf8 chars encode_utf8 serde_json_on_literals count_below
returns-clause-other c = refl
