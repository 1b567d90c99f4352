use Rattle.std.proofs.Common.{refl}
use Rattle.std.specs.Char.{encode_utf8}
use Rattle.std.specs.Str.{chars, is_utf8}
use Rattle.serde_json.proofs.OnLiterals.{serde_json_on_literals}
use Rattle.audit_model.specs.Below.{count_below}
use Rattle.audit_statement.specs.Reading.{reading}
use Rattle.audit_laws.proofs.examples.formats.refused_graphs.Goals as goal

pub returns-clause-empty : goal.returns-clause-empty
unfolding reading is_utf8 chars encode_utf8 serde_json_on_literals count_below
returns-clause-empty c = refl

pub returns-clause-no_nodes : goal.returns-clause-no_nodes
unfolding reading is_utf8 chars encode_utf8 serde_json_on_literals count_below
returns-clause-no_nodes c = refl

pub returns-clause-directed : goal.returns-clause-directed
unfolding reading is_utf8 chars encode_utf8 serde_json_on_literals count_below
returns-clause-directed c = refl
