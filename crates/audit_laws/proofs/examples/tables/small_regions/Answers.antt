use Rattle.std.proofs.Common.{refl}
use Rattle.audit_model.specs.Below.{count_below}
use Rattle.audit_statement.specs.Regions.{id_reading, region_reading}
use Rattle.serde_json.proofs.OnLiterals.{serde_json_on_literals}
use Rattle.std.specs.Char.{encode_utf8}
use Rattle.std.specs.Str.{chars, is_utf8}
use Rattle.audit_laws.proofs.examples.tables.small_regions.Goals as goal

pub returns-clause-read : goal.returns-clause-read
unfolding region_reading id_reading is_utf8 chars encode_utf8 serde_json_on_literals count_below
returns-clause-read c = refl

pub returns-clause-missing : goal.returns-clause-missing
unfolding region_reading id_reading is_utf8 chars encode_utf8 serde_json_on_literals count_below
returns-clause-missing c = refl

pub returns-clause-no_label : goal.returns-clause-no_label
unfolding region_reading id_reading is_utf8 chars encode_utf8 serde_json_on_literals count_below
returns-clause-no_label c = refl

pub returns-clause-ids : goal.returns-clause-ids
unfolding region_reading id_reading is_utf8 chars encode_utf8 serde_json_on_literals count_below
returns-clause-ids c = refl
