use Rattle.std.proofs.Common.{refl}
use Rattle.audit_model.specs.Below.{count_below}
use Rattle.csv.proofs.OnLiterals.{csv_on_literals}
use Rattle.std.specs.Char.{encode_utf8}
use Rattle.std.specs.Fmt.{digits}
use Rattle.std.specs.Str.{chars, is_utf8}
use Rattle.audit_statement.specs.Table.{table_reading}
use Rattle.audit_laws.proofs.examples.tables.small_tables.Goals as goal

pub returns-clause-plan : goal.returns-clause-plan
unfolding table_reading csv_on_literals is_utf8 chars encode_utf8 count_below digits
returns-clause-plan c = refl

pub returns-clause-turned : goal.returns-clause-turned
unfolding table_reading csv_on_literals is_utf8 chars encode_utf8 count_below digits
returns-clause-turned c = refl

pub returns-clause-missing : goal.returns-clause-missing
unfolding table_reading csv_on_literals is_utf8 chars encode_utf8 count_below digits
returns-clause-missing c = refl

pub returns-clause-twice : goal.returns-clause-twice
unfolding table_reading csv_on_literals is_utf8 chars encode_utf8 count_below digits
returns-clause-twice c = refl

pub returns-clause-empty : goal.returns-clause-empty
unfolding table_reading csv_on_literals is_utf8 chars encode_utf8 count_below digits
returns-clause-empty c = refl

pub returns-clause-short_row : goal.returns-clause-short_row
unfolding table_reading csv_on_literals is_utf8 chars encode_utf8 count_below digits
returns-clause-short_row c = refl

pub returns-clause-no_text : goal.returns-clause-no_text
unfolding table_reading csv_on_literals is_utf8 chars encode_utf8 count_below digits
returns-clause-no_text c = refl

pub returns-clause-no_plan : goal.returns-clause-no_plan
unfolding table_reading csv_on_literals is_utf8 chars encode_utf8 count_below digits
returns-clause-no_plan c = refl

pub returns-clause-no_name : goal.returns-clause-no_name
unfolding table_reading csv_on_literals is_utf8 chars encode_utf8 count_below digits
returns-clause-no_name c = refl

pub returns-clause-unknown : goal.returns-clause-unknown
unfolding table_reading csv_on_literals is_utf8 chars encode_utf8 count_below digits
returns-clause-unknown c = refl

pub returns-clause-shared : goal.returns-clause-shared
unfolding table_reading csv_on_literals is_utf8 chars encode_utf8 count_below digits
returns-clause-shared c = refl

pub returns-clause-one_label : goal.returns-clause-one_label
unfolding table_reading csv_on_literals is_utf8 chars encode_utf8 count_below digits
returns-clause-one_label c = refl
