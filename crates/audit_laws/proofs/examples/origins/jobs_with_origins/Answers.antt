use Rattle.std.proofs.Common.{refl}
use Rattle.csv.proofs.OnLiterals.{csv_on_literals}
use Rattle.std.specs.Char.{encode_utf8}
use Rattle.std.specs.Fmt.{digits}
use Rattle.std.specs.Str.{chars, is_utf8}
use Rattle.serde_json.proofs.OnLiterals.{serde_json_on_literals}
use Rattle.audit_model.specs.Below.{count_below}
use Rattle.audit_model.specs.JobOf.{job_of, job_with}
use Rattle.audit_statement.specs.Accepted.{judged}
use Rattle.audit_statement.specs.Jobs.{jobs_reading}
use Rattle.audit_statement.specs.Reading.{reading}
use Rattle.audit_statement.specs.Regions.{id_reading}
use Rattle.audit_statement.specs.Table.{table_reading}
use Rattle.audit_laws.proofs.examples.origins.jobs_with_origins.Goals as goal

pub returns-clause-no_origin : goal.returns-clause-no_origin
unfolding judged jobs_reading job_of job_with reading id_reading table_reading csv_on_literals digits is_utf8 chars encode_utf8 serde_json_on_literals count_below
returns-clause-no_origin c = refl

pub returns-clause-observed : goal.returns-clause-observed
unfolding judged jobs_reading job_of job_with reading id_reading table_reading csv_on_literals digits is_utf8 chars encode_utf8 serde_json_on_literals count_below
returns-clause-observed c = refl

pub returns-clause-several : goal.returns-clause-several
unfolding judged jobs_reading job_of job_with reading id_reading table_reading csv_on_literals digits is_utf8 chars encode_utf8 serde_json_on_literals count_below
returns-clause-several c = refl
