-- The bytes that are accepted as a graph with a start plan.
-- Source: this project for the limits. That graphs within them are accepted is what one expects from a reader of
-- networkx's format.
use Rattle.std.specs.Prelude.{◌≡◌, ℕ, IsTrue, List, [], Some, Ok}
use Rattle.std.specs.Str.{is_utf8}
use Rattle.serde_json.specs.Data.{Data}
use Rattle.serde_json.specs.Read.{read}
use Rattle.audit_model.specs.declared.setting.Setting.{Setting}
use Rattle.audit_model.specs.Job.{Job}
use Rattle.audit_model.specs.JobOf.{job_from, job_of}
use Rattle.audit_model.specs.Limits.{most_edges}
use Rattle.audit_model.specs.Parsed.{Parsed}
use Rattle.audit_statement.specs.Reading.{reading}
use Rattle.audit_laws.specs.Determined.{AreOfOneGraph}
use Rattle.audit_statement.specs.Given.{IsGiven}
use Rattle.audit_statement.specs.PlainlyEnded.{IsAllowed}
use Rattle.audit_statement.specs.Valid.{IsValid}

-- the bytes are read by the columns of the setting, and the result is a job of this graph with an accepted start plan
pub record AreTaken (bytes : List ℕ) (job : Job) : Type 0 where
  pub parsed : Parsed
  pub read_so : reading bytes job.setting.columns ≡ Ok parsed
  pub accepted : job_of parsed job.setting [] ≡ Ok (job_from parsed job.setting [])
  pub same : AreOfOneGraph (job_from parsed job.setting []) job

-- no group, no frozen units and no lengths are named, no majorities are required, and the limit on cut edges is the
-- largest
pub record LimitsNothing (setting : Setting) : Type 0 where
  pub no_group : setting.columns.group ≡ []
  pub none_due : setting.group_districts ≡ 0
  pub no_frozen : setting.columns.frozen ≡ []
  pub no_lengths : setting.columns.length ≡ []
  pub any_cut : setting.max_cut ≡ most_edges

-- the law that bytes of a job with a valid start plan within the limits are accepted, if no regions are read and the
-- setting limits nothing else
abbrev pub GivenJobsAreTaken : Type 0
GivenJobsAreTaken = (bytes : List ℕ) (root : Data) (job : Job) → IsTrue (is_utf8 bytes) → read bytes ≡ Some root → IsGiven root job → IsValid job job.start
    → IsAllowed root job → LimitsNothing job.setting → AreTaken bytes job

-- the JSON of the bytes gives the job that is read from them
pub record IsGivenBy (bytes : List ℕ) (job : Job) : Type 0 where
  pub root : Data
  pub is_text : IsTrue (is_utf8 bytes)
  pub is_json : read bytes ≡ Some root
  pub given : IsGiven root job

-- the law that the JSON gives whatever is read
abbrev pub ReadJobsAreGiven : Type 0
ReadJobsAreGiven = (bytes : List ℕ) (setting : Setting) (parsed : Parsed) → reading bytes setting.columns ≡ Ok parsed
    → IsGivenBy bytes (job_from parsed setting [])
