-- Accepted arguments, graphs and plans, and their jobs.
use Rattle.std.specs.Prelude.{◌≡◌, ℕ, Bool, true, false, nat_lt, List, [], length, Option, Some, Result, Ok, Err}
use Rattle.audit_model.specs.declared.fault.GraphFault.{GraphFault}
use Rattle.audit_model.specs.declared.fault.PlanFault.{PlanFault}
use Rattle.audit_model.specs.declared.fault.RegionFault.{RegionFault}
use Rattle.audit_model.specs.declared.fault.WordFault.{WordFault}
use Rattle.audit_model.specs.declared.origin.Origin.{Origin}
use Rattle.audit_model.specs.declared.setting.Columns.{Columns}
use Rattle.audit_model.specs.declared.setting.Command.{Command}
use Rattle.audit_model.specs.declared.setting.Command.TheVariants.{Check, Run, Make, Plans, Trace}
use Rattle.audit_model.specs.declared.setting.Setting.{Setting}
use Rattle.audit_model.specs.Job.{Job}
use Rattle.audit_model.specs.JobOf.{job_of}
use Rattle.audit_model.specs.Parsed.{Parsed}
use Rattle.audit_statement.specs.Grid.{grid}
use Rattle.audit_statement.specs.Origin.{origin_of, with_origin}
use Rattle.audit_statement.specs.Note.{Ending, too_many_bytes, bad_graph, bad_regions, bad_plan}
use Rattle.audit_statement.specs.Reading.{reading}
use Rattle.audit_statement.specs.Regions.{regions_by}
use Rattle.audit_statement.specs.Words.{setting_of}
use Rattle.audit_model.specs.Observed.{IfObserved}

-- the maximum number of bytes of a graph
abbrev pub most_bytes : ℕ
most_bytes = 67108864

-- the bytes of the graph: the grid of `make`, else the source's, if they are observable
abbrev pub input_by : Command → Setting → Option (List ℕ) → Option (List ℕ)
input_by Check setting left = left
input_by Run setting left = left
input_by Make setting left = Some (grid setting.size setting.key)
input_by Plans setting left = left
input_by Trace setting left = left

-- the bytes of the graph for a setting's command
abbrev pub input_of : Setting → Option (List ℕ) → Option (List ℕ)
input_of setting left = input_by setting.command setting left

-- the job with its origin, or the ending for its fault
abbrev pub from_job : Option Origin → Result Job PlanFault → Result Job Ending
from_job origin (Ok job) = Ok (with_origin origin job)
from_job origin (Err f) = Err (bad_plan f)

-- the job over these regions, or the ending for their fault
abbrev pub from_regions : Setting → Option Origin → Parsed → Result (List ℕ) RegionFault → Result Job Ending
from_regions setting origin parsed (Ok regions) = from_job origin (job_of parsed setting regions)
from_regions setting origin parsed (Err f) = Err (bad_regions setting.region f)

-- the job of a parsed graph, or the ending for the graph's fault
abbrev pub from_parsed : Setting → List ℕ → Result Parsed GraphFault → Result Job Ending
from_parsed setting bytes (Ok parsed) = from_regions setting (origin_of setting bytes) parsed (regions_by setting.region bytes)
from_parsed setting bytes (Err f) = Err (bad_graph f)

-- the job of bytes within the limit, or the ending for too many
abbrev pub from_bytes : Setting → List ℕ → Bool → Result Job Ending
from_bytes setting bytes true = Err too_many_bytes
from_bytes setting bytes false = from_parsed setting bytes (reading bytes setting.columns)

-- the job of these bytes, or the ending for the first fault
unfoldable pub judged : Setting → List ℕ → Result Job Ending
judged setting bytes = from_bytes setting bytes (nat_lt most_bytes (length bytes))

-- the arguments, the graph and its plan are accepted as this job; if the source is observable, its bytes are the
-- graph's
pub record IsAccepted (words : List (List ℕ)) (left : Option (List ℕ)) (job : Job) : Type 0 where
  pub words_are : setting_of words ≡ Ok job.setting
  pub bytes : List ℕ
  pub given : IfObserved (input_of job.setting left) (λ input. input ≡ bytes)
  pub judged_so : judged job.setting bytes ≡ Ok job

-- the arguments are accepted, and the graph or its plan is refused with this ending
pub record IsRefused (words : List (List ℕ)) (left : Option (List ℕ)) (ending : Ending) : Type 0 where
  pub setting : Setting
  pub words_are : setting_of words ≡ Ok setting
  pub bytes : List ℕ
  pub given : IfObserved (input_of setting left) (λ input. input ≡ bytes)
  pub judged_so : judged setting bytes ≡ Err ending

-- empty texts in place of columns
abbrev pub no_columns : Columns
no_columns = record { population = []; first = []; second = []; district = []; group = []; whole = []; frozen = []; length = [] }

-- the columns that the arguments name, or empty texts if they are refused
abbrev pub columns_in : Result Setting WordFault → Columns
columns_in (Ok setting) = setting.columns
columns_in (Err f) = no_columns

-- the columns of these arguments
abbrev pub columns_of : List (List ℕ) → Columns
columns_of words = columns_in (setting_of words)
