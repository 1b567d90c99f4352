-- The outcomes of a run.
use Rattle.std.specs.Prelude.{◌≡◌, ℕ, ◌<◌, ◌≤◌, List, [], length, take}
use Rattle.audit_model.specs.declared.outcome.Outcome.{Outcome}
use Rattle.audit_model.specs.Job.{Job}
use Rattle.audit_model.specs.Run.{total}
use Rattle.audit_model.specs.Serially.{serial_observed}
use Rattle.audit_statement.specs.Draw.{draw}
use Rattle.audit_statement.specs.Report.{full_report, report}
use Rattle.report.specs.Outcomes.{AreOutcomesOf, AreStopsOf, reported}
use Rattle.audit_laws.specs.Runs.{AreAll, IsRunJob}
use Rattle.plan_runs.specs.declared.found.Found.{Found}
use Rattle.plan_runs.specs.RunBuffers.{HasReportRoom}

-- the outcomes that the report covers
abbrev pub listed_in : Found → List Outcome
listed_in f = take f.listed f.sorted.items

-- the stops that the report covers
abbrev pub observed_in : Found → List (List ℕ)
observed_in f = take f.observed f.stops

-- The report can be made. The covered outcomes and stops exist, and the buffer is empty and large enough. The outcomes
-- are those of the job as soon as none is missing.
pub record IsReportable (job : Job) (f : Found) : Type 0 where
  pub run : IsRunJob job
  pub enough : f.listed ≤ length f.sorted.items
  pub enough_stops : f.observed ≤ length f.stops
  pub outcomes : reported job ≤ f.listed → AreOutcomesOf job (listed_in f)
  pub stops : AreStopsOf job (observed_in f)
  pub blank : f.text.items ≡ []
  pub report_room : HasReportRoom job f.text.spare

-- the report on this part is the report on all outcomes of a run with these initial outcomes
pub record ReportsAll (job : Job) (initial_outcomes : List Outcome) (f : Found) : Type 0 where
  pub outcomes : List Outcome
  pub all : AreAll job initial_outcomes outcomes
  pub whole : total job ≤ length outcomes
  pub same : report job (listed_in f) (observed_in f) (serial_observed job (draw job.setting.key)) ≡ full_report job (draw job.setting.key) outcomes

-- all outcomes of such a run are there, and some of the job's trajectories are pending
pub record LeavesSome (job : Job) (initial_outcomes : List Outcome) (f : Found) : Type 0 where
  pub all : AreAll job initial_outcomes (listed_in f)
  pub due : reported job ≡ total job

-- the outcomes of a run with these initial outcomes: all that the report covers, or fewer
pub record HasFound (job : Job) (initial_outcomes : List Outcome) (f : Found) : Type 0 where
  pub reportable : IsReportable job f
  pub whole : reported job ≤ f.listed → ReportsAll job initial_outcomes f
  pub short : f.listed < reported job → LeavesSome job initial_outcomes f
