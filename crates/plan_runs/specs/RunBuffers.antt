-- The initial state of a run.
use Rattle.std.specs.Prelude.{◌≡◌, ℕ, ◌+◌, ◌≤◌, List, [], length, Option}
use Rattle.audit_model.specs.declared.outcome.Outcome.{Outcome}
use Rattle.audit_model.specs.Job.{Job}
use Rattle.audit_model.specs.Run.{total, run_ids}
use Rattle.report.specs.Outcomes.{AreOutcomesOf, AreStopsOf, IsSerialOf}
use Rattle.audit_statement.specs.Report.{report}
use Rattle.plan_runs.specs.declared.buffers.RunBuffers.{RunBuffers}
use Rattle.ckpt_store.specs.Fitting.{AreFit}
use Rattle.audit_laws.specs.Runs.{IsRunJob}
use Rattle.claim_counter.specs.Walks.{IsTodo}

-- the buffer is large enough for any report on the job, wherever its tests stop and whatever its serial test finds
abbrev pub HasReportRoom : Job → ℕ → Type 0
HasReportRoom job spare = (outcomes : List Outcome) (stops : List (List ℕ)) (serial : Option (ℕ × List ℕ)) → AreOutcomesOf job outcomes → AreStopsOf job stops
    → IsSerialOf job serial → length (report job outcomes stops serial) ≤ spare

-- initial outcomes of a run of the job: each is plausible, and there are none if its tests stop early
pub record IsStartOf (job : Job) (outcomes : List Outcome) : Type 0 where
  pub run : IsRunJob job
  pub fit : AreFit job outcomes
  pub fresh : 1 ≤ job.setting.stop → outcomes ≡ []

-- a book of the initial outcomes, the ids to walk, and buffers for all outcomes and for the report
pub record AreBuffersFor (job : Job) (buffers : RunBuffers) : Type 0 where
  pub total_is : buffers.book.total ≡ total job
  pub start : IsStartOf job buffers.book.outcomes
  pub ids : buffers.todo ≡ run_ids job buffers.book.outcomes job.setting.budget
  pub todo : IsTodo job buffers.book.outcomes buffers.todo
  pub room : buffers.book.total ≤ length buffers.sorted.items + buffers.sorted.spare
  pub blank : buffers.text.items ≡ []
  pub report_room : HasReportRoom job buffers.text.spare
