-- The output of a call that completed, in terms of the arguments, the bytes and the slots alone.
use Rattle.std.specs.Prelude.{◌≡◌, ℕ, List, IsTrue, IsFalse, Some}
use Rattle.std.specs.Io.KnownBytes.{Appends}
use Rattle.audit_model.specs.declared.outcome.Outcome.{Outcome}
use Rattle.audit_model.specs.declared.setting.Command.TheVariants.{Check, Trace}
use Rattle.audit_model.specs.Job.{Job}
use Rattle.audit_model.specs.Run.{IsRight}
use Rattle.audit_statement.specs.Draw.{draw}
use Rattle.audit_statement.specs.Report.{full_report, thread_report, check_text}
use Rattle.audit_statement.specs.Trace.{trace_text}
use Rattle.audit_statement.specs.Causes.{IsTheJob}
use Rattle.audit_statement.specs.Endings.{is_walking, ObservesInitialOutcomes, leaves_work, full_of}
use Rattle.audit_statement.specs.World.{World}

-- the report of one thread that walks each trajectory once
abbrev pub WritesOneThreads : Job → World → World → Type 0
WritesOneThreads job before after = Appends before.out.bytes after.out.bytes (thread_report job (draw job.setting.key))

-- a walking command starts with these outcomes
pub record StartsWith (words : List (List ℕ)) (before : World) (job : Job) (outcomes : List Outcome) : Type 0 where
  pub the_job : IsTheJob words before job
  pub walking : IsTrue (is_walking job.setting.command)
  pub opened : ObservesInitialOutcomes job before.keeper.slots (Some outcomes)

-- With status 0, a check writes its text, a trace the text of its range, and a run the report on the initial outcomes
-- and the missing ids. If the initial outcomes are right, that is the report of one thread. A failed save does not
-- change it.
pub record WritesWhole (words : List (List ℕ)) (before after : World) (status : ℕ) : Type 0 where
  pub check : (job : Job) → IsTheJob words before job → job.setting.command ≡ Check → status ≡ 0 → Appends before.out.bytes after.out.bytes (check_text job)
  pub trace : (job : Job) → IsTheJob words before job → job.setting.command ≡ Trace → status ≡ 0
      → Appends before.out.bytes after.out.bytes (trace_text job (draw job.setting.key) job.setting.first_id job.setting.last_id job.setting.thin)
  pub run : (job : Job) (outcomes : List Outcome) → StartsWith words before job outcomes → status ≡ 0
      → Appends before.out.bytes after.out.bytes (full_report job (draw job.setting.key) (full_of job outcomes))
  pub one_thread : (job : Job) (outcomes : List Outcome) → StartsWith words before job outcomes → IsRight job (draw job.setting.key) outcomes → status ≡ 0
      → WritesOneThreads job before after
  pub save_failed : (job : Job) (outcomes : List Outcome) → StartsWith words before job outcomes → IsRight job (draw job.setting.key) outcomes → status ≡ 9
      → IsFalse (leaves_work job outcomes) → WritesOneThreads job before after
