-- From the ending of a call to the report of one thread.
use Rattle.std.proofs.Common.{◌≡◌, ℕ, Bool, true, false, List, Option, Some, sym, subst, arith}
use Rattle.std.specs.Io.KnownBytes.{Appends}
use Rattle.audit_model.specs.declared.outcome.Outcome.{Outcome}
use Rattle.audit_model.specs.declared.setting.Command.{Command}
use Rattle.audit_model.specs.declared.setting.Command.TheVariants.{Check, Trace}
use Rattle.audit_model.specs.Job.{Job}
use Rattle.audit_model.specs.Run.{IsRight}
use Rattle.audit_model.specs.Trajectory.{sequence}
use Rattle.audit_model.proofs.Resumed.{full_is_sequence}
use Rattle.audit_statement.specs.Draw.{draw}
use Rattle.audit_statement.specs.Note.{Ending, save_fault}
use Rattle.audit_statement.specs.Report.{full_report, thread_report, check_text}
use Rattle.audit_statement.specs.Trace.{trace_text}
use Rattle.audit_statement.specs.Causes.{IsTheJob}
use Rattle.audit_statement.specs.Status.{status_of}
use Rattle.audit_statement.specs.Endings.{Cause, EndsFor, WritesReport, WritesText, WritesOrStops, leaves_work, full_of}
use Rattle.audit_statement.specs.Headline.{WritesOneThreads, StartsWith, WritesWhole}
use Rattle.audit_model.specs.State.{Stream}
use Rattle.audit_statement.specs.World.{World}
use Rattle.audit_laws.proofs.Starting.{every_id}
use Rattle.audit_laws.proofs.Statuses.{zero_only, job_is, report_of, initial_outcomes_are, initial_outcomes_at}

module _ (words : List (List ℕ)) (before after : World) where
  pub whole_text : (job : Job) (outcomes : List Outcome) → StartsWith words before job outcomes → (r : WritesReport true job before after)
      → Appends before.out.bytes after.out.bytes (full_report job (draw job.setting.key) (full_of job outcomes))
  whole_text job outcomes s r =
      let e : Some outcomes ≡ Some r.outcomes = initial_outcomes_are words before after job (Some outcomes) r.outcomes s.opened r.opened in
      let same : r.outcomes ≡ outcomes = cc in
      subst (λ (os : List Outcome). Appends before.out.bytes after.out.bytes (full_report job (draw job.setting.key) (full_of job os))) same r.written

  pub one_report : (job : Job) (outcomes : List Outcome) → StartsWith words before job outcomes → IsRight job (draw job.setting.key) outcomes
      → (r : WritesReport true job before after) → WritesOneThreads job before after
  unfolding thread_report
  one_report job outcomes s right r =
      let e : Some outcomes ≡ Some r.outcomes = initial_outcomes_are words before after job (Some outcomes) r.outcomes s.opened r.opened in
      let same : outcomes ≡ r.outcomes = cc in
      let right' : IsRight job (draw job.setting.key) r.outcomes = subst (λ (os : List Outcome). IsRight job (draw job.setting.key) os) same right in
      let all : full_of job r.outcomes ≡ sequence job (draw job.setting.key) =
      full_is_sequence job (draw job.setting.key) r.outcomes right' job.setting.budget (every_id job r.outcomes r.nothing_left) in
      subst (λ (os : List Outcome). Appends before.out.bytes after.out.bytes (full_report job (draw job.setting.key) os)) all r.written

  pub done_report : (job : Job) (outcomes : List Outcome) → StartsWith words before job outcomes → (r : Option Ending) → Cause words before after r → status_of r ≡ 0
      → WritesReport true job before after
  done_report job outcomes s r c z =
      let d = zero_only words before after r c z in
      report_of words before after true job d.job s.walking (job_is words before after job d.job s.the_job d.prepared) d.written

  pub done_check : (job : Job) → IsTheJob words before job → job.setting.command ≡ Check → (r : Option Ending) → Cause words before after r → status_of r ≡ 0
      → Appends before.out.bytes after.out.bytes (check_text job)
  done_check job t check r c z =
      let d = zero_only words before after r c z in
      let text : WritesText job.setting.command true job before after =
      subst (λ (j : Job). WritesText j.setting.command true j before after) (job_is words before after job d.job t d.prepared) d.written in
      subst (λ (k : Command). WritesText k true job before after) check text

  pub done_trace : (job : Job) → IsTheJob words before job → job.setting.command ≡ Trace → (r : Option Ending) → Cause words before after r → status_of r ≡ 0
      → Appends before.out.bytes after.out.bytes (trace_text job (draw job.setting.key) job.setting.first_id job.setting.last_id job.setting.thin)
  done_trace job t trace r c z =
      let d = zero_only words before after r c z in
      let text : WritesText job.setting.command true job before after =
      subst (λ (j : Job). WritesText j.setting.command true j before after) (job_is words before after job d.job t d.prepared) d.written in
      subst (λ (k : Command). WritesText k true job before after) trace text

  pub whole_report : (whole : Bool) (job other : Job) (outcomes : List Outcome) → StartsWith words before job outcomes → other ≡ job
      → leaves_work job outcomes ≡ false → WritesOrStops whole other before after → WritesReport true job before after
  whole_report true job other outcomes s same none w = subst (λ (j : Job). WritesReport true j before after) same w
  whole_report false job other outcomes s same none w =
      let e : Some outcomes ≡ Some w.outcomes = initial_outcomes_are words before after job (Some outcomes) w.outcomes s.opened (initial_outcomes_at words before after job other w.outcomes same w.opened) in
      let left : leaves_work job w.outcomes ≡ true = subst (λ (j : Job). leaves_work j w.outcomes ≡ true) same w.work_left in
      cc

  pub nine_report : (job : Job) (outcomes : List Outcome) → StartsWith words before job outcomes → leaves_work job outcomes ≡ false
      → (r : Option Ending) → Cause words before after r → status_of r ≡ 9 → WritesReport true job before after
  nine_report job outcomes s none (Some save_fault) c z =
      whole_report c.whole job c.job outcomes s (job_is words before after job c.job s.the_job c.prepared) none c.written
  nine_report job outcomes s none r c z = absurd (omega arith)

-- a call with a correct ending has written its whole text if its status says so
pub writes_whole : (words : List (List ℕ)) (before after : World) (n m : Stream) (status : ℕ) → EndsFor words before after n m status → WritesWhole words before after status
writes_whole words before after n m status e =
    subst (λ (s : ℕ). WritesWhole words before after s) (sym e.status_is) (record {
      check = λ job t check z. done_check words before after job t check e.reason e.cause z;
      trace = λ job t trace z. done_trace words before after job t trace e.reason e.cause z;
      run = λ job outcomes s z. whole_text words before after job outcomes s (done_report words before after job outcomes s e.reason e.cause z);
      one_thread = λ job outcomes s right z. one_report words before after job outcomes s right (done_report words before after job outcomes s e.reason e.cause z);
      save_failed = λ job outcomes s right z none. one_report words before after job outcomes s right (nine_report words before after job outcomes s none e.reason e.cause z);
    })
