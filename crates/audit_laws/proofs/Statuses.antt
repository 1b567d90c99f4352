-- The claims of each status, from the reason of an ending.
use Rattle.std.proofs.Common.{◌≡◌, ◌⊎◌, inl, inr, ◌≢◌, ℕ, ◌<◌, Bool, true, false, IsTrue, List, Option, Some, None, Err, IsErr, refl, sym, subst, ap, arith}
use Rattle.std.specs.Prelude.{⊤}
use Rattle.audit_model.specs.declared.fault.WordFault.{WordFault}
use Rattle.audit_model.specs.declared.setting.Setting.{Setting}
use Rattle.audit_model.specs.declared.outcome.Outcome.{Outcome}
use Rattle.audit_model.specs.declared.setting.Command.{Command}
use Rattle.audit_model.specs.declared.setting.Command.TheVariants.{Check, Run, Make, Plans, Trace}
use Rattle.audit_model.specs.Pair.{Pair}
use Rattle.audit_model.specs.Job.{Job}
use Rattle.audit_model.proofs.Results.{err_is_err, ok_is_no_err}
use Rattle.audit_statement.specs.Note.{Ending, bad_words, too_many_bytes, bad_graph, bad_regions, bad_table, bad_plan, bad_plan_named, no_memory, read_fault, write_fault, load_fault, folder_taken, stopped, damaged, other_job, save_fault}
use Rattle.audit_statement.specs.Words.{setting_of}
use Rattle.audit_statement.specs.Accepted.{IsAccepted, IsRefused, judged}
use Rattle.audit_statement.specs.Causes.{IsObserved, IsTheJob, LeavesWork, HasNoInitialOutcomes, HasCauses}
use Rattle.audit_statement.specs.Status.{status_of}
use Rattle.audit_statement.specs.Endings.{Cause, EndsFor, LeavesUntouched, marks_of, IsDone, IsReadFault, IsWriteFault, IsLoadFault, IsSaveFault, IsStopped, IsPrepared, AreInitialOutcomes, IsSlotsFault, WritesReport, WritesText, WritesOrStops, ObservesInitialOutcomes, leaves_work, is_walking}
use Rattle.audit_model.specs.State.{LoadFaults, Stream}
use Rattle.audit_statement.specs.World.{World}
use Rattle.audit_laws.proofs.Causing.{same_job, not_refused, refused_at, accepted_at}
use Rattle.audit_laws.proofs.Starting.{initial_outcomes_known, undefined_known}

-- a refused input has no job
pub refused_is_err : (words : List (List ℕ)) (before : World) (setting : Setting) (bytes : List ℕ) (ending : Ending)
    → IsObserved words before setting bytes → IsRefused words before.source.bytes ending → IsErr (judged setting bytes)
refused_is_err words before setting bytes ending observed refused = err_is_err _ ending (refused_at words before setting bytes ending observed refused)

-- an accepted input has a job
pub accepted_is_no_err : (words : List (List ℕ)) (before : World) (setting : Setting) (bytes : List ℕ) (job : Job)
    → IsObserved words before setting bytes → IsAccepted words before.source.bytes job → IsErr (judged setting bytes) → ⊥
accepted_is_no_err words before setting bytes job observed accepted = ok_is_no_err _ job (accepted_at words before setting bytes job observed accepted)

module _ (words : List (List ℕ)) (before after : World) where
  pub one_only : (r : Option Ending) → Cause words before after r → status_of r ≡ 1 → IsErr (setting_of words)
  one_only (Some (bad_words f)) c s = err_is_err _ f c
  one_only r c s = absurd (omega arith)

  pub one : (r : Option Ending) → Cause words before after r → IsErr (setting_of words) → (status_of r ≡ 1) ⊎ (status_of r ≡ 3)
  one None c h = absurd (ok_is_no_err _ _ c.prepared.accepted.words_are h)
  one (Some (bad_words f)) c h = inl refl
  one (Some too_many_bytes) c h = absurd (ok_is_no_err _ _ c.refused.words_are h)
  one (Some (bad_graph f)) c h = absurd (ok_is_no_err _ _ c.words_are h)
  one (Some (bad_regions column f)) c h = absurd (ok_is_no_err _ _ c.words_are h)
  one (Some (bad_table f)) c h = absurd c
  one (Some (bad_plan_named name f)) c h = absurd c
  one (Some (bad_plan f)) c h = absurd (ok_is_no_err _ _ c.words_are h)
  one (Some no_memory) c h = inr refl
  one (Some read_fault) c h = absurd (ok_is_no_err _ _ c.words_are h)
  one (Some write_fault) c h = absurd (ok_is_no_err _ _ c.prepared.accepted.words_are h)
  one (Some load_fault) c h = absurd (ok_is_no_err _ _ c.fault.prepared.accepted.words_are h)
  one (Some folder_taken) c h = absurd (ok_is_no_err _ _ c.fault.prepared.accepted.words_are h)
  one (Some (stopped done all)) c h = absurd (ok_is_no_err _ _ c.prepared.accepted.words_are h)
  one (Some (damaged a b)) c h = absurd (ok_is_no_err _ _ c.prepared.accepted.words_are h)
  one (Some (other_job a b)) c h = absurd (ok_is_no_err _ _ c.prepared.accepted.words_are h)
  one (Some save_fault) c h = absurd (ok_is_no_err _ _ c.prepared.accepted.words_are h)

  module _ (setting : Setting) (bytes : List ℕ) (observed : IsObserved words before setting bytes) where
    pub two_only : (r : Option Ending) → Cause words before after r → status_of r ≡ 2 → IsErr (judged setting bytes)
    two_only (Some too_many_bytes) c s = refused_is_err words before setting bytes _ observed c.refused
    two_only (Some (bad_graph f)) c s = refused_is_err words before setting bytes _ observed c
    two_only (Some (bad_regions column f)) c s = refused_is_err words before setting bytes _ observed c
    two_only (Some (bad_table f)) c s = absurd c
    two_only (Some (bad_plan_named name f)) c s = absurd c
    two_only (Some (bad_plan f)) c s = refused_is_err words before setting bytes _ observed c
    two_only r c s = absurd (omega arith)

    pub two : (r : Option Ending) → Cause words before after r → IsErr (judged setting bytes) → (status_of r ≡ 2) ⊎ (status_of r ≡ 3) ⊎ (status_of r ≡ 4)
    two None c h = absurd (accepted_is_no_err words before setting bytes _ observed c.prepared.accepted h)
    two (Some (bad_words f)) c h = absurd (ok_is_no_err _ _ observed.words_are (err_is_err _ f c))
    two (Some too_many_bytes) c h = inl refl
    two (Some (bad_graph f)) c h = inl refl
    two (Some (bad_regions column f)) c h = inl refl
    two (Some (bad_table f)) c h = absurd c
    two (Some (bad_plan_named name f)) c h = absurd c
    two (Some (bad_plan f)) c h = inl refl
    two (Some no_memory) c h = inr (inl refl)
    two (Some read_fault) c h = inr (inr refl)
    two (Some write_fault) c h = absurd (accepted_is_no_err words before setting bytes _ observed c.prepared.accepted h)
    two (Some load_fault) c h = absurd (accepted_is_no_err words before setting bytes _ observed c.fault.prepared.accepted h)
    two (Some folder_taken) c h = absurd (accepted_is_no_err words before setting bytes _ observed c.fault.prepared.accepted h)
    two (Some (stopped done all)) c h = absurd (accepted_is_no_err words before setting bytes _ observed c.prepared.accepted h)
    two (Some (damaged a b)) c h = absurd (accepted_is_no_err words before setting bytes _ observed c.prepared.accepted h)
    two (Some (other_job a b)) c h = absurd (accepted_is_no_err words before setting bytes _ observed c.prepared.accepted h)
    two (Some save_fault) c h = absurd (accepted_is_no_err words before setting bytes _ observed c.prepared.accepted h)

  pub four_only : (r : Option Ending) → Cause words before after r → status_of r ≡ 4 → IsReadFault words before after
  four_only (Some read_fault) c s = c
  four_only r c s = absurd (omega arith)

  pub five_only : (r : Option Ending) → Cause words before after r → status_of r ≡ 5 → IsWriteFault words before after
  five_only (Some write_fault) c s = c
  five_only r c s = absurd (omega arith)

  pub six_only : (r : Option Ending) → Cause words before after r → status_of r ≡ 6 → IsLoadFault words before after
  six_only (Some load_fault) c s = c.fault
  six_only (Some folder_taken) c s = c.fault
  six_only r c s = absurd (omega arith)

  pub nine_only : (r : Option Ending) → Cause words before after r → status_of r ≡ 9 → IsSaveFault words before after
  nine_only (Some save_fault) c s = c
  nine_only r c s = absurd (omega arith)

  pub four : (r : Option Ending) → LeavesUntouched words before after (marks_of r) → before.source.faults < after.source.faults → status_of r ≡ 4
  four (Some read_fault) u h = refl
  four r u h = absurd (omega (arith, u.read_faults))

  pub five : (r : Option Ending) → LeavesUntouched words before after (marks_of r) → before.out.faults < after.out.faults → status_of r ≡ 5
  five (Some write_fault) u h = refl
  five r u h = absurd (omega (arith, u.write_faults))

  pub six : (r : Option Ending) → LeavesUntouched words before after (marks_of r) → before.keeper.load_faults.all < after.keeper.load_faults.all → status_of r ≡ 6
  six (Some load_fault) u h = refl
  six (Some folder_taken) u h = refl
  six r u h = absurd (omega (arith, ap (λ (f : LoadFaults). f.all) u.load_faults))

  pub nine : (r : Option Ending) → LeavesUntouched words before after (marks_of r) → before.keeper.save_faults < after.keeper.save_faults → (status_of r ≡ 5) ⊎ (status_of r ≡ 9)
  nine (Some write_fault) u h = inl refl
  nine (Some save_fault) u h = inr refl
  nine r u h = absurd (omega (arith, u.save_faults))

  pub zero_only : (r : Option Ending) → Cause words before after r → status_of r ≡ 0 → IsDone words before after
  zero_only None c s = c
  zero_only (Some (bad_words f)) c s = absurd (omega arith)
  zero_only (Some too_many_bytes) c s = absurd (omega arith)
  zero_only (Some (bad_graph f)) c s = absurd (omega arith)
  zero_only (Some (bad_regions column f)) c s = absurd (omega arith)
  zero_only (Some (bad_table f)) c s = absurd c
  zero_only (Some (bad_plan_named name f)) c s = absurd c
  zero_only (Some (bad_plan f)) c s = absurd (omega arith)
  zero_only (Some no_memory) c s = absurd (omega arith)
  zero_only (Some read_fault) c s = absurd (omega arith)
  zero_only (Some write_fault) c s = absurd (omega arith)
  zero_only (Some load_fault) c s = absurd (omega arith)
  zero_only (Some folder_taken) c s = absurd (omega arith)
  zero_only (Some (stopped done all)) c s = absurd (omega arith)
  zero_only (Some (damaged a b)) c s = absurd (omega arith)
  zero_only (Some (other_job a b)) c s = absurd (omega arith)
  zero_only (Some save_fault) c s = absurd (omega arith)

  pub seven_only : (r : Option Ending) → Cause words before after r → status_of r ≡ 7 → (done : ℕ) × ((all : ℕ) × IsStopped words before after done all)
  seven_only (Some (stopped done all)) c s = (done, (all, c))
  seven_only r c s = absurd (omega arith)

  slots_fault : (found : Job → Pair → Type 0) → IsSlotsFault words before after found → IsSlotsFault words before after (λ job p. ⊤)
  slots_fault found c =
      record { job = c.job; prepared = c.prepared; resuming = c.resuming; seen = record { pair = c.seen.pair; same = c.seen.same; holds = (c.seen.holds.0, tt) } }

  eight_only : (r : Option Ending) → Cause words before after r → status_of r ≡ 8 → IsSlotsFault words before after (λ job p. ⊤)
  eight_only (Some (damaged a b)) c s = slots_fault _ c
  eight_only (Some (other_job a b)) c s = slots_fault _ c
  eight_only r c s = absurd (omega arith)

  -- the call's job is the known one
  pub job_is : (job other : Job) → IsTheJob words before job → IsPrepared words before.source after.source other → other ≡ job
  job_is job other t p = same_job words before job other t.bytes t.observed t.accepted p.accepted

  pub refused_not : (job : Job) (ending : Ending) → IsTheJob words before job → IsRefused words before.source.bytes ending → ⊥
  refused_not job ending t r = not_refused words before job t.bytes ending t.observed t.accepted r

  pub words_not : (job : Job) (f : WordFault) → IsTheJob words before job → setting_of words ≡ Err f → ⊥
  words_not job f t e = ok_is_no_err _ _ t.observed.words_are (err_is_err _ f e)

  pub text_report : (command : Command) (whole : Bool) (job : Job) → IsTrue (is_walking command) → WritesText command whole job before after → WritesReport whole job before after
  text_report Check whole job w t = cc
  text_report Run whole job w t = t
  text_report Make whole job w t = t
  text_report Plans whole job w t = t
  text_report Trace whole job w t = cc

  pub report_of : (whole : Bool) (job other : Job) → IsTrue (is_walking job.setting.command) → other ≡ job → WritesText other.setting.command whole other before after → WritesReport whole job before after
  report_of whole job other w same t =
      text_report job.setting.command whole job w (subst (λ (j : Job). WritesText j.setting.command whole j before after) same t)

  pub initial_outcomes_are : (job : Job) (observed : Option (List Outcome)) (outcomes : List Outcome) → ObservesInitialOutcomes job before.keeper.slots observed
      → AreInitialOutcomes job before.keeper.slots outcomes → observed ≡ Some outcomes
  initial_outcomes_are job observed outcomes e o = initial_outcomes_known job before.keeper.slots observed outcomes e o

  pub report_leaves_none : (whole : Bool) (l : LeavesWork words before) → WritesReport whole l.job before after → ⊥
  report_leaves_none whole l r =
      let e : Some l.outcomes ≡ Some r.outcomes = initial_outcomes_are l.job (Some l.outcomes) r.outcomes l.opened r.opened in
      let left : leaves_work l.job l.outcomes ≡ true = l.left in
      let none : leaves_work l.job r.outcomes ≡ false = r.nothing_left in
      cc

  pub undefined_not : (l : HasNoInitialOutcomes words before) (outcomes : List Outcome) → AreInitialOutcomes l.job before.keeper.slots outcomes → ⊥
  undefined_not l outcomes o = let e : None ≡ Some outcomes = initial_outcomes_are l.job None outcomes l.undefined o in cc

  pub slots_fault_opens : (job : Job) (outcomes : List Outcome) (found : Job → Pair → Type 0) (s : IsSlotsFault words before after found) → s.job ≡ job
      → ObservesInitialOutcomes job before.keeper.slots (Some outcomes) → ⊥
  slots_fault_opens job outcomes found s same e =
      let observed : ObservesInitialOutcomes s.job before.keeper.slots (Some outcomes) = subst (λ (j : Job). ObservesInitialOutcomes j before.keeper.slots (Some outcomes)) (sym same) e in
      let none : Some outcomes ≡ None = undefined_known s.job before.keeper.slots (Some outcomes) (found s.job) observed s.seen in
      cc

  pub seven : (r : Option Ending) → Cause words before after r → LeavesWork words before → status_of r ≢ 3 → status_of r ≢ 4 → status_of r ≢ 6 → status_of r ≢ 9 → status_of r ≡ 7
  seven None c l h3 h4 h6 h9 = absurd (report_leaves_none true l (report_of true l.job c.job l.walking (job_is l.job c.job l.the_job c.prepared) c.written))
  seven (Some (bad_words f)) c l h3 h4 h6 h9 = absurd (words_not l.job f l.the_job c)
  seven (Some too_many_bytes) c l h3 h4 h6 h9 = absurd (refused_not l.job _ l.the_job c.refused)
  seven (Some (bad_graph f)) c l h3 h4 h6 h9 = absurd (refused_not l.job _ l.the_job c)
  seven (Some (bad_regions column f)) c l h3 h4 h6 h9 = absurd (refused_not l.job _ l.the_job c)
  seven (Some (bad_table f)) c l h3 h4 h6 h9 = absurd c
  seven (Some (bad_plan_named name f)) c l h3 h4 h6 h9 = absurd c
  seven (Some (bad_plan f)) c l h3 h4 h6 h9 = absurd (refused_not l.job _ l.the_job c)
  seven (Some no_memory) c l h3 h4 h6 h9 = absurd (h3 refl)
  seven (Some read_fault) c l h3 h4 h6 h9 = absurd (h4 refl)
  seven (Some write_fault) c l h3 h4 h6 h9 = absurd (report_leaves_none false l (report_of false l.job c.job l.walking (job_is l.job c.job l.the_job c.prepared) c.written))
  seven (Some load_fault) c l h3 h4 h6 h9 = absurd (h6 refl)
  seven (Some folder_taken) c l h3 h4 h6 h9 = absurd (h6 refl)
  seven (Some (stopped done all)) c l h3 h4 h6 h9 = refl
  seven (Some (damaged a b)) c l h3 h4 h6 h9 = absurd (slots_fault_opens l.job l.outcomes _ c (job_is l.job c.job l.the_job c.prepared) l.opened)
  seven (Some (other_job a b)) c l h3 h4 h6 h9 = absurd (slots_fault_opens l.job l.outcomes _ c (job_is l.job c.job l.the_job c.prepared) l.opened)
  seven (Some save_fault) c l h3 h4 h6 h9 = absurd (h9 refl)

  -- the initial outcomes of a run of this job
  pub initial_outcomes_at : (job other : Job) (outcomes : List Outcome) → other ≡ job → AreInitialOutcomes other before.keeper.slots outcomes → AreInitialOutcomes job before.keeper.slots outcomes
  initial_outcomes_at job other outcomes same o = subst (λ (j : Job). AreInitialOutcomes j before.keeper.slots outcomes) same o

  pub saved_initial_outcomes : (whole : Bool) (l : HasNoInitialOutcomes words before) (other : Job) → other ≡ l.job → WritesOrStops whole other before after → ⊥
  saved_initial_outcomes true l other same w = undefined_not l w.outcomes (initial_outcomes_at l.job other w.outcomes same w.opened)
  saved_initial_outcomes false l other same w = undefined_not l w.outcomes (initial_outcomes_at l.job other w.outcomes same w.opened)

  pub report_initial_outcomes : (whole : Bool) (l : HasNoInitialOutcomes words before) → WritesReport whole l.job before after → ⊥
  report_initial_outcomes whole l w = undefined_not l w.outcomes w.opened

  pub eight : (r : Option Ending) → Cause words before after r → HasNoInitialOutcomes words before → status_of r ≢ 3 → status_of r ≢ 4 → status_of r ≢ 6 → status_of r ≡ 8
  eight None c l h3 h4 h6 = absurd (report_initial_outcomes true l (report_of true l.job c.job l.walking (job_is l.job c.job l.the_job c.prepared) c.written))
  eight (Some (bad_words f)) c l h3 h4 h6 = absurd (words_not l.job f l.the_job c)
  eight (Some too_many_bytes) c l h3 h4 h6 = absurd (refused_not l.job _ l.the_job c.refused)
  eight (Some (bad_graph f)) c l h3 h4 h6 = absurd (refused_not l.job _ l.the_job c)
  eight (Some (bad_regions column f)) c l h3 h4 h6 = absurd (refused_not l.job _ l.the_job c)
  eight (Some (bad_table f)) c l h3 h4 h6 = absurd c
  eight (Some (bad_plan_named name f)) c l h3 h4 h6 = absurd c
  eight (Some (bad_plan f)) c l h3 h4 h6 = absurd (refused_not l.job _ l.the_job c)
  eight (Some no_memory) c l h3 h4 h6 = absurd (h3 refl)
  eight (Some read_fault) c l h3 h4 h6 = absurd (h4 refl)
  eight (Some write_fault) c l h3 h4 h6 = absurd (report_initial_outcomes false l (report_of false l.job c.job l.walking (job_is l.job c.job l.the_job c.prepared) c.written))
  eight (Some load_fault) c l h3 h4 h6 = absurd (h6 refl)
  eight (Some folder_taken) c l h3 h4 h6 = absurd (h6 refl)
  eight (Some (stopped done all)) c l h3 h4 h6 = absurd (undefined_not l c.stopped.outcomes (initial_outcomes_at l.job c.job c.stopped.outcomes (job_is l.job c.job l.the_job c.prepared) c.stopped.opened))
  eight (Some (damaged a b)) c l h3 h4 h6 = refl
  eight (Some (other_job a b)) c l h3 h4 h6 = refl
  eight (Some save_fault) c l h3 h4 h6 = absurd (saved_initial_outcomes c.whole l c.job (job_is l.job c.job l.the_job c.prepared) c.written)

  pub causes_at : (r : Option Ending) → Cause words before after r → LeavesUntouched words before after (marks_of r) → HasCauses words before after (status_of r)
  causes_at r c u = record {
    one_only = one_only r c;
    one = one r c;
    two_only = λ setting bytes observed. two_only setting bytes observed r c;
    two = λ setting bytes observed. two setting bytes observed r c;
    four_only = four_only r c;
    four = four r u;
    five_only = five_only r c;
    five = five r u;
    six_only = six_only r c;
    six = six r u;
    nine_only = nine_only r c;
    nine = nine r u;
    zero_only = zero_only r c;
    seven_only = seven_only r c;
    seven = seven r c;
    eight_only = eight_only r c;
    eight = eight r c;
  }

-- each status of a call with a correct ending has its cause
pub has_causes : (words : List (List ℕ)) (before after : World) (n m : Stream) (status : ℕ) → EndsFor words before after n m status → HasCauses words before after status
has_causes words before after n m status e =
    subst (λ (s : ℕ). HasCauses words before after s) (sym e.status_is) (causes_at words before after e.reason e.cause e.untouched)
