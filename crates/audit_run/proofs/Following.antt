-- From the reason why a call on several plans ended to the claims of its status.
use Rattle.std.proofs.Common.{◌≡◌, ◌∙◌, ℕ, ◌<◌, List, Option, Some, None, Result, Ok, Err, refl, sym, subst, ap, inl, inr, arith, true, false}
use Rattle.std.specs.Prelude.{IsErr}
use Rattle.std.specs.Io.KnownBytes.{Appends}
use Rattle.audit_model.specs.declared.fault.WordFault.{WordFault}
use Rattle.audit_model.specs.declared.setting.Setting.{Setting}
use Rattle.audit_statement.specs.Note.{Ending, bad_words, too_many_bytes, bad_graph, bad_regions, bad_table, bad_plan, bad_plan_named, no_memory, read_fault, write_fault, load_fault, folder_taken, stopped, damaged, other_job, save_fault}
use Rattle.audit_statement.specs.Draw.{draw}
use Rattle.audit_statement.specs.Jobs.{Jobs}
use Rattle.audit_statement.specs.Report.{plans_text}
use Rattle.audit_statement.specs.Words.{setting_of}
use Rattle.audit_statement.specs.Endings.{AppendsPart}
use Rattle.audit_statement.specs.Several.{ArePlansCutOff, ArePlansDone, ArePlansRefused, AreTheJobs, AreObservedPlans, IsPlansReadFault, KeepsPlansPromise, PlansCause, PlansCauses, PlansEnd, PlansLeave, VisitLegally, plans_judged, plans_marks}
use Rattle.audit_statement.specs.Status.{status_of}
use Rattle.audit_model.specs.State.{Stream}
use Rattle.audit_model.specs.Observed.{IfObserved}
use Rattle.audit_statement.specs.World.{World}
use Rattle.audit_laws.proofs.Reporting.{known_at, same_setting}

-- an accepted input is no error
is_no_error : {A E : Type 0} (r : Result A E) (x : A) → r ≡ Ok x → IsErr r → ⊥
is_no_error (Ok y) x e bad = cc
is_no_error (Err y) x e bad = cc

-- a refused input is an error
is_error : {A E : Type 0} (r : Result A E) (x : E) → r ≡ Err x → IsErr r
is_error (Ok y) x e = cc
is_error (Err y) x e = refl

module _ (words : List (List ℕ)) (before after : World) where
  -- the known bytes are those that were read
  observed_judged : (setting : Setting) (bytes : List ℕ) → AreObservedPlans words before setting bytes → (other : Setting) (read : List ℕ) → setting_of words ≡ Ok other
      → IfObserved before.source.bytes (λ input. input ≡ read) → plans_judged setting bytes ≡ plans_judged other read
  observed_judged setting bytes observed other read accepted given =
      let same : setting ≡ other = same_setting words setting other observed.words_are accepted in
      let is : bytes ≡ read = known_at before.source.bytes bytes (λ b. b ≡ read) observed.input given in
      ap (λ (s : Setting). plans_judged s bytes) same ∙ ap (plans_judged other) is

  observed_refused : (ending : Ending) → ArePlansRefused words before.source.bytes ending → (setting : Setting) (bytes : List ℕ) → AreObservedPlans words before setting bytes
      → plans_judged setting bytes ≡ Err ending
  observed_refused ending r setting bytes observed = observed_judged setting bytes observed r.setting r.bytes r.input.words_are r.input.given ∙ r.judged_so

  same_faults : (x y : ℕ) → y ≡ x → x < y → ⊥
  same_faults x y e l = absurd (omega (arith, e, l))

  -- the cause of a refusal
  refused_causes : (ending : Ending) → ArePlansRefused words before.source.bytes ending
      → PlansLeave before after (record { read = true; read_failed = false; wrote = false; write_failed = false }) → PlansCauses words before after 2
  refused_causes ending r left = record {
    written = λ setting jobs are zero. cc;
    cut_off = λ setting jobs are five. cc;
    legal = λ setting jobs are either. elim either [ inl zero ↦ cc | inr five ↦ cc ];
    unwritten = λ n m. left.out;
    read_to_end = λ zero. cc;
    few = omega arith;
    one_only = λ one. cc;
    one = λ bad. absurd (is_no_error (setting_of words) r.setting r.input.words_are bad);
    two_only = λ setting bytes observed two. is_error (plans_judged setting bytes) ending (observed_refused ending r setting bytes observed);
    two = λ setting bytes observed bad. inl refl;
    four_only = λ four. cc;
    four = λ l. absurd (same_faults before.source.faults after.source.faults left.read_faults l);
    five_only = λ five. cc;
    five = λ l. absurd (same_faults before.out.faults after.out.faults left.write_faults l);
    complete = λ setting jobs are reads writes.
        absurd (is_no_error (plans_judged setting are.bytes) jobs are.accepted (is_error (plans_judged setting are.bytes) ending (observed_refused ending r setting are.bytes are.observed)));
    kept = left.keeper;
  }

  words_causes : (f : WordFault) → setting_of words ≡ Err f
      → PlansLeave before after (record { read = false; read_failed = false; wrote = false; write_failed = false }) → PlansCauses words before after 1
  words_causes f e left = record {
    written = λ setting jobs are zero. cc;
    cut_off = λ setting jobs are five. cc;
    legal = λ setting jobs are either. elim either [ inl zero ↦ cc | inr five ↦ cc ];
    unwritten = λ n m. left.out;
    read_to_end = λ zero. cc;
    few = omega arith;
    one_only = λ one. is_error (setting_of words) f e;
    one = λ bad. inl refl;
    two_only = λ setting bytes observed two. cc;
    two = λ setting bytes observed bad. absurd (not_both (setting_of words) setting f observed.words_are e);
    four_only = λ four. cc;
    four = λ l. absurd (same_faults before.source.faults after.source.faults left.read_faults l);
    five_only = λ five. cc;
    five = λ l. absurd (same_faults before.out.faults after.out.faults left.write_faults l);
    complete = λ setting jobs are reads writes. absurd (not_both (setting_of words) setting f are.observed.words_are e);
    kept = left.keeper;
  }
    where
      not_both : {A E : Type 0} (r : Result A E) (x : A) (y : E) → r ≡ Ok x → r ≡ Err y → ⊥
      not_both r x y p q = cc

  memory_causes : PlansLeave before after (record { read = true; read_failed = false; wrote = false; write_failed = false }) → PlansCauses words before after 3
  memory_causes left = record {
    written = λ setting jobs are zero. cc;
    cut_off = λ setting jobs are five. cc;
    legal = λ setting jobs are either. elim either [ inl zero ↦ cc | inr five ↦ cc ];
    unwritten = λ n m. left.out;
    read_to_end = λ zero. cc;
    few = omega arith;
    one_only = λ one. cc;
    one = λ bad. inr refl;
    two_only = λ setting bytes observed two. cc;
    two = λ setting bytes observed bad. inr (inl refl);
    four_only = λ four. cc;
    four = λ l. absurd (same_faults before.source.faults after.source.faults left.read_faults l);
    five_only = λ five. cc;
    five = λ l. absurd (same_faults before.out.faults after.out.faults left.write_faults l);
    complete = λ setting jobs are reads writes. inr refl;
    kept = left.keeper;
  }

  read_causes : IsPlansReadFault words before after → PlansLeave before after (record { read = true; read_failed = true; wrote = false; write_failed = false })
      → PlansCauses words before after 4
  read_causes r left = record {
    written = λ setting jobs are zero. cc;
    cut_off = λ setting jobs are five. cc;
    legal = λ setting jobs are either. elim either [ inl zero ↦ cc | inr five ↦ cc ];
    unwritten = λ n m. left.out;
    read_to_end = λ zero. cc;
    few = omega arith;
    one_only = λ one. cc;
    one = λ bad. absurd (is_no_error (setting_of words) r.setting r.words_are bad);
    two_only = λ setting bytes observed two. cc;
    two = λ setting bytes observed bad. inr (inr refl);
    four_only = λ four. r.rose;
    four = λ l. refl;
    five_only = λ five. cc;
    five = λ l. absurd (same_faults before.out.faults after.out.faults left.write_faults l);
    complete = λ setting jobs are reads writes. absurd (reads r.rose);
    kept = left.keeper;
  }

  -- the known jobs are those that were accepted
  same_jobs : (s : Setting) (jobs : Jobs) (read : List ℕ) → setting_of words ≡ Ok s → IfObserved before.source.bytes (λ input. input ≡ read) → plans_judged s read ≡ Ok jobs
      → (setting : Setting) (others : Jobs) → AreTheJobs words before setting others → (s ≡ setting) × (jobs ≡ others)
  same_jobs s jobs read accepted given judged setting others are =
      let same : s ≡ setting = same_setting words s setting accepted are.observed.words_are in
      let ok : plans_judged setting are.bytes ≡ Ok jobs = observed_judged setting are.bytes are.observed s read accepted given ∙ judged in
      let both : Ok jobs ≡ Ok others = sym ok ∙ are.accepted in
      (same, let e : jobs ≡ others = cc in e)

  done_causes : ArePlansDone words before after → PlansLeave before after (record { read = true; read_failed = false; wrote = true; write_failed = false })
      → PlansCauses words before after 0
  done_causes d left = record {
    written = λ setting jobs are zero.
        let same = same_jobs d.setting d.jobs d.prepared.bytes d.prepared.input.words_are d.prepared.input.given d.prepared.judged_so setting jobs are in
        subst (λ (s : Setting). Appends before.out.bytes after.out.bytes (plans_text (draw s.key) jobs)) same.0
        (subst (λ (js : Jobs). Appends before.out.bytes after.out.bytes (plans_text (draw d.setting.key) js)) same.1 d.written);
    cut_off = λ setting jobs are five. cc;
    legal = λ setting jobs are either.
        let same = same_jobs d.setting d.jobs d.prepared.bytes d.prepared.input.words_are d.prepared.input.given d.prepared.judged_so setting jobs are in
        subst VisitLegally same.1 d.legal;
    unwritten = λ n m. absurd (n refl);
    read_to_end = λ zero. d.prepared.at_end;
    few = omega arith;
    one_only = λ one. cc;
    one = λ bad. absurd (is_no_error (setting_of words) d.setting d.prepared.input.words_are bad);
    two_only = λ setting bytes observed two. cc;
    two = λ setting bytes observed bad.
        absurd (is_no_error (plans_judged setting bytes) d.jobs (observed_judged setting bytes observed d.setting d.prepared.bytes d.prepared.input.words_are d.prepared.input.given ∙ d.prepared.judged_so) bad);
    four_only = λ four. cc;
    four = λ l. absurd (same_faults before.source.faults after.source.faults left.read_faults l);
    five_only = λ five. cc;
    five = λ l. absurd (same_faults before.out.faults after.out.faults left.write_faults l);
    complete = λ setting jobs are reads writes. inl refl;
    kept = left.keeper;
  }

  cut_causes : ArePlansCutOff words before after → PlansLeave before after (record { read = true; read_failed = false; wrote = true; write_failed = true })
      → PlansCauses words before after 5
  cut_causes d left = record {
    written = λ setting jobs are zero. cc;
    cut_off = λ setting jobs are five.
        let same = same_jobs d.setting d.jobs d.prepared.bytes d.prepared.input.words_are d.prepared.input.given d.prepared.judged_so setting jobs are in
        subst (λ (s : Setting). AppendsPart before.out.bytes after.out.bytes (plans_text (draw s.key) jobs)) same.0
        (subst (λ (js : Jobs). AppendsPart before.out.bytes after.out.bytes (plans_text (draw d.setting.key) js)) same.1 d.written);
    legal = λ setting jobs are either.
        let same = same_jobs d.setting d.jobs d.prepared.bytes d.prepared.input.words_are d.prepared.input.given d.prepared.judged_so setting jobs are in
        subst VisitLegally same.1 d.legal;
    unwritten = λ n m. absurd (m refl);
    read_to_end = λ zero. cc;
    few = omega arith;
    one_only = λ one. cc;
    one = λ bad. absurd (is_no_error (setting_of words) d.setting d.prepared.input.words_are bad);
    two_only = λ setting bytes observed two. cc;
    two = λ setting bytes observed bad.
        absurd (is_no_error (plans_judged setting bytes) d.jobs (observed_judged setting bytes observed d.setting d.prepared.bytes d.prepared.input.words_are d.prepared.input.given ∙ d.prepared.judged_so) bad);
    four_only = λ four. cc;
    four = λ l. absurd (same_faults before.source.faults after.source.faults left.read_faults l);
    five_only = λ five. d.rose;
    five = λ l. refl;
    complete = λ setting jobs are reads writes. absurd (writes d.rose);
    kept = left.keeper;
  }

  causes_for : (reason : Option Ending) → PlansCause words before after reason → PlansLeave before after (plans_marks reason) → PlansCauses words before after (status_of reason)
  causes_for None c left = done_causes c left
  causes_for (Some (bad_words f)) c left = words_causes f c left
  causes_for (Some too_many_bytes) c left = refused_causes too_many_bytes c.refused left
  causes_for (Some (bad_graph f)) c left = refused_causes (bad_graph f) c left
  causes_for (Some (bad_regions column f)) c left = refused_causes (bad_regions column f) c left
  causes_for (Some (bad_table f)) c left = refused_causes (bad_table f) c left
  causes_for (Some (bad_plan f)) c left = refused_causes (bad_plan f) c left
  causes_for (Some (bad_plan_named name f)) c left = refused_causes (bad_plan_named name f) c left
  causes_for (Some no_memory) c left = memory_causes left
  causes_for (Some read_fault) c left = read_causes c left
  causes_for (Some write_fault) c left = cut_causes c left
  causes_for (Some load_fault) c left = absurd c
  causes_for (Some folder_taken) c left = absurd c
  causes_for (Some (stopped done all)) c left = absurd c
  causes_for (Some (damaged first second)) c left = absurd c
  causes_for (Some (other_job found wanted)) c left = absurd c
  causes_for (Some save_fault) c left = absurd c

-- a call with a correct ending meets its contract
pub keeps_promise : (words : List (List ℕ)) (before after : World) (n m : Stream) (status : ℕ) → PlansEnd words before after n m status → KeepsPlansPromise words before after n m status
keeps_promise words before after n m status e = record {
  causes = subst (PlansCauses words before after) (sym e.status_is) (causes_for words before after e.reason e.cause e.untouched);
  ends = e;
}
