-- The promise of arguments that ask for tests with an early stop.
use Rattle.std.proofs.Common.{◌≡◌, ℕ, ◌<◌, ◌&&◌, Bool, true, false, List, [], Option, Some, Ok, refl, sym, subst, arith}
use Rattle.std.proofs.lemmas.Bool.{and_right, both_ways}
use Rattle.audit_model.specs.declared.setting.Setting.{Setting}
use Rattle.audit_model.specs.Job.{Job}
use Rattle.audit_statement.specs.Draw.{draw}
use Rattle.audit_statement.specs.Note.{Ending, load_fault, folder_taken, stopped, damaged, other_job, save_fault}
use Rattle.audit_statement.specs.Words.{setting_of}
use Rattle.audit_statement.specs.Causes.{IsTheJob}
use Rattle.audit_statement.specs.Early.{EndsEarly}
use Rattle.audit_statement.specs.Status.{status_of}
use Rattle.audit_statement.specs.Endings.{Cause, EndsFor, is_walking, loads, StartsFrom, saves}
use Rattle.audit_statement.specs.Headline.{StartsWith, WritesWhole}
use Rattle.audit_statement.specs.Left.{LeavesAlone}
use Rattle.audit_laws.specs.Runs.{StopsAlone}
use Rattle.audit_model.specs.State.{Stream}
use Rattle.audit_statement.specs.World.{World}
use Rattle.audit_laws.proofs.Reporting.{same_setting}
use Rattle.audit_laws.proofs.Starting.{none_right, same_kept}
use Rattle.audit_laws.proofs.Words.{accepted_words_stop_alone}

module _ (setting : Setting) (alone : StopsAlone setting) where
  saves_nothing : saves setting ≡ false
  saves_nothing = rw alone.no_saves (and_right (is_walking setting.command) false refl)

  loads_nothing : loads setting ≡ false
  loads_nothing = rw (alone.no_saves, alone.fresh) (and_right (is_walking setting.command) false refl)

  resumes_nothing : (is_walking setting.command && setting.resume) ≡ false
  resumes_nothing = rw alone.fresh (and_right (is_walking setting.command) false refl)

-- such a run starts without outcomes
starts_empty : (words : List (List ℕ)) (before : World) (job : Job) → IsTheJob words before job → StopsAlone job.setting → StartsWith words before job []
starts_empty words before job t alone = record {
  the_job = t;
  walking = alone.walking;
  opened = subst (λ (b : Bool). StartsFrom b job before.keeper.slots (Some [])) (sym alone.fresh) refl;
}

module _ (words : List (List ℕ)) (before after : World) (setting : Setting) (e : setting_of words ≡ Ok setting) (alone : StopsAlone setting) where
  here : (other : Setting) (test : Setting → Bool) → setting_of words ≡ Ok other → test setting ≡ false → test other ≡ true → ⊥
  here other test is off on =
      let same : other ≡ setting = same_setting words other setting is e in
      both_ways (test setting) off (subst (λ (s : Setting). test s ≡ true) same on)

  below_six : (r : Option Ending) → Cause words before after r → status_of r < 6
  below_six (Some load_fault) c = absurd (here c.fault.job.setting loads c.fault.prepared.accepted.words_are (loads_nothing setting alone) c.fault.loading)
  below_six (Some folder_taken) c = absurd (here c.fault.job.setting loads c.fault.prepared.accepted.words_are (loads_nothing setting alone) c.fault.loading)
  below_six (Some (stopped done all)) c = absurd (here c.job.setting saves c.prepared.accepted.words_are (saves_nothing setting alone) c.saving)
  below_six (Some (damaged a b)) c =
      absurd (here c.job.setting (λ s. is_walking s.command && s.resume) c.prepared.accepted.words_are (resumes_nothing setting alone) c.resuming)
  below_six (Some (other_job a b)) c =
      absurd (here c.job.setting (λ s. is_walking s.command && s.resume) c.prepared.accepted.words_are (resumes_nothing setting alone) c.resuming)
  below_six (Some save_fault) c = absurd (here c.job.setting saves c.prepared.accepted.words_are (saves_nothing setting alone) c.saving)
  below_six r c = omega arith

-- a call whose tests stop early has written the stopping place of each
pub ends_early : (words : List (List ℕ)) (before after : World) (n m : Stream) (status : ℕ) → EndsFor words before after n m status
    → WritesWhole words before after status → LeavesAlone words before after status → EndsEarly words before after status
ends_early words before after n m status ends whole left = record {
  written = λ job t some z.
      let alone = accepted_words_stop_alone words job.setting t.observed.words_are some in
      whole.one_thread job [] (starts_empty words before job t alone) (none_right job (draw job.setting.key)) z;
  kept = λ setting e some.
      let alone = accepted_words_stop_alone words setting e some in
      let unsaved = left.not_saving setting e (saves_nothing setting alone) in
      same_kept before.keeper after.keeper unsaved.0 unsaved.2 (left.not_loading setting e (loads_nothing setting alone)) unsaved.1;
  never = λ setting e some.
      let alone = accepted_words_stop_alone words setting e some in
      subst (λ (s : ℕ). s < 6) (sym ends.status_is) (below_six words before after setting e alone ends.reason ends.cause);
}
