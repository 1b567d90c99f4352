-- From the reason of an ending to the claims of the statuses.
use Rattle.std.proofs.Common.{◌≡◌, ◌⊎◌, inl, inr, ℕ, ◌&&◌, Bool, true, false, IsTrue, List, Option, Some, None, Ok, Err, refl, sym, subst, ap, ◌∙◌}
use Rattle.audit_model.specs.declared.setting.Setting.{Setting}
use Rattle.audit_model.specs.Job.{Job}
use Rattle.audit_statement.specs.Note.{Ending, bad_words, too_many_bytes, bad_graph, bad_regions, bad_table, bad_plan, bad_plan_named, no_memory, read_fault, write_fault, load_fault, folder_taken, stopped, damaged, other_job, save_fault}
use Rattle.audit_statement.specs.Words.{setting_of}
use Rattle.audit_statement.specs.Accepted.{IsAccepted, IsRefused, judged, input_of}
use Rattle.audit_statement.specs.Causes.{IsObserved, MayEndWell, IsComplete, HasBudget}
use Rattle.audit_statement.specs.Status.{status_of}
use Rattle.audit_statement.specs.Endings.{Cause, EndsFor, ObservesInitialOutcomes, leaves_work, is_walking, IsStopped, IsSlotsFault}
use Rattle.audit_model.specs.State.{Stream}
use Rattle.audit_statement.specs.World.{World}
use Rattle.audit_laws.proofs.Reporting.{known_at, same_setting}
use Rattle.audit_laws.proofs.Starting.{initial_outcomes_known, undefined_known}
use Rattle.audit_model.specs.Pair.{Pair}

-- a refusal of the known input is a refusal of its bytes
pub refused_at : (words : List (List ℕ)) (before : World) (setting : Setting) (bytes : List ℕ) (ending : Ending)
    → IsObserved words before setting bytes → IsRefused words before.source.bytes ending → judged setting bytes ≡ Err ending
refused_at words before setting bytes ending observed refused =
    let same : refused.setting ≡ setting = same_setting words _ _ refused.words_are observed.words_are in
    let input : input_of refused.setting before.source.bytes ≡ Some bytes = subst (λ (s : Setting). input_of s before.source.bytes ≡ Some bytes) (sym same) observed.input in
    let read : bytes ≡ refused.bytes = known_at _ bytes (λ b. b ≡ refused.bytes) input refused.given in
    let err : judged refused.setting bytes ≡ Err ending = subst (λ (b : List ℕ). judged refused.setting b ≡ Err ending) (sym read) refused.judged_so in
    subst (λ (s : Setting). judged s bytes ≡ Err ending) same err

-- the job of the known input is that of its bytes
pub accepted_at : (words : List (List ℕ)) (before : World) (setting : Setting) (bytes : List ℕ) (job : Job)
    → IsObserved words before setting bytes → IsAccepted words before.source.bytes job → judged setting bytes ≡ Ok job
accepted_at words before setting bytes job observed accepted =
    let same : job.setting ≡ setting = same_setting words _ _ accepted.words_are observed.words_are in
    let input : input_of job.setting before.source.bytes ≡ Some bytes = subst (λ (s : Setting). input_of s before.source.bytes ≡ Some bytes) (sym same) observed.input in
    let read : bytes ≡ accepted.bytes = known_at _ bytes (λ b. b ≡ accepted.bytes) input accepted.given in
    let ok : judged job.setting bytes ≡ Ok job = subst (λ (b : List ℕ). judged job.setting b ≡ Ok job) (sym read) accepted.judged_so in
    subst (λ (s : Setting). judged s bytes ≡ Ok job) same ok

-- a known and accepted input is not refused
pub not_refused : (words : List (List ℕ)) (before : World) (job : Job) (bytes : List ℕ) (ending : Ending)
    → IsObserved words before job.setting bytes → judged job.setting bytes ≡ Ok job → IsRefused words before.source.bytes ending → ⊥
not_refused words before job bytes ending observed ok refused =
    let err : judged job.setting bytes ≡ Err ending = refused_at words before job.setting bytes ending observed refused in
    cc

-- the job of the known and accepted input is the job of the call
pub same_job : (words : List (List ℕ)) (before : World) (job other : Job) (bytes : List ℕ)
    → IsObserved words before job.setting bytes → judged job.setting bytes ≡ Ok job → IsAccepted words before.source.bytes other → other ≡ job
same_job words before job other bytes observed ok accepted =
    let ok' : judged job.setting bytes ≡ Ok other = accepted_at words before job.setting bytes other observed accepted in
    cc

-- if an 'and' is true, its first operand is
pub both_left : (a b : Bool) → IsTrue (a && b) → a ≡ true
both_left true b h = refl
both_left false b h = cc

-- nothing is pending after the known initial outcomes, so the call did not stop early
pub not_stopped : (words : List (List ℕ)) (before after : World) (done all : ℕ) → MayEndWell words before after → IsStopped words before after done all → ⊥
not_stopped words before after done all m s =
    let same : s.job ≡ m.job = same_job words before m.job s.job m.bytes m.observed m.accepted s.prepared.accepted in
    let walking : is_walking m.job.setting.command ≡ true = ap (λ (j : Job). is_walking j.setting.command) (sym same) ∙ both_left _ _ s.saving in
    let has : HasBudget true m.job before = subst (λ (b : Bool). HasBudget b m.job before) walking m.budget in
    let observed : ObservesInitialOutcomes s.job before.keeper.slots (Some has.0) = subst (λ (j : Job). ObservesInitialOutcomes j before.keeper.slots (Some has.0)) (sym same) has.1 in
    let opened : Some has.0 ≡ Some s.stopped.outcomes = initial_outcomes_known s.job before.keeper.slots (Some has.0) s.stopped.outcomes observed s.stopped.opened in
    let left : leaves_work s.job s.stopped.outcomes ≡ true = s.stopped.work_left in
    let enough : leaves_work m.job has.0 ≡ false = has.2 in
    cc

-- a call that can end well has no fault of a slot
pub not_undefined : (words : List (List ℕ)) (before after : World) (found : Job → Pair → Type 0) → MayEndWell words before after
    → IsSlotsFault words before after found → ⊥
not_undefined words before after found m s =
    let same : s.job ≡ m.job = same_job words before m.job s.job m.bytes m.observed m.accepted s.prepared.accepted in
    let walking : is_walking m.job.setting.command ≡ true = ap (λ (j : Job). is_walking j.setting.command) (sym same) ∙ both_left _ _ s.resuming in
    let has : HasBudget true m.job before = subst (λ (b : Bool). HasBudget b m.job before) walking m.budget in
    let observed : ObservesInitialOutcomes s.job before.keeper.slots (Some has.0) = subst (λ (j : Job). ObservesInitialOutcomes j before.keeper.slots (Some has.0)) (sym same) has.1 in
    let none : Some has.0 ≡ None = undefined_known s.job before.keeper.slots (Some has.0) (found s.job) observed s.seen in
    cc

-- a cause of a call that can end well gives status 0 or 3
pub completes : (words : List (List ℕ)) (before after : World) (reason : Option Ending) → Cause words before after reason
    → MayEndWell words before after → (status_of reason ≡ 0) ⊎ (status_of reason ≡ 3)
completes words before after None c m = inl refl
completes words before after (Some (bad_words f)) c m = let e : setting_of words ≡ Ok m.job.setting = m.observed.words_are in let d : setting_of words ≡ Err f = c in cc
completes words before after (Some too_many_bytes) c m = absurd (not_refused words before m.job m.bytes _ m.observed m.accepted c.refused)
completes words before after (Some (bad_graph f)) c m = absurd (not_refused words before m.job m.bytes _ m.observed m.accepted c)
completes words before after (Some (bad_regions column f)) c m = absurd (not_refused words before m.job m.bytes _ m.observed m.accepted c)
completes words before after (Some (bad_table f)) c m = absurd c
completes words before after (Some (bad_plan_named name f)) c m = absurd c
completes words before after (Some (bad_plan f)) c m = absurd (not_refused words before m.job m.bytes _ m.observed m.accepted c)
completes words before after (Some no_memory) c m = inr refl
completes words before after (Some read_fault) c m = absurd (m.reads c.rose)
completes words before after (Some write_fault) c m = absurd (m.writes c.rose)
completes words before after (Some load_fault) c m = absurd (m.loads c.fault.rose)
completes words before after (Some folder_taken) c m = absurd (m.loads c.fault.rose)
completes words before after (Some (stopped done all)) c m = absurd (not_stopped words before after done all m c)
completes words before after (Some (damaged zero one)) c m = absurd (not_undefined words before after _ m c)
completes words before after (Some (other_job found wanted)) c m = absurd (not_undefined words before after _ m c)
completes words before after (Some save_fault) c m = absurd (m.saves c.rose)

-- a call with a correct ending that can end well did all its work, or ran out of memory
pub is_complete : (words : List (List ℕ)) (before after : World) (n m : Stream) (status : ℕ) → EndsFor words before after n m status → IsComplete words before after status
is_complete words before after n m status e = λ well. subst (λ (s : ℕ). (s ≡ 0) ⊎ (s ≡ 3)) (sym e.status_is) (completes words before after e.reason e.cause well)
