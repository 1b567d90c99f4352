-- The setting of several plans, from their accepted arguments, and the consequences for their jobs.
use Rattle.std.proofs.Common.{◌≡◌, ◌∙◌, ℕ, true, false, List, [], ◌∷◌, Option, Some, None, Ok, refl, sym, subst, ap}
use Rattle.std.proofs.lemmas.Slice.Eq.{bytes_eq-Decides}
use Rattle.std.specs.Prelude.{bytes_eq, codes, unwrap_or}
use Rattle.std.specs.Fmt.{digits}
use Rattle.std.specs.List.{All}
use Rattle.std.specs.Option.{option_or}
use Rattle.audit_model.specs.declared.fault.WordFault.{WordFault}
use Rattle.audit_model.specs.declared.setting.Command.TheVariants.{Plans}
use Rattle.audit_model.specs.declared.setting.Setting.{Setting}
use Rattle.plan_csv.specs.declared.named.Named.{Named}
use Rattle.audit_statement.specs.Words.{NameAndValue, command_of, fault_of, number_of, of_command, pairs, setting_for, setting_of, setting_or}
use Rattle.audit_statement.specs.Endings.{is_walking}
use Rattle.audit_statement.specs.Several.{names_plans}
use Rattle.audit_model.specs.State.{Stream}
use Rattle.audit_words.proofs.Unnamed.{plans_miss, resume_is, save_is}
use Rattle.audit_laws.specs.Runs.{AcceptedJobsAreRuns}
use Rattle.audit_run.specs.Stages.{ArePlansPrepared}
use Rattle.plan_runs.specs.Plans.{RunsAlone}

-- the command is the one on several plans, and nothing is saved or resumed
pub record IsPlansSetting (setting : Setting) : Type 0 where
  pub command : setting.command ≡ Plans
  pub unsaved : setting.save_every ≡ 0
  pub fresh : setting.resume ≡ false

-- if neither of two options has a value, the first is empty
first_none : {A : Type 0} (a b : Option A) → option_or a b ≡ None → a ≡ None
first_none None b h = refl
first_none (Some x) b h = cc

-- accepted arguments of the command have its setting
with_fault : (words : List NameAndValue) (fault : Option WordFault) (setting : Setting) → fault_of Plans words ≡ fault → setting_or Plans words fault ≡ Ok setting → IsPlansSetting setting
unfolding digits
with_fault words None setting faultless e =
    let same : setting_for Plans words ≡ setting = cc in
    let pairs = first_none _ _ faultless in
    subst IsPlansSetting same (record {
      command = refl;
      unsaved = ap (λ t. unwrap_or (number_of t) 0) (save_is Plans words pairs (plans_miss words));
      fresh = ap (λ t. bytes_eq t (codes "yes")) (resume_is Plans words pairs (plans_miss words));
    })
with_fault words (Some f) setting faultless e = cc

-- accepted arguments of the command on several plans have its setting
pub plans_setting : (words : List (List ℕ)) (setting : Setting) → names_plans words ≡ true → setting_of words ≡ Ok setting → IsPlansSetting setting
unfolding setting_of
plans_setting [] setting named e = cc
plans_setting (word ∷ rest) setting named e =
    let is : word ≡ codes "plans" = (bytes_eq-Decides word (codes "plans")).0 named in
    let spelled : command_of word ≡ Some Plans = ap command_of is in
    with_fault (pairs rest) (fault_of Plans (pairs rest)) setting refl (sym (ap (of_command word (pairs rest)) spelled) ∙ e)

-- each of the jobs is a run that saves nothing and does not resume
pub run_alone : AcceptedJobsAreRuns → (words : List (List ℕ)) (before after : Stream) (named : List Named) → names_plans words ≡ true → ArePlansPrepared words before after named
    → All (λ (n : Named). RunsAlone n.job) named
run_alone accepted_jobs_are_runs words before after named argument_bytes by = λ k d inside.
    let accepted = by.prepared.input.words_are in
    let is = plans_setting words by.setting argument_bytes accepted in
    let one = by.shared.each k d inside in
    let accepted_here = accepted ∙ ap Ok (sym one.set) in
    let walking = ap (λ (s : Setting). is_walking s.command) one.set ∙ ap is_walking is.command in
    record {
      run = accepted_jobs_are_runs words _ accepted_here one.sound walking;
      unsaved = ap (λ (s : Setting). s.save_every) one.set ∙ is.unsaved;
      fresh = ap (λ (s : Setting). s.resume) one.set ∙ is.fresh;
    }

-- all plans have one key
pub same_key : (words : List (List ℕ)) (before after : Stream) (named : List Named) (by : ArePlansPrepared words before after named)
    → All (λ (n : Named). n.job.setting.key ≡ by.setting.key) named
same_key words before after named by = λ k d inside. ap (λ (s : Setting). s.key) (by.shared.each k d inside).set
