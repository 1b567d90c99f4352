-- The jobs of the table's plans, one by one.
use Rattle.std.proofs.Common.{◌≡◌, ℕ, zero, suc, ◌+◌, ◌<◌, ◌++◌, List, [], ◌∷◌, length, drop, get_or, Option, Some, None, Result, Ok, Err, refl, sym, ap, ◌∙◌, subst, arith, append_assoc}
use Rattle.std.specs.List.{All}
use Rattle.std.proofs.lemmas.List.{append-nil, drop_all, map-append}
use Rattle.std.proofs.lemmas.List.Elements.{All-push}
use Rattle.audit_model.specs.declared.fault.PlanFault.{PlanFault}
use Rattle.audit_model.specs.declared.plans.Assigned.{Assigned}
use Rattle.audit_model.specs.declared.setting.Label.{Label}
use Rattle.audit_model.specs.Job.{Job}
use Rattle.audit_model.specs.JobOf.{job_or, job_with, plan_fault, restarted}
use Rattle.audit_model.specs.Several.{named_before, named_jobs}
use Rattle.audit_model.specs.declared.fault.PlansFault.{PlansFault}
use Rattle.plan_csv.specs.declared.named.Named.{Named}
use Rattle.plan_csv.specs.Named.{jobs_of, pair_of, IsOneOf}
use Rattle.audit_statement.specs.Jobs.{Jobs}
use Rattle.plan_csv.specs.JobStages.{IsNamedBy, IsNamedFault, RefusesPlan}

-- the jobs made so far, followed by the others or their fault
abbrev pub after : Jobs → Result Jobs (List ℕ × PlanFault) → Result Jobs (List ℕ × PlanFault)
after done (Ok later) = Ok (done ++ later)
after done (Err refused) = Err refused

-- with no jobs made so far, the others are all
after_none : (later : Result Jobs (List ℕ × PlanFault)) → later ≡ after [] later
after_none (Ok jobs) = refl
after_none (Err refused) = refl

-- making one more job moves it from the others to those made
after_one : (done : Jobs) (name : List ℕ) (job : Job) (later : Result Jobs (List ℕ × PlanFault))
    → after done (named_before name (Ok job) later) ≡ after (done ++ (name, job) ∷ []) later
after_one done name job (Ok jobs) = ap Ok (sym (append_assoc done ((name, job) ∷ []) jobs))
after_one done name job (Err refused) = refl

-- the plans from a position on are the plan there and the later ones
drop_here : (plans : List Assigned) (i : ℕ) (p : Assigned) → i < length plans → p ≡ get_or plans i p → drop i plans ≡ p ∷ drop (suc i) plans
drop_here [] i p l is = absurd (omega (arith, l))
drop_here (x ∷ xs) zero p l is = ap (λ (q : Assigned). q ∷ xs) (sym is)
drop_here (x ∷ xs) (suc i) p l is = drop_here xs i p (omega (arith, l)) is

-- facts that a job with another plan keeps
module _ (job : Job) (start : List ℕ) (labels : List Label) (made : Job) where
  pub kept : job_with job start labels ≡ Ok made → (made.setting ≡ job.setting) × (made.regions ≡ job.regions) × (made.group ≡ job.group) × (made.frozen ≡ job.frozen)
  unfolding job_with
  kept e = by (plan_fault (restarted job start labels)) e
    where
      by : (o : Option PlanFault) → job_or (restarted job start labels) o ≡ Ok made → (made.setting ≡ job.setting) × (made.regions ≡ job.regions) × (made.group ≡ job.group) × (made.frozen ≡ job.frozen)
      by None h =
          let same : restarted job start labels ≡ made = cc h in
          (sym (ap (λ (j : Job). j.setting) same), sym (ap (λ (j : Job). j.regions) same), sym (ap (λ (j : Job). j.group) same), sym (ap (λ (j : Job). j.frozen) same))
      by (Some f) h = cc h

-- the jobs of the first plans
pub record AreNamed (job : Job) (plans : List Assigned) (i : ℕ) (named : List Named) : Type 0 where
  pub rest : named_jobs job plans ≡ after (jobs_of named) (named_jobs job (drop i plans))
  pub each : All (IsOneOf job.setting job.regions job.group job.frozen) named

-- before the first plan, no job is made
pub named_none : (job : Job) (plans : List Assigned) → AreNamed job plans 0 []
named_none job plans = record { rest = after_none (named_jobs job plans); each = λ k d l. absurd (omega (arith, l)) }

module _ (job : Job) (plans : List Assigned) (i : ℕ) (named : List Named) (before : AreNamed job plans i named) (p : Assigned) (l : i < length plans) (is : p ≡ get_or plans i p) where
  here : named_jobs job plans ≡ after (jobs_of named) (named_before p.name (job_with job p.start p.labels) (named_jobs job (drop (suc i) plans)))
  here = before.rest ∙ ap (λ (ps : List Assigned). after (jobs_of named) (named_jobs job ps)) (drop_here plans i p l is)

  pub named_more : (new : List Named) (n : Named) → new ≡ named ++ n ∷ [] → IsNamedBy job p n → AreNamed job plans (i + 1) new
  named_more new n made by =
      let next : suc i ≡ i + 1 = omega arith in
      let keeps = kept job p.start p.labels n.job by.made in
      record {
        rest =
            here
            ∙ ap (λ r. after (jobs_of named) (named_before p.name r (named_jobs job (drop (suc i) plans)))) by.made
            ∙ after_one (jobs_of named) p.name n.job (named_jobs job (drop (suc i) plans))
            ∙ ap (λ (name : List ℕ). after (jobs_of named ++ (name, n.job) ∷ []) (named_jobs job (drop (suc i) plans))) (sym by.named)
            ∙ ap (λ (js : Jobs). after js (named_jobs job (drop (suc i) plans))) (sym (map-append pair_of named (n ∷ [])))
            ∙ ap (λ (ns : List Named). after (jobs_of ns) (named_jobs job (drop (suc i) plans))) (sym made)
            ∙ ap (λ k. after (jobs_of new) (named_jobs job (drop k plans))) next;
        each = subst (λ (ns : List Named). All (IsOneOf job.setting job.regions job.group job.frozen) ns) (sym made)
            (All-push (IsOneOf job.setting job.regions job.group job.frozen) named n before.each (record { sound = by.sound; set = keeps.0; regioned = keeps.1; grouped = keeps.2; freezing = keeps.3 }));
      }

  pub refused_here : (f : PlansFault) → RefusesPlan job p f → IsNamedFault (named_jobs job plans) f
  refused_here f by = (
    p.name,
    by.0,
    here ∙ ap (λ r. after (jobs_of named) (named_before p.name r (named_jobs job (drop (suc i) plans)))) by.1,
    by.2,
  )

-- once every plan has its job, these are the jobs of the plans
pub named_all_of : (job : Job) (plans : List Assigned) (i : ℕ) (named : List Named) → i ≡ length plans → AreNamed job plans i named → named_jobs job plans ≡ Ok (jobs_of named)
named_all_of job plans i named all is =
    is.rest ∙ ap (λ (ps : List Assigned). after (jobs_of named) (named_jobs job ps)) (drop_all i plans (omega (arith, all)))
    ∙ ap Ok (append-nil (jobs_of named))

-- ---- one plan

module _ (job : Job) (p : Assigned) (name start : List ℕ) (labels : List Label) (named : name ≡ p.name) (started : start ≡ p.start) (labelled : labels ≡ p.labels) where
  with_own : job_with job start labels ≡ job_with job p.start p.labels
  with_own = ap (λ (s : List ℕ). job_with job s labels) started ∙ ap (λ (ls : List Label). job_with job p.start ls) labelled
