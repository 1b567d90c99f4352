-- The line of a walker's current plan.
use Rattle.std.proofs.Common.{◌≡◌, ℕ, List, length, take, ℤ, sym, ap, ◌∙◌, subst, arith}
use Rattle.std.proofs.lemmas.List.{length-map}
use Rattle.audit_model.specs.declared.setting.Ask.{Ask}
use Rattle.audit_model.specs.Job.{Job}
use Rattle.audit_model.specs.JobOf.{IsJob}
use Rattle.audit_model.specs.Plan.{IsLegal}
use Rattle.audit_model.specs.Trajectory.{four_values, plan_value}
use Rattle.audit_statement.specs.Along.{ask_values, plan_after}
use Rattle.audit_statement.specs.Draw.{draw}
use Rattle.audit_statement.specs.Trace.{line_at, plan_line}
use Rattle.flip_kernel.specs.ChainState.{ChainState}
use Rattle.plan_runs.specs.Tracers.{IsCurrentAt}
use Rattle.plan_runs.proofs.Strides.{values_of_four}
use Rattle.report.proofs.Limits.{small}

-- the values of the asks are the first of four
taken : (job : Job) (plan : List ℕ) (n : ℕ) (values : List ℤ) → IsJob job → n ≡ length job.setting.asks → values ≡ four_values (ask_values job plan) → take n values ≡ ask_values job plan
taken job plan n values sound count is =
    let width = length-map job.setting.asks (λ (ask : Ask). plan_value job plan ask.score) in
    ap (λ (k : ℕ). take k values) (count ∙ sym width) ∙ ap (λ (zs : List ℤ). take (length (ask_values job plan)) zs) is
    ∙ values_of_four (ask_values job plan) (omega (arith, width, (small job sound).few_asks))

module _ (job : Job) (current now : ChainState) (same : now ≡ current) (made : current.job ≡ job) where
  -- the current plan is legal for the job
  pub legal_current : IsLegal now.job now.plan → IsLegal job current.plan
  legal_current legal = subst (λ (j : Job). IsLegal j current.plan) made (subst (λ (h : ChainState). IsLegal h.job h.plan) same legal)

  -- the written line is the line of the current plan
  pub line_observed : (step moved n : ℕ) (values : List ℤ) (before kept plan : List ℕ) → IsJob job → n ≡ length job.setting.asks → values ≡ four_values (ask_values job current.plan)
      → kept ≡ before → plan ≡ now.plan → plan_line step moved (take n values) kept plan ≡ plan_line step moved (ask_values job current.plan) before current.plan
  line_observed step moved n values before kept plan sound count is b p =
      ap (λ (zs : List ℤ). plan_line step moved zs kept plan) (taken job current.plan n values sound count is)
      ∙ ap (λ (q : List ℕ). plan_line step moved (ask_values job current.plan) q plan) b
      ∙ ap (λ (q : List ℕ). plan_line step moved (ask_values job current.plan) before q) (p ∙ ap (λ (h : ChainState). h.plan) same)

-- the line of a trajectory's plan
pub line_at_is : (job : Job) (id step moved : ℕ) (current : ChainState) (before : List ℕ) → IsCurrentAt job id step current moved
    → plan_line step moved (ask_values job current.plan) before current.plan ≡ line_at job (draw job.setting.key) id before step
line_at_is job id step moved current before at =
    ap (λ (q : List ℕ). plan_line step moved (ask_values job q) before q) at.plan
    ∙ ap (λ (m : ℕ). plan_line step m (ask_values job (plan_after job (draw job.setting.key) id step)) before (plan_after job (draw job.setting.key) id step)) at.counted
