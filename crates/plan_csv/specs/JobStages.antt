-- Relations between the steps that make jobs.
use Rattle.std.specs.Prelude.{◌≡◌, ℕ, List, Option, Result, Ok, Err}
use Rattle.audit_model.specs.declared.fault.PlanFault.{PlanFault}
use Rattle.audit_model.specs.declared.origin.Origin.{Origin}
use Rattle.audit_model.specs.declared.plans.Assigned.{Assigned}
use Rattle.audit_model.specs.declared.setting.Setting.{Setting}
use Rattle.audit_model.specs.Job.{Job}
use Rattle.audit_model.specs.JobOf.{IsJob, job_of, job_with}
use Rattle.audit_model.specs.Parsed.{Parsed}
use Rattle.audit_model.specs.declared.fault.PlansFault.{PlansFault}
use Rattle.audit_model.specs.declared.fault.PlansFault.TheVariants as fault
use Rattle.plan_csv.specs.declared.named.Named.{Named}
use Rattle.audit_statement.specs.Jobs.{Jobs}
use Rattle.audit_statement.specs.Origin.{with_origin}

-- the job of the plan, on the data of another job
pub record IsNamedBy (job : Job) (plan : Assigned) (n : Named) : Type 0 where
  pub named : n.name ≡ plan.name
  pub made : job_with job plan.start plan.labels ≡ Ok n.job
  pub sound : IsJob n.job

-- the plan is refused with this fault
abbrev pub RefusesPlan : Job → Assigned → PlansFault → Type 0
RefusesPlan job plan f = (p : PlanFault) × (job_with job plan.start plan.labels ≡ Err p) × (f ≡ fault.Other plan.name p)

-- the fault is that of a plan of the table
abbrev pub IsNamedFault : Result Jobs (List ℕ × PlanFault) → PlansFault → Type 0
IsNamedFault r f = (name : List ℕ) × (p : PlanFault) × (r ≡ Err (name, p)) × (f ≡ fault.Other name p)

-- the job of the graph's own plan, with this origin
pub record IsOwn (setting : Setting) (origin : Option Origin) (parsed : Parsed) (regions : List ℕ) (n : Named) : Type 0 where
  pub named : n.name ≡ setting.columns.district
  pub job : Job
  pub made : job_of parsed setting regions ≡ Ok job
  pub observed : n.job ≡ with_origin origin job
  pub sound : IsJob n.job

-- the fault is that of the graph's own plan
abbrev pub IsOwnFault : Result Job PlanFault → PlansFault → Type 0
IsOwnFault r f = (p : PlanFault) × (r ≡ Err p) × (f ≡ fault.Own p)
