-- The jobs of several plans on one graph, each with the name of its plan.
use Rattle.std.specs.Prelude.{ℕ, List, [], ◌∷◌, Result, Ok, Err}
use Rattle.audit_model.specs.declared.fault.PlanFault.{PlanFault}
use Rattle.audit_model.specs.declared.plans.Assigned.{Assigned}
use Rattle.audit_model.specs.Job.{Job}
use Rattle.audit_model.specs.JobOf.{job_with}

-- a plan's job before those of the later plans, or the first fault, with the name of its plan
abbrev pub named_before : List ℕ → Result Job PlanFault → Result (List (List ℕ × Job)) (List ℕ × PlanFault) → Result (List (List ℕ × Job)) (List ℕ × PlanFault)
named_before name (Err fault) later = Err (name, fault)
named_before name (Ok job) (Err refused) = Err refused
named_before name (Ok job) (Ok later) = Ok ((name, job) ∷ later)

-- the jobs of the plans of a table in order, or the first fault
abbrev pub named_jobs : Job → List Assigned → Result (List (List ℕ × Job)) (List ℕ × PlanFault)
named_jobs job [] = Ok []
named_jobs job (plan ∷ plans) = named_before plan.name (job_with job plan.start plan.labels) (named_jobs job plans)
