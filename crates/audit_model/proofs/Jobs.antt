-- Facts about a job that was made.
use Rattle.std.proofs.Common.{◌≡◌, ℕ, List, Option, Some, None, Ok, ap, sym}
use Rattle.audit_model.specs.declared.fault.PlanFault.{PlanFault}
use Rattle.audit_model.specs.declared.setting.Setting.{Setting}
use Rattle.audit_model.specs.Job.{Job}
use Rattle.audit_model.specs.JobOf.{job_of, job_or}
use Rattle.audit_model.specs.Parsed.{Parsed}

-- a job keeps its setting
pub setting_of_job : (p : Parsed) (setting : Setting) (regions : List ℕ) (job : Job) → job_of p setting regions ≡ Ok job → job.setting ≡ setting
unfolding job_of
setting_of_job p setting regions job e = from_or _ _ _ e
  where
    from_or : (made : Job) (fault : Option PlanFault) (job : Job) → job_or made fault ≡ Ok job → job.setting ≡ made.setting
    from_or made None job e = sym (ap (λ (j : Job). j.setting) (let same : made ≡ job = cc in same))
    from_or made (Some f) job e = cc
