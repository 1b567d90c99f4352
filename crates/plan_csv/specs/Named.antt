-- Jobs with the names of their plans.
use Rattle.std.specs.Prelude.{◌≡◌, ℕ, List, map}
use Rattle.audit_model.specs.declared.rules.Group.{Group}
use Rattle.audit_model.specs.declared.setting.Setting.{Setting}
use Rattle.audit_model.specs.Job.{Job}
use Rattle.audit_model.specs.JobOf.{IsJob}
use Rattle.plan_csv.specs.declared.named.Named.{Named}

-- the names and the jobs
abbrev pub pair_of : Named → List ℕ × Job
pair_of n = (n.name, n.job)

abbrev pub jobs_of : List Named → List (List ℕ × Job)
jobs_of named = map pair_of named

-- a job with this setting, these regions, this group and these frozen units
pub record IsOneOf (setting : Setting) (regions : List ℕ) (group : Group) (frozen : List ℕ) (n : Named) : Type 0 where
  pub sound : IsJob n.job
  pub set : n.job.setting ≡ setting
  pub regioned : n.job.regions ≡ regions
  pub grouped : n.job.group ≡ group
  pub freezing : n.job.frozen ≡ frozen
