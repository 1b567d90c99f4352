-- The contents of a job, for any start plan.
use Rattle.std.specs.Prelude.{◌≡◌, ℕ, ◌<◌, ◌∷◌, [], List, length, slice_index, cond, nat_lt, Option, Some, None}
use Rattle.audit_model.specs.declared.fault.PlanFault.{PlanFault}
use Rattle.audit_model.specs.declared.fault.PlanFault.TheVariants.{TooManySplits, TooManySplitRegions}
use Rattle.audit_model.specs.declared.rules.Rules.{Rules}
use Rattle.audit_model.specs.First.{first_some}
use Rattle.audit_model.specs.Job.{Job, total_population, total_votes, rules}
use Rattle.audit_model.specs.JobOf.{path_fault, cut_fault, split_fault, splits_fault, split_regions_fault, group_fault, length_fault}
use Rattle.audit_model.specs.Limits.{IsWithinLimits}

-- the plan gives each unit one of the districts
pub record GivesDistricts (units districts : ℕ) (plan : List ℕ) : Type 0 where
  pub complete : length plan ≡ units
  pub in_range : (u : ℕ) → u < units → slice_index plan u < districts

-- the job with another start plan
abbrev pub with_start : Job → List ℕ → Job
with_start job plan = record job { start = plan }

-- the faults of a plan with too many splits in all, and of one with too many split regions
abbrev pub many_splits : ℕ → ℕ → Option PlanFault
many_splits most splits = cond (nat_lt most splits) (Some (TooManySplits splits most)) None

abbrev pub many_regions : ℕ → ℕ → Option PlanFault
many_regions most regions = cond (nat_lt most regions) (Some (TooManySplitRegions regions most)) None

-- the first fault of the start plan that concerns regions
abbrev pub regions_fault : Job → Option PlanFault
regions_fault job = first_some (split_fault job ∷ splits_fault job ∷ split_regions_fault job ∷ [])

-- the first fault of the start plan other than missing votes and populations
abbrev pub shape_fault : Job → Option PlanFault
shape_fault job = first_some (
    path_fault job ∷ cut_fault job ∷ split_fault job
    ∷ splits_fault job ∷ split_regions_fault job ∷ group_fault job ∷ length_fault job ∷ [])

-- all is within the limits, and the rules and both totals are the job's
pub record IsInput (job : Job) (kept : Rules) (people votes : ℕ) : Type 0 where
  pub within : IsWithinLimits job
  pub ruled : kept ≡ rules job
  pub population : people ≡ total_population job
  pub ballots : votes ≡ total_votes job
