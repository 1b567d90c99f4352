-- The constraints of several plans.
use Rattle.std.specs.Prelude.{◌≡◌, ℕ, List, [], Vec, vec_len}
use Rattle.audit_model.specs.declared.rules.Rules.{Rules}
use Rattle.audit_model.specs.Job.{rules}
use Rattle.audit_model.specs.JobOf.{IsJob}
use Rattle.flip_guard.specs.declared.guard.Guard.{Guard}
use Rattle.plan_csv.specs.declared.named.Named.{Named}
use Rattle.region_guard.specs.declared.guard.RegionGuard.{RegionGuard}
use Rattle.region_guard.specs.Guards.{AreRegionGuards}
use Rattle.plan_runs.specs.Paired.{ArePaired}
use Rattle.plan_runs.specs.Guards.{AreGuards}

-- `count` constraints of a plan, made from one test of the cut edges
pub record IsCutJudgeSet {F A : Type 0} (test : F) (count : ℕ) (n : Named) (judges : Vec (Guard F) A) : Type 0 where
  pub each : AreGuards test (rules n.job) judges.items
  pub count_is : vec_len judges ≡ count

abbrev pub AreCutJudgeSets : {F A : Type 0} → F → ℕ → List Named → List (Vec (Guard F) A) → Type 0
AreCutJudgeSets test count named judge_sets = ArePaired (IsCutJudgeSet test count) named judge_sets

-- a job with the limit of these rules on cut edges, without regions, required majorities or frozen units
pub record IsCutBy (by : Rules) (n : Named) : Type 0 where
  pub cut_is : n.job.setting.max_cut ≡ by.max_cut
  pub no_regions : n.job.regions ≡ []
  pub no_group : n.job.setting.group_districts ≡ 0
  pub no_frozen : n.job.frozen ≡ []

-- `count` constraints of all rules of a plan
pub record IsRuledJudgeSet {F T A : Type 0} (cut : F) (test : T) (count : ℕ) (n : Named) (judges : Vec (RegionGuard F T) A) : Type 0 where
  pub each : AreRegionGuards cut test (rules n.job) n.job.districts judges.items
  pub count_is : vec_len judges ≡ count

abbrev pub AreRuledJudgeSets : {F T A : Type 0} → F → T → ℕ → List Named → List (Vec (RegionGuard F T) A) → Type 0
AreRuledJudgeSets cut test count named judge_sets = ArePaired (IsRuledJudgeSet cut test count) named judge_sets

-- a job with the limits of these rules on cut edges and on each region
pub record IsRuledBy (by : Rules) (n : Named) : Type 0 where
  pub sound : IsJob n.job
  pub cut_is : n.job.setting.max_cut ≡ by.max_cut
  pub split_is : n.job.setting.max_split ≡ by.max_split
