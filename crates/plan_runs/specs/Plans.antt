-- The resources of several plans before the first walk, and the form of their reports.
use Rattle.std.specs.Prelude.{◌≡◌, ◌++◌, ℕ, false, List, [], ◌∷◌, map, Some, Vec, codes}
use Rattle.std.specs.List.{All}
use Rattle.std.specs.Io.KnownBytes.{Appends}
use Rattle.audit_model.specs.Faults.{Rose}
use Rattle.audit_model.specs.State.{Stream}
use Rattle.flip_guard.specs.Judging.{Judging}
use Rattle.audit_model.specs.Job.{Job}
use Rattle.audit_model.specs.Room.{RoomyBytes}
use Rattle.audit_statement.specs.Draw.{draw}
use Rattle.audit_statement.specs.Report.{line, plans_text, thread_report}
use Rattle.plan_csv.specs.declared.named.Named.{Named}
use Rattle.plan_csv.specs.Named.{pair_of}
use Rattle.audit_statement.specs.Jobs.{Jobs}
use Rattle.report.specs.declared.ended.Ended.{Ended}
use Rattle.report.specs.declared.ended.Ended.TheVariants as ended
use Rattle.audit_statement.specs.Endings.{AppendsPart}
use Rattle.audit_statement.specs.DueText.{LetsBytes, LetsText}
use Rattle.audit_laws.specs.Runs.{IsRunJob}
use Rattle.plan_runs.specs.Resources.{IsJudgeSet, IsResourcesFor}
use Rattle.plan_runs.specs.declared.resources.Resources.{Resources}
use Rattle.plan_runs.specs.declared.plans.PlanWalk.{PlanWalk}
use Rattle.plan_runs.specs.Paired.{ArePaired}

-- a run that saves nothing and does not resume
pub record RunsAlone (job : Job) : Type 0 where
  pub run : IsRunJob job
  pub unsaved : job.setting.save_every ≡ 0
  pub fresh : job.setting.resume ≡ false

-- the line that names a plan
abbrev pub plan_title : List ℕ → List ℕ
plan_title name = line (codes "plan" ∷ name ∷ [])

-- the name and the job of a plan
abbrev pub walk_pair : {J : Type 0} → PlanWalk J → List ℕ × Job
walk_pair w = pair_of w.plan

-- all jobs have this key
abbrev pub HaveKey : List ℕ → Jobs → Type 0
HaveKey key jobs = All (λ plan. plan.1.setting.key ≡ key) jobs

-- each plan has its own constraints
abbrev pub AreJudgeSets : {J A : Type 0} → (J → Judging) → List Named → List (Vec J A) → Type 0
AreJudgeSets by named judge_sets = ArePaired (λ n judges. IsJudgeSet by n.job judges) named judge_sets

module _ {J : Type 0} where
  -- a plan that runs alone, and the resources to walk it
  pub record IsWalkOf (w : PlanWalk J) : Type 0 where
    pub run : RunsAlone w.plan.job
    pub own : Resources J
    pub unwalked : w.resources ≡ Some own
    pub resources : IsResourcesFor w.plan.job own
    pub fresh : own.buffers.book.outcomes ≡ []

  -- a walked plan with its report
  pub record HasReport (w : PlanWalk J) : Type 0 where
    pub own : RoomyBytes
    pub walked : w.text ≡ Some own
    pub report_is : own.items ≡ thread_report w.plan.job (draw w.plan.job.setting.key)

  -- plans to walk beside each other
  abbrev pub IsRound : {A : Type 0} → Vec (PlanWalk J) A → Type 0
  IsRound round = All IsWalkOf round.items

  -- the names and the jobs of the plans of all rounds
  abbrev pub round_pairs : {A : Type 0} → List (Vec (PlanWalk J) A) → Jobs
  round_pairs [] = []
  round_pairs (round ∷ rounds) = map walk_pair round.items ++ round_pairs rounds

  -- resources for each of these jobs, in order
  pub record AreWalksFor (jobs : Jobs) (walks : List (PlanWalk J)) : Type 0 where
    pub pairs : map walk_pair walks ≡ jobs
    pub each : All IsWalkOf walks

-- the result of writing the reports of these jobs, by the draws of this key
abbrev pub ReportsPlans : List ℕ → Jobs → Stream → Stream → Ended → Type 0
ReportsPlans key jobs before after ended.Done = Appends before.bytes after.bytes (plans_text (draw key) jobs) × (after.faults ≡ before.faults)
ReportsPlans key jobs before after ended.WriteFault = AppendsPart before.bytes after.bytes (plans_text (draw key) jobs) × Rose before.faults after.faults
ReportsPlans key jobs before after ended.NoMemory = after ≡ before
ReportsPlans key jobs before after _ = ⊥

-- the sink permits the reports of these jobs by the draws of their common key
pub record LetsPlans (lets : LetsBytes) (out : Stream) (HaveKey : List ℕ → Type 0) (jobs : Jobs) : Type 0 where
  pub key : List ℕ
  pub have_key : HaveKey key
  pub permitted : LetsText lets out (plans_text (draw key) jobs)
