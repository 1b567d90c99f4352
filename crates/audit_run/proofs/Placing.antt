-- The saves of a run, by its start.
use Rattle.std.proofs.Common.{◌≡◌, ◌≤◌, List, [], Bool, true, false, Option, Some, None, refl, subst}
use Rattle.audit_model.specs.Pair.{Pair}
use Rattle.audit_model.specs.Job.{Job}
use Rattle.audit_model.specs.declared.outcome.Outcome.{Outcome}
use Rattle.audit_statement.specs.Endings.{AreInitialOutcomes, initial_outcomes_from}
use Rattle.audit_laws.specs.Runs.{IsRunJob}
use Rattle.report.specs.declared.ended.Ended.{Ended}
use Rattle.audit_start.specs.declared.resume_state.SaveTarget.{SaveTarget}
use Rattle.audit_start.specs.declared.resume_state.ResumeState.{ResumeState}
use Rattle.audit_start.specs.ResumeState.{IsOpened, IsTargetFor, IsTarget}
use Rattle.plan_runs.specs.RunBuffers.{IsStartOf}
use Rattle.audit_laws.specs.Calls.{Finishes}
use Rattle.audit_model.specs.State.{KeeperState, Stream}

-- without a place to save, the run saves nothing
pub no_target_observed : (b : Bool) (job : Job) (slots : Option Pair) (o : Option SaveTarget) → o ≡ None → IsTarget b job slots o → b ≡ false
no_target_observed false job slots o e is = refl
no_target_observed true job slots None e is = absurd is
no_target_observed true job slots (Some t) e is = cc

-- with a place to save, the run saves there
pub target_observed : (b : Bool) (job : Job) (slots : Option Pair) (o : Option SaveTarget) (t : SaveTarget) → o ≡ Some t → IsTarget b job slots o → (b ≡ true) × IsTargetFor job slots t
target_observed b job slots None t e is = cc
target_observed false job slots (Some x) t e is = absurd is
target_observed true job slots (Some x) t e is = let same : x ≡ t = cc in (refl, subst (λ (y : SaveTarget). IsTargetFor job slots y) same is)

-- a run from the keeper before a look is one from the keeper after it, if the look changed nothing
pub goes_on : (job : Job) (out later : Stream) (k l m : KeeperState) (why : Ended) → l ≡ k → Finishes job out later l m why → Finishes job out later k m why
goes_on job out later k l m why same f = subst (λ (x : KeeperState). Finishes job out later x m why) same f

-- a run whose tests stop early does not resume, so it starts without outcomes
opens_with_none : (job : Job) → IsRunJob job → 1 ≤ job.setting.stop → (slots : Option Pair) (outcomes : List Outcome) → AreInitialOutcomes job slots outcomes → outcomes ≡ []
opens_with_none job run early slots outcomes opened =
    none_of outcomes (subst (λ b. initial_outcomes_from b job opened.seen.pair ≡ Some outcomes) (run.alone early).fresh opened.seen.holds)
  where
    none_of : (os : List Outcome) → ◌≡◌ {A = Option (List Outcome)} (Some []) (Some os) → os ≡ []
    none_of os e = cc

-- the initial outcomes that were found are valid ones
pub starts_so : (job : Job) (slots : Option Pair) (o : ResumeState) → IsOpened job slots o → IsStartOf job o.outcomes.items
starts_so job slots o is = record { run = is.run; fit = is.fit; fresh = λ early. opens_with_none job is.run early slots o.outcomes.items is.opened }
