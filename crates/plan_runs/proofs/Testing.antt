-- The serial test of a run.
use Rattle.std.proofs.Common.{◌≡◌, ◌≤◌, Bool, true, false, Some, refl, sym, subst}
use Rattle.audit_model.specs.declared.outcome.Serial.{Serial}
use Rattle.audit_model.specs.Job.{Job}
use Rattle.audit_model.specs.Serially.{place_and_ranks}
use Rattle.report.specs.Outcomes.{IsSerialBy, IsSerialOf}
use Rattle.serial_test.specs.Ranks.{HasRanks}
use Rattle.flip_kernel.specs.ChainState.{ChainState}
use Rattle.plan_runs.specs.Serially.{IsTester, IsTesterBy}

module _ (job : Job) (w : ChainState) where
  asked_by : (b : Bool) → IsTesterBy b job (Some w) → (b ≡ true) × (w.job ≡ job)
  asked_by true t = (refl, t)
  asked_by false t = absurd t

  -- if there is a walker for it, the test was requested
  pub asked : IsTester job (Some w) → (job.setting.serial ≡ true) × (w.job ≡ job)
  asked t = asked_by job.setting.serial t

-- the result of the test is a place and ranks of the job
pub fits_some : (job : Job) (found : Serial) → job.setting.serial ≡ true → found.place ≤ job.setting.steps → HasRanks job found.ranks
    → IsSerialOf job (Some (place_and_ranks found))
fits_some job found e place ranks =
    subst (λ (b : Bool). IsSerialBy b job (Some (place_and_ranks found))) (sym e)
    (place, λ k l. record { some = (ranks k l).0; few = (ranks k l).1 })
