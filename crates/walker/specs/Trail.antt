-- The results of a walk in progress.
use Rattle.std.specs.Prelude.{◌≡◌, ℕ, ◌<◌, ◌≤◌, IsTrue, List}
use Rattle.audit_model.specs.Job.{Job}
use Rattle.audit_model.specs.Trajectory.{moves, plan_seats, visit}
use Rattle.walker.specs.declared.trail.Trail.{Trail}
use Rattle.walker.specs.Asked.{each, asked_value, inside, visits_inside}
use Rattle.walker.specs.Binned.{histogram_of_visits, plan_bin}

-- the start values are those of the start plan, and the current scores are those of the plan
pub record IsTested (job : Job) (plan : List ℕ) (t : Trail) : Type 0 where
  pub start : t.tally.start ≡ each (asked_value job job.start) job.setting.asks
  pub inside : t.tally.inside ≡ each (inside job plan) job.setting.asks
  pub seats : IsTrue t.bins.asked → t.bins.start ≡ plan_seats job job.start
  pub bin : IsTrue t.bins.asked → t.bins.bin ≡ plan_bin job plan
  pub small : t.bins.bin < 9

-- the counts cover exactly the first visited plans
pub record IsCounted (job : Job) (draws : ℕ → ℕ) (visits : ℕ) (t : Trail) : Type 0 where
  pub counts : t.tally.counts ≡ each (visits_inside job draws visits) job.setting.asks
  pub bins : t.bins.counts ≡ histogram_of_visits t.bins.asked job draws visits

-- all plans visited from one place to another are equal
pub record IsStill (job : Job) (draws : ℕ → ℕ) (from to : ℕ) : Type 0 where
  pub order : from ≤ to
  pub same : (i : ℕ) → from ≤ i → i ≤ to → visit job draws job.start i ≡ visit job draws job.start to

-- after `place` steps, the plan reached is scored, and all visits are counted except its own
pub record IsTrail (job : Job) (draws : ℕ → ℕ) (place : ℕ) (t : Trail) : Type 0 where
  pub moved : t.moved ≡ moves job draws job.start place
  pub still : IsStill job draws t.visits place
  pub tested : IsTested job (visit job draws job.start place) t
  pub counted : IsCounted job draws t.visits t
