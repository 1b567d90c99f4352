-- Ranks of the start plan, from the results of both runs.
use Rattle.std.specs.Prelude.{ℕ, ◌+◌, ◌-◌, ◌<◌, ◌≤◌, List, [], ◌∷◌, length, slice_index, ℤ, pos, unsigned_abs}
use Rattle.std.specs.List.{slice_index_or}
use Rattle.audit_model.specs.Job.{Job}
use Rattle.audit_model.specs.Plan.{IsLegal}
use Rattle.audit_model.specs.Trajectory.{visit}
use Rattle.audit_statement.specs.Draw.{draw}

-- the sum of both numbers, with the start plan counted once
abbrev pub rank_of : ℤ → ℤ → ℕ
rank_of forward backward = unsigned_abs forward + (unsigned_abs backward - 1)

-- the rank at each of the four places
abbrev pub ranks_of : List ℤ → List ℤ → List ℕ
ranks_of forward backward =
    rank_of (slice_index_or forward 0 (pos 0)) (slice_index_or backward 0 (pos 0)) ∷ rank_of (slice_index_or forward 1 (pos 0)) (slice_index_or backward 1 (pos 0))
    ∷ rank_of (slice_index_or forward 2 (pos 0)) (slice_index_or backward 2 (pos 0)) ∷ rank_of (slice_index_or forward 3 (pos 0)) (slice_index_or backward 3 (pos 0)) ∷ []

-- for each ask, the rank counts plans of the run, the start plan included
abbrev pub HasRanks : Job → List ℕ → Type 0
HasRanks job ranks = (k : ℕ) → k < length job.setting.asks → (1 ≤ slice_index ranks k) × (slice_index ranks k ≤ job.setting.steps + 1)

-- each plan that either run visits is legal
pub record RunsStayLegal (job : Job) : Type 0 where
  pub forward : (step : ℕ) → IsLegal job (visit job (draw job.setting.key 8589934593) job.start step)
  pub backward : (step : ℕ) → IsLegal job (visit job (draw job.setting.key 8589934594) job.start step)
