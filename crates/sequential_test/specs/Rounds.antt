-- The number of endpoints walked by a run whose tests stop early, and the place at which each test stopped.
use Rattle.std.specs.Prelude.{◌≡◌, ℕ, ◌+◌, ◌-◌, ◌*◌, ◌^◌, ◌<◌, ◌≤◌, min, List, [], length, slice_index, Some}
use Rattle.std.specs.List.{slice_get, slice_index_or}
use Rattle.audit_model.specs.declared.outcome.Outcome.{Outcome}
use Rattle.audit_model.specs.declared.outcome.Stop.{Stop}
use Rattle.audit_model.specs.declared.setting.Ask.{Ask}
use Rattle.audit_model.specs.Below.{map_below}
use Rattle.audit_model.specs.Job.{Job}
use Rattle.audit_model.specs.Stopping.{stop_of_known, three_numbers}
use Rattle.audit_model.specs.Trajectory.{outcome}
use Rattle.audit_statement.specs.Draw.{draw}

-- the number of endpoints walked after n rounds: 64 in the first round, then twice those of the round before, up to all
-- endpoints
abbrev pub ends_after : ℕ → ℕ → ℕ
ends_after ends rounds = min ends (64 * (2 ^ rounds - 1))

-- the outcomes of the first n trajectories, by the draws of the job's key
unfoldable pub found_below : Job → ℕ → List Outcome
found_below job count = map_below count (outcome job (draw job.setting.key))

-- the ids from one bound to the other
pub record AreIds (from to : ℕ) (ids : List ℕ) : Type 0 where
  pub count : from + length ids ≡ to
  pub at : (k d : ℕ) → k < length ids → slice_index_or ids k d ≡ from + k

-- these outcomes decide the ask at this place, with these three numbers
pub record IsDecidedAs (job : Job) (outcomes : List Outcome) (place : ℕ) (ask : Ask) (numbers : List ℕ) : Type 0 where
  pub stop : Stop
  pub decided_stop : stop_of_known job (place, ask) job.setting.stop outcomes ≡ Some stop
  pub numbers_are : numbers ≡ three_numbers stop

-- these outcomes decide each of the first n asks, with the numbers at its place
abbrev pub AreDecidedBelow : Job → List Outcome → ℕ → List (List ℕ) → Type 0
AreDecidedBelow job outcomes count stops = (place : ℕ) (ask : Ask) → place < count → slice_get job.setting.asks place ≡ Some ask
    → IsDecidedAs job outcomes place ask (slice_index_or stops place [])

-- these outcomes decide every ask
abbrev pub AreDecided : Job → List Outcome → Type 0
AreDecided job outcomes = (place : ℕ) (ask : Ask) → slice_get job.setting.asks place ≡ Some ask
    → (s : Stop) × (stop_of_known job (place, ask) job.setting.stop outcomes ≡ Some s)

-- a place of at most `ends`, and a fraction above 0 and at most 1
pub record IsPartOf (ends : ℕ) (numbers : List ℕ) : Type 0 where
  pub place : slice_index numbers 0 ≤ ends
  pub some : 1 ≤ slice_index numbers 1
  pub part : slice_index numbers 1 ≤ slice_index numbers 2
  pub of : slice_index numbers 2 ≤ ends + 1

abbrev pub AreParts : ℕ → ℕ → List (List ℕ) → Type 0
AreParts ends count stops = (place : ℕ) → place < count → IsPartOf ends (slice_index_or stops place [])

-- No round more than needed was walked: after each round before the last, some ask was not decided.
pub record StopsInTime (job : Job) (outcomes : List Outcome) : Type 0 where
  pub rounds : ℕ
  pub some : 1 ≤ rounds
  pub found_are : outcomes ≡ found_below job (job.setting.walks + ends_after job.setting.ends rounds)
  pub before : (k : ℕ) → 1 ≤ k → k < rounds → AreDecided job (found_below job (job.setting.walks + ends_after job.setting.ends k)) → ⊥
