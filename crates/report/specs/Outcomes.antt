-- The inputs of a report: outcomes, stops, and the result of the serial test.
use Rattle.std.specs.Prelude.{◌≡◌, ℕ, zero, suc, ◌+◌, ◌<◌, ◌≤◌, Bool, true, false, IsTrue, List, [], length, map, slice_index, Option, Some, None, ℤ, pos, ◌≤ℤ◌}
use Rattle.std.specs.List.{list_all, All}
use Rattle.audit_model.specs.declared.outcome.Outcome.{Outcome}
use Rattle.audit_model.specs.Below.{map_below}
use Rattle.audit_model.specs.Job.{Job}
use Rattle.audit_model.specs.Run.{total, fits}
use Rattle.audit_model.specs.Trajectory.{value_at}

-- the number of outcomes in a report: all of them, or those of the outlier walks if a test stops early
abbrev pub reported_by : ℕ → Job → ℕ
reported_by zero job = total job
reported_by (suc h) job = job.setting.walks

abbrev pub reported : Job → ℕ
reported job = reported_by job.setting.stop job

-- one outcome for each of these trajectories of the job, by rising id, each plausible for the job
pub record AreOutcomesOf (job : Job) (outcomes : List Outcome) : Type 0 where
  pub ids : map (λ o. o.id) outcomes ≡ map_below (reported job) (λ id. id)
  pub fitting : IsTrue (list_all (fits job) outcomes)

-- a number of visits, from 1 to the number of steps and one
pub record IsCount (steps : ℕ) (count : ℤ) : Type 0 where
  pub some : pos 1 ≤ℤ count
  pub few : count ≤ℤ pos (steps + 1)

-- the outcome has a number of visits for each ask
abbrev pub HasCounts : Job → Outcome → Type 0
HasCounts job found = (place : ℕ) → place < length job.setting.asks → IsCount job.setting.steps (value_at found place)

-- the outcomes of the endpoint trajectories
pub record AreEndsOf (job : Job) (ends : List Outcome) : Type 0 where
  pub count : length ends ≡ job.setting.ends
  pub ids : All (λ o. job.setting.walks ≤ o.id) ends

-- ---- the stops of tests

-- a place of at most `ends`, and a fraction above 0 and at most 1
pub record IsStopOf (ends : ℕ) (stop : List ℕ) : Type 0 where
  pub place : slice_index stop 0 ≤ ends
  pub some : 1 ≤ slice_index stop 1
  pub part : slice_index stop 1 ≤ slice_index stop 2
  pub of : slice_index stop 2 ≤ ends + 1

-- one stop for each ask
pub record AreStops (job : Job) (stops : List (List ℕ)) : Type 0 where
  pub count : length stops ≡ length job.setting.asks
  pub each : All (IsStopOf job.setting.ends) stops

-- no stops unless tests stop early
abbrev pub AreStopsBy : ℕ → Job → List (List ℕ) → Type 0
AreStopsBy zero job stops = stops ≡ []
AreStopsBy (suc h) job stops = AreStops job stops

abbrev pub AreStopsOf : Job → List (List ℕ) → Type 0
AreStopsOf job stops = AreStopsBy job.setting.stop job stops

-- ---- the result of the serial test

-- a rank among the plans of a run of `steps` steps
pub record IsRank (steps rank : ℕ) : Type 0 where
  pub some : 1 ≤ rank
  pub few : rank ≤ steps + 1

-- a rank for each ask
abbrev pub AreRanks : Job → List ℕ → Type 0
AreRanks job ranks = (k : ℕ) → k < length job.setting.asks → IsRank job.setting.steps (slice_index ranks k)

-- a place in the run and the ranks, exactly if the serial test was requested
abbrev pub IsSerialBy : Bool → Job → Option (ℕ × List ℕ) → Type 0
IsSerialBy false job None = Unit {0}
IsSerialBy false job (Some found) = ⊥
IsSerialBy true job None = ⊥
IsSerialBy true job (Some found) = (found.0 ≤ job.setting.steps) × AreRanks job found.1

abbrev pub IsSerialOf : Job → Option (ℕ × List ℕ) → Type 0
IsSerialOf job serial = IsSerialBy job.setting.serial job serial
