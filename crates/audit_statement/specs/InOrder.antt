-- The exact save attempts of a run, by the order in which the outcomes of its ids were taken in.
use Rattle.std.specs.Prelude.{◌≡◌, ℕ, suc, ◌+◌, ◌*◌, ◌/◌, ◌%◌, ◌≤◌, ◌==◌, ◌&&◌, Bool, false, cond, List, [], ◌∷◌, ◌++◌, length, map, take, ⊤, IsPermutation, zero, ◌-◌, ◌||◌, not, count_by}
use Rattle.audit_model.specs.Attempts.{Try}
use Rattle.audit_model.specs.declared.outcome.Outcome.{Outcome}
use Rattle.audit_model.specs.Job.{Job}
use Rattle.audit_model.specs.Run.{total, by_id}
use Rattle.audit_model.specs.Trajectory.{outcome}
use Rattle.audit_statement.specs.Checkpoint.{IsCheckpoint, checkpoint, job_digest}
use Rattle.audit_model.specs.declared.place.Place.{Place}
use Rattle.audit_statement.specs.Draw.{draw}

-- the other slot, with the next of three generations
abbrev pub next_place : Place → Place
next_place p = record { slot = 1 - p.slot; generation = (p.generation + 1) % 3 }

-- the place after n moves
abbrev pub moved : ℕ → Place → Place
moved zero p = p
moved (suc n) p = next_place (moved n p)

-- the number of saves for a number of hand-ins: one for each full group, and a last one if the last hand-in had none
abbrev pub saves_of : ℕ → ℕ → ℕ
saves_of posts every = posts / every + cond {A = ℕ} ((posts == 0) || not (posts % every == 0)) 1 0

-- the number of failed attempts
abbrev pub failed_of : List Try → ℕ
failed_of attempts = count_by (λ t. not t.succeeded) attempts

-- the initial outcomes and those of the trajectories of these ids, by rising id
abbrev pub taken_in : Job → List Outcome → List ℕ → List Outcome
taken_in job initial_outcomes ids = by_id (total job) (initial_outcomes ++ map (outcome job (draw job.setting.key)) ids)

-- the save went to this place, with the checkpoint of the initial outcomes and of these ids, each once
pub record IsSaveOfIds (job : Job) (initial_outcomes : List Outcome) (place : Place) (ids : List ℕ) (t : Try) : Type 0 where
  pub slot : t.slot ≡ place.slot
  pub bytes : t.bytes ≡ checkpoint 2 (job_digest job) place.generation (taken_in job initial_outcomes ids)
  pub sound : IsCheckpoint t.bytes 2 (job_digest job) place.generation (taken_in job initial_outcomes ids)
  pub all : IsPermutation (initial_outcomes ++ map (outcome job (draw job.setting.key)) ids) (taken_in job initial_outcomes ids)

-- a success moves the place to the other slot and the next generation; a failure leaves it
abbrev pub place_after : Place → Try → Place
place_after place t = cond t.succeeded (next_place place) place

-- The first of these saves is of the first n * every ids, or of all if there are fewer; each later one is of `every`
-- more. Each goes to the place after the last success.
abbrev pub AreSavesFrom : Job → List Outcome → ℕ → List ℕ → ℕ → Place → List Try → Type 0
AreSavesFrom job initial_outcomes every walked n place [] = ⊤
AreSavesFrom job initial_outcomes every walked n place (t ∷ rest) =
    IsSaveOfIds job initial_outcomes place (take (n * every) walked) t
    × AreSavesFrom job initial_outcomes every walked (suc n) (place_after place t) rest

-- the last of the attempts succeeded
abbrev pub last_succeeded_from : Bool → List Try → Bool
last_succeeded_from last [] = last
last_succeeded_from last (t ∷ attempts) = last_succeeded_from t.succeeded attempts

-- the last of all attempts succeeded, if there are any
abbrev pub last_succeeded : List Try → Bool
last_succeeded attempts = last_succeeded_from false attempts

-- the number of attempts: one per `every` ids, and one more of all ids unless the last of these was of all and
-- succeeded
abbrev pub count_of_attempts : ℕ → ℕ → List Try → ℕ
count_of_attempts every ids attempts =
    ids / every + cond {A = ℕ} ((ids % every == 0) && last_succeeded (take (ids / every) attempts)) 0 1

-- exactly the save attempts of a run that started with these outcomes and this place and took in these ids in this
-- order
pub record AreSavesOf (job : Job) (initial_outcomes : List Outcome) (every : ℕ) (place : Place) (walked : List ℕ) (attempts : List Try) : Type 0 where
  pub each : AreSavesFrom job initial_outcomes every walked 1 place attempts
  pub counted : length attempts ≡ count_of_attempts every (length walked) attempts

-- the first of these attempts, or all of them
pub record AreFirstSavesOf (job : Job) (initial_outcomes : List Outcome) (every : ℕ) (place : Place) (walked : List ℕ) (attempts : List Try) : Type 0 where
  pub each : AreSavesFrom job initial_outcomes every walked 1 place attempts
  pub few : length attempts ≤ count_of_attempts every (length walked) attempts

-- the save attempts so far of a run that takes in these ids, each once, in any order
pub record AreSavesSoFar (job : Job) (initial_outcomes : List Outcome) (every : ℕ) (place : Place) (ids : List ℕ) (attempts : List Try) : Type 0 where
  pub walked : List ℕ
  pub all_walked : IsPermutation walked ids
  pub first : AreFirstSavesOf job initial_outcomes every place walked attempts
