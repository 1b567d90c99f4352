-- The saves that a call may ask its keeper for at any moment, even if it never returns. A keeper states which saves it
-- permits, and `save` may only be called with a permitted one. The top call is proved for every keeper that permits the
-- due saves. Some keepers permit no others, so the top call can never ask for a save that is not due.
use Rattle.std.specs.Prelude.{◌≡◌, ℕ, ◌<◌, IsTrue, List, [], ◌∷◌, ◌++◌, Option}
use Rattle.audit_model.specs.Pair.{Pair}
use Rattle.audit_model.specs.State.{KeeperState}
use Rattle.audit_model.specs.Observed.{IfObserved}
use Rattle.audit_model.specs.Attempts.{Try, attempted_all}
use Rattle.audit_model.specs.declared.outcome.Outcome.{Outcome}
use Rattle.audit_model.specs.declared.place.Place.{Place}
use Rattle.audit_model.specs.Job.{Job}
use Rattle.audit_model.specs.Run.{run_ids}
use Rattle.audit_statement.specs.Accepted.{IsAccepted}
use Rattle.audit_statement.specs.Checkpoint.{IsCheckpoint, checkpoint}
use Rattle.audit_statement.specs.Endings.{AreInitialOutcomes, first_place, saves}
use Rattle.audit_statement.specs.InOrder.{AreSavesSoFar}
use Rattle.audit_statement.specs.World.{World}

-- the saves that a keeper permits: in a state, the bytes that a slot may be asked to take
abbrev pub Lets : Type 1
Lets = KeeperState → ℕ → List ℕ → Type 0

-- in this state, the keeper permits the save of this checkpoint to this slot
abbrev pub LetsCheckpoint : Lets → KeeperState → List ℕ → ℕ → ℕ → List Outcome → Type 0
LetsCheckpoint lets k digest slot generation outcomes =
    IsCheckpoint (checkpoint 2 digest generation outcomes) 2 digest generation outcomes → lets k slot (checkpoint 2 digest generation outcomes)

-- In a run over these ids, the keeper permits each save that is due next. `observed` are the save attempts before the run.
-- A save is due next if the attempts since, followed by it, are saves so far.
abbrev pub LetsRun : Lets → Option (List Try) → Job → List Outcome → ℕ → Place → List ℕ → Type 0
LetsRun lets observed job initial_outcomes every place ids =
    (k : KeeperState) (attempts : List Try) (t : Try) → k.attempted ≡ attempted_all observed attempts → AreSavesSoFar job initial_outcomes every place ids (attempts ++ t ∷ []) → lets k t.slot t.bytes

-- the place of a run's first save, if the slots that it finds are observable
pub record IsFirstPlace (job : Job) (slots : Option Pair) (place : Place) : Type 0 where
  pub slot : place.slot < 2
  pub generation : place.generation < 3
  pub observed : IfObserved slots (λ p. place ≡ first_place job p)

-- for a run of the job that finds the keeper in this state, it permits the run's saves
abbrev pub LetsSavesOf : Lets → Job → KeeperState → Type 0
LetsSavesOf lets job before = (initial_outcomes : List Outcome) (place : Place) → IsTrue (saves job.setting) → AreInitialOutcomes job before.slots initial_outcomes → IsFirstPlace job before.slots place
    → LetsRun lets before.attempted job initial_outcomes job.setting.save_every place (run_ids job initial_outcomes job.setting.budget)

-- The keeper permits the due saves of the run that the arguments and the source give, one after another. The slots at
-- its start determine its initial outcomes and the first place. Each save is the checkpoint of the initial outcomes and
-- of the ids taken in so far, each once, with their trajectories' outcomes. If there is no such run, no save is due.
abbrev pub LetsDueSaves : Lets → List (List ℕ) → World → Type 0
LetsDueSaves lets words before = (job : Job) → IsAccepted words before.source.bytes job → LetsSavesOf lets job before.keeper
