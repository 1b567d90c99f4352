-- The state of a worker before a run, between two draws, and after the run.
use Rattle.std.specs.Prelude.{◌≡◌, ℕ, ◌+◌, ◌≤◌, true, false, List, [], length, map}
use Rattle.claim_counter.specs.declared.claims.Claims.{Claims}
use Rattle.claim_counter.specs.declared.pass.Pass.{Pass}
use Rattle.claim_counter.specs.Records.{fresh, AreDifferentBelow}
use Rattle.claim_counter.specs.Passes.{own, size_of, BelongsTo}
use Rattle.audit_model.specs.Job.{Job}
use Rattle.audit_model.specs.Room.{RoomyOutcomes}
use Rattle.claim_counter.specs.Counts.{WalkCount, HasWalkedEachOnce}
use Rattle.claim_counter.specs.declared.worker.Worker.{Worker}
use Rattle.claim_counter.specs.Walks.{found_at, IsWithin, ServesEnds}

-- the shared input of the workers: one place for each id, ids of the job's trajectories, and the hub if one starts from
-- it
pub record IsShared (job : Job) (todo units : List ℕ) (c : Claims) : Type 0 where
  pub count : (size_of c).limit ≡ length todo
  pub within : IsWithin job todo
  pub hub : ServesEnds job todo units

-- a worker that has drawn and walked nothing, and has capacity for all outcomes
pub record IsUnstarted {J : Type 0} (job : Job) (c : Claims) (w : Worker J) : Type 0 where
  pub made : w.walker.job ≡ job
  pub pass : BelongsTo c w.pass
  pub fresh : own w.pass ≡ fresh 0
  pub none : w.walker.walks ≡ 0
  pub empty : w.share.items ≡ []
  pub room : (size_of c).limit ≤ w.share.spare

-- a worker between two draws: it walked once for each place drawn, and its outcomes are those of these places
pub record IsAtWork (job : Job) (todo : List ℕ) (c : Claims) (w : WalkCount) (p : Pass) (share : RoomyOutcomes) : Type 0 where
  pub made : w.job ≡ job
  pub pass : BelongsTo c p
  pub going : (own p).ended ≡ false
  pub weight : (own p).weight ≡ 1
  pub spare : (own p).spare ≡ 0
  pub shared : share.items ≡ map (found_at job todo) (own p).claims
  pub walked : HasWalkedEachOnce w (own p).claims
  pub room : (size_of c).limit ≤ length share.items + share.spare

-- a worker that found no place left: it walked once for each place that it drew, and its outcomes are those of these
-- places
pub record IsWorkerDone {J : Type 0} (job : Job) (todo : List ℕ) (c : Claims) (w : Worker J) : Type 0 where
  pub pass : BelongsTo c w.pass
  pub ended : (own w.pass).ended ≡ true
  pub weight : (own w.pass).weight ≡ 1
  pub spare : (own w.pass).spare ≡ 0
  pub different : AreDifferentBelow (size_of c).limit (own w.pass).claims
  pub shared : w.share.items ≡ map (found_at job todo) (own w.pass).claims
  pub walked : HasWalkedEachOnce w.walker (own w.pass).claims
