-- Predicates on the workers of a run whose tests stop early.
use Rattle.std.specs.Prelude.{◌≡◌, ℕ, suc, ◌+◌, ◌-◌, ◌<◌, ◌≤◌, List, length, vec_len, IsPermutation}
use Rattle.std.specs.List.{slice_index_or}
use Rattle.audit_model.specs.Job.{Job}
use Rattle.audit_model.specs.Room.{RoomyOutcomes}
use Rattle.audit_model.specs.Run.{total}
use Rattle.audit_model.specs.Trajectory.{hub}
use Rattle.audit_statement.specs.Draw.{draw}
use Rattle.outcome_book.specs.Booked.{Booked}
use Rattle.claim_counter.specs.declared.batches.BatchWorkers.{BatchWorkers}
use Rattle.claim_counter.specs.declared.batches.BatchCounter.{BatchCounter}
use Rattle.claim_counter.specs.Batches.{HasNoHub, IsFreshBatch, IsBatchWorkers}
use Rattle.sequential_test.specs.declared.pool.StoppingPool.{StoppingPool}
use Rattle.sequential_test.specs.Rounds.{ends_after, found_below}

-- the counters of the rounds after the first `done`, the next of them at the end of the list
abbrev pub AreRounds : ℕ → ℕ → ℕ → List BatchCounter → Type 0
AreRounds ends seats done rounds = (k : ℕ) (d : BatchCounter) (i : ℕ) → k < length rounds → i + k + 1 ≡ done + length rounds
    → IsFreshBatch (ends_after ends (suc i) - ends_after ends i) seats (slice_index_or rounds k d)

module _ {J : Type 0} where
  -- `seats` workers, a counter for all outlier walks, and counters for rounds of all endpoints
  pub record IsStoppingPool (job : Job) (workers : ℕ) (c : StoppingPool J) : Type 0 where
    pub workers_are : c.seats ≡ workers
    pub batch_workers : IsBatchWorkers job c.seats c.batch_workers
    pub walks : IsFreshBatch job.setting.walks c.seats c.walks
    pub rounds : AreRounds job.setting.ends c.seats 0 c.rounds.items
    pub all : ends_after job.setting.ends (vec_len c.rounds) ≡ job.setting.ends

  -- nothing is walked yet, and the hub is not computed
  abbrev pub HasStartedNothing : Job → StoppingPool J → Type 0
  HasStartedNothing job c = HasNoHub job c.batch_workers

  -- the trajectories with ids below `count` were walked, and the workers can walk more, with the hub and capacity
  -- for all outcomes
  pub record HasWalkedTo (job : Job) (seats count : ℕ) (t : BatchWorkers J) (b : Booked) (sorted : RoomyOutcomes) : Type 0 where
    pub batch_workers : IsBatchWorkers job seats t
    pub hub_is : t.hub ≡ hub job (draw job.setting.key)
    pub whole : b.total ≡ total job
    pub walked : IsPermutation b.outcomes (found_below job count)
    pub room : total job ≤ length sorted.items + sorted.spare
