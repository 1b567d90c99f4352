-- The walked state with its numbers of workers and trajectories replaced by equal ones.
use Rattle.std.proofs.Common.{◌≡◌, ℕ, sym, subst, vec_len}
use Rattle.audit_model.specs.Job.{Job}
use Rattle.audit_model.specs.Room.{RoomyOutcomes}
use Rattle.claim_counter.specs.declared.batches.BatchCounter.{BatchCounter}
use Rattle.claim_counter.specs.declared.batches.BatchWorkers.{BatchWorkers}
use Rattle.claim_counter.specs.Batches.{IsFreshBatch, IsBatchWorkers}
use Rattle.outcome_book.specs.Booked.{Booked}
use Rattle.sequential_test.specs.Pools.{HasWalkedTo}

-- a batch for an equal number of workers
pub same_batch : (count seats n : ℕ) (p : BatchCounter) → IsFreshBatch count seats p → n ≡ seats → IsFreshBatch count n p
same_batch count seats n p is same = subst (λ (k : ℕ). IsFreshBatch count k p) (sym same) is

module _ {J : Type 0} where
  -- the walked state for equal numbers
  pub same_walked : (job : Job) (seats count : ℕ) (t : BatchWorkers J) (b : Booked) (sorted : RoomyOutcomes) → HasWalkedTo job seats count t b sorted
      → (n m : ℕ) → n ≡ seats → m ≡ count → HasWalkedTo job n m t b sorted
  same_walked job seats count t b sorted is n m same_seats same_count =
      subst (λ (k : ℕ). HasWalkedTo job k m t b sorted) (sym same_seats)
      (subst (λ (k : ℕ). HasWalkedTo job seats k t b sorted) (sym same_count) is)

  -- the number of workers is the number of hands
  pub own_seats : (job : Job) (seats : ℕ) (t : BatchWorkers J) → IsBatchWorkers job seats t → IsBatchWorkers job (vec_len t.idle_workers) t
  own_seats job seats t is = subst (λ (n : ℕ). IsBatchWorkers job n t) (sym is.count) is
