-- Laws of checkpoints, whoever wrote them.
use Rattle.std.specs.Prelude.{◌≡◌, ℕ, ◌+◌, ◌*◌, ◌<◌, ◌≤◌, ◌↔◌, List, length, map, slice_range, None}
use Rattle.std.specs.Int.{w32}
use Rattle.std.specs.List.{All, AllPairs}
use Rattle.audit_model.specs.declared.outcome.Outcome.{Outcome}
use Rattle.audit_statement.specs.Checkpoint.{AreRising, IsCheckpoint, checkpoint_fault, number_at, outcome_size, stated_version, digest_place, generation_place, empty_length}
use Rattle.audit_statement.specs.Slots.{outcomes_in, checkpoint_limit}

-- the bytes are the checkpoint of some version, digest, generation and outcomes
abbrev pub IsSomeCheckpoint : List ℕ → Type 0
IsSomeCheckpoint bytes =
    (version : ℕ) × (digest : List ℕ) × (generation : ℕ) × (outcomes : List Outcome) × IsCheckpoint bytes version digest generation outcomes

-- bytes have no fault exactly if they are a checkpoint
abbrev pub FaultlessAreCheckpoints : Type 0
FaultlessAreCheckpoints = (bytes : List ℕ) → All (λ b. b < 256) bytes → (checkpoint_fault bytes ≡ None) ↔ IsSomeCheckpoint bytes

-- each part of a checkpoint, read at its place
pub record StandsIn (bytes : List ℕ) (version : ℕ) (digest : List ℕ) (generation : ℕ) (outcomes : List Outcome) : Type 0 where
  pub version_at : stated_version bytes ≡ version
  pub digest_at : slice_range bytes digest_place generation_place ≡ digest
  pub generation_at : number_at w32 generation_place bytes ≡ generation
  pub outcomes_at : outcomes_in bytes ≡ outcomes

-- each part of a checkpoint is read back at its place
abbrev pub CheckpointsAreRead : Type 0
CheckpointsAreRead = (bytes : List ℕ) (version : ℕ) (digest : List ℕ) (generation : ℕ) (outcomes : List Outcome)
    → IsCheckpoint bytes version digest generation outcomes → StandsIn bytes version digest generation outcomes

-- bytes are the checkpoint of one version, one digest, one generation and one list of outcomes
abbrev pub CheckpointsAreDetermined : Type 0
CheckpointsAreDetermined =
    (bytes : List ℕ) (version version' : ℕ) (digest digest' : List ℕ) (generation generation' : ℕ) (outcomes outcomes' : List Outcome)
    → IsCheckpoint bytes version digest generation outcomes → IsCheckpoint bytes version' digest' generation' outcomes'
    → (version ≡ version') × (digest ≡ digest') × (generation ≡ generation') × (outcomes ≡ outcomes')

-- the number of bytes of a checkpoint, which is within the limit
abbrev pub CheckpointsHaveLength : Type 0
CheckpointsHaveLength = (bytes : List ℕ) (version : ℕ) (digest : List ℕ) (generation : ℕ) (outcomes : List Outcome)
    → IsCheckpoint bytes version digest generation outcomes
    → (length bytes ≡ empty_length + outcome_size version * length outcomes) × (length bytes ≤ checkpoint_limit)

-- ids each below all later ones rise
abbrev pub RisingPairsRise : Type 0
RisingPairsRise = (outcomes : List Outcome) → AllPairs (λ a b. a.id < b.id) outcomes → AreRising (map (λ o. o.id) outcomes)
