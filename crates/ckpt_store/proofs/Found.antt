-- The state of a slot matches its bytes.
use Rattle.std.proofs.Common.{◌≡◌, ℕ, ◌<◌, Bool, true, false, not, List, length, Option, Some, None, refl, sym, ap, subst, ◌∙◌, arith}
use Rattle.std.specs.Prelude.{IsTrue, bytes_eq, nat_lt, slice_range}
use Rattle.std.specs.Int.{w32}
use Rattle.std.specs.List.{All, list_all}
use Rattle.std.proofs.lemmas.List.Sums.{list_all-from_AllPass}
use Rattle.std.proofs.lemmas.Slice.Eq.{bytes_eq-Decides}
use Rattle.audit_model.specs.declared.fault.CkptFault.{CkptFault}
use Rattle.audit_model.specs.declared.fault.CkptFault.TheVariants.{TooLong, Unfit}
use Rattle.audit_model.specs.First.{first_below}
use Rattle.audit_model.specs.Job.{Job}
use Rattle.audit_model.specs.Run.{fits}
use Rattle.audit_model.proofs.Below.{length-map_below, get_or-map_below}
use Rattle.audit_model.proofs.First.{first_below_none}
use Rattle.audit_statement.specs.Checkpoint.{IsCheckpoint, checkpoint_fault, number_at, stated_count, stated_version}
use Rattle.audit_statement.specs.Slots.{broken, checkpoint_limit, outcome_in, outcomes_in, slot_of, slot_of_bytes, slot_of_checkpoint, slot_of_digest, slot_of_ours}
use Rattle.ckpt_format.specs.Laws.{CheckpointsAreRead, FaultlessAreCheckpoints, IsSomeCheckpoint}
use Rattle.ckpt_store.specs.Laws.{IsReadFrom, SlotsAreWhatTheyAre}
use Rattle.ckpt_store.proofs.Ours.{checkpoints_are_ours}

-- if no place is marked, all outcomes are plausible
all_fit : (job : Job) (bytes : List ℕ) → first_below (stated_count bytes) (λ place. not (fits job (outcome_in bytes place))) ≡ None
    → IsTrue (list_all (fits job) (outcomes_in bytes))
all_fit job bytes none =
    let count = stated_count bytes in
    list_all-from_AllPass (fits job) (outcomes_in bytes) (λ k d l.
    let below : k < count = omega (arith, length-map_below count (outcome_in bytes)) in
    ap (fits job) (get_or-map_below count (outcome_in bytes) k d below) ∙ passes (fits job (outcome_in bytes k)) (first_below_none count (λ place. not (fits job (outcome_in bytes place))) k none below))
  where
    passes : (b : Bool) → not b ≡ false → b ≡ true
    passes true e = refl
    passes false e = cc

module _ (faultless : FaultlessAreCheckpoints) (read : CheckpointsAreRead) (job : Job) (digest bytes : List ℕ) (each : All (λ b. b < 256) bytes) where
  -- bytes without a fault are the checkpoint read from them
  read_is : checkpoint_fault bytes ≡ None → IsCheckpoint bytes (stated_version bytes) (slice_range bytes 12 44) (number_at w32 44 bytes) (outcomes_in bytes)
  read_is none = by ((faultless bytes each).0 none)
    where
      by : IsSomeCheckpoint bytes → IsCheckpoint bytes (stated_version bytes) (slice_range bytes 12 44) (number_at w32 44 bytes) (outcomes_in bytes)
      by (version, found, generation, outcomes, is) =
          let s = read bytes version found generation outcomes is in
          rw (s.version_at, s.digest_at, s.generation_at, s.outcomes_at) is

  is_broken : (fault : CkptFault) → slot_of job digest (Some bytes) ≡ broken fault → IsReadFrom job digest bytes (broken fault)
  is_broken fault e version generation outcomes is fit =
      let o = sym e ∙ checkpoints_are_ours job bytes version digest generation outcomes is fit in cc

  from_fit : (unfit : Option ℕ) → first_below (stated_count bytes) (λ place. not (fits job (outcome_in bytes place))) ≡ unfit
      → IsCheckpoint bytes (stated_version bytes) digest (number_at w32 44 bytes) (outcomes_in bytes)
      → slot_of job digest (Some bytes) ≡ slot_of_ours bytes unfit → IsReadFrom job digest bytes (slot_of_ours bytes unfit)
  from_fit None none is e = ((stated_version bytes, is), all_fit job bytes none)
  from_fit (Some place) some is e = is_broken (Unfit place) e

  from_digest : (same : Bool) → bytes_eq (slice_range bytes 12 44) digest ≡ same
      → IsCheckpoint bytes (stated_version bytes) (slice_range bytes 12 44) (number_at w32 44 bytes) (outcomes_in bytes)
      → slot_of job digest (Some bytes) ≡ slot_of_digest job bytes same → IsReadFrom job digest bytes (slot_of_digest job bytes same)
  from_digest false differ is e = (λ same. let t = sym differ ∙ (bytes_eq-Decides (slice_range bytes 12 44) digest).1 same in cc, (stated_version bytes, (outcomes_in bytes, is)))
  from_digest true equal is e =
      from_fit (first_below (stated_count bytes) (λ place. not (fits job (outcome_in bytes place)))) refl
      (subst (λ (d : List ℕ). IsCheckpoint bytes (stated_version bytes) d (number_at w32 44 bytes) (outcomes_in bytes)) ((bytes_eq-Decides (slice_range bytes 12 44) digest).0 equal) is) e

  from_fault : (fault : Option CkptFault) → checkpoint_fault bytes ≡ fault → slot_of job digest (Some bytes) ≡ slot_of_checkpoint job digest bytes fault
      → IsReadFrom job digest bytes (slot_of_checkpoint job digest bytes fault)
  from_fault (Some fault) is e = is_broken fault e
  from_fault None none e = from_digest (bytes_eq (slice_range bytes 12 44) digest) refl (read_is none) e

  pub from_length : (many : Bool) → slot_of job digest (Some bytes) ≡ slot_of_bytes job digest bytes many → IsReadFrom job digest bytes (slot_of_bytes job digest bytes many)
  from_length true e = is_broken (TooLong checkpoint_limit) e
  from_length false e = from_fault (checkpoint_fault bytes) refl e

-- each kind of slot state matches the bytes
pub slots_are_what_they_are : FaultlessAreCheckpoints → CheckpointsAreRead → SlotsAreWhatTheyAre
slots_are_what_they_are faultless read job digest bytes each = from_length faultless read job digest bytes each (nat_lt checkpoint_limit (length bytes)) refl
