-- The laws of checkpoints.
use Rattle.std.proofs.Common.{ℕ, suc, ◌*◌, ◌<◌, ◌≤◌, List, [], length, map, sym, subst, inl, inr, ◌∙◌, arith}
use Rattle.std.specs.Prelude.{slice_range}
use Rattle.std.specs.Int.{w32}
use Rattle.std.specs.List.{All}
use Rattle.std.proofs.lemmas.Bool.{cases_lt}
use Rattle.std.proofs.lemmas.List.{get_or-map, get_or_past, length-map}
use Rattle.audit_model.specs.declared.outcome.Outcome.{Outcome}
use Rattle.std.proofs.Math.Nat.{mul-le-mul_left}
use Rattle.audit_statement.specs.Checkpoint.{has_histogram, number_at, outcome_size, stated_version}
use Rattle.audit_statement.specs.Slots.{outcome_at, outcomes_in}
use Rattle.ckpt_format.specs.Laws.{FaultlessAreCheckpoints, CheckpointsAreRead, CheckpointsAreDetermined, CheckpointsHaveLength, RisingPairsRise}
use Rattle.ckpt_format.proofs.Cutting.{AreBytes}
use Rattle.ckpt_format.proofs.Faulting.{IsFaultless-from_none}
use Rattle.ckpt_format.proofs.Made.{IsMade-from_checkpoint, none-from_checkpoint}
use Rattle.ckpt_format.proofs.Sizes.{few_bytes}
use Rattle.ckpt_format.proofs.Whole.{read_as_checkpoint, rising_from_places}

-- numbers each below 256 are bytes
AreBytes-from_All : (bytes : List ℕ) → All (λ b. b < 256) bytes → AreBytes bytes
AreBytes-from_All bytes each k = elim (cases_lt k (length bytes)) [
  | inl l ↦ each k 0 l
  | inr l ↦ subst (λ n. n < 256) (sym (get_or_past bytes k 0 l)) (omega arith)
]

-- the law on bytes without a fault
pub faultless_are_checkpoints : FaultlessAreCheckpoints
faultless_are_checkpoints bytes each = (
  λ none.
      let right = IsFaultless-from_none bytes none in
      (stated_version bytes, slice_range bytes 12 44, number_at w32 44 bytes, outcomes_in bytes, read_as_checkpoint bytes (AreBytes-from_All bytes each) right.head right.ordered right.last),
  λ some. none-from_checkpoint bytes some.0 some.1 some.2 some.3 some.4,
)

-- the law on the parts at their places
pub checkpoints_are_read : CheckpointsAreRead
checkpoints_are_read bytes version digest generation outcomes is = (IsMade-from_checkpoint bytes version digest generation outcomes is).stands

-- two checkpoints of equal bytes have equal parts, since both are read from the bytes
pub checkpoints_are_determined : CheckpointsAreDetermined
checkpoints_are_determined bytes version version' digest digest' generation generation' outcomes outcomes' is is' =
    let stands = checkpoints_are_read bytes version digest generation outcomes is in
    let stands' = checkpoints_are_read bytes version' digest' generation' outcomes' is' in
    (sym stands.version_at ∙ stands'.version_at, sym stands.digest_at ∙ stands'.digest_at, sym stands.generation_at ∙ stands'.generation_at, sym stands.outcomes_at ∙ stands'.outcomes_at)

-- the law on the number of bytes
pub checkpoints_have_length : CheckpointsHaveLength
checkpoints_have_length bytes version digest generation outcomes is =
    let size = (IsMade-from_checkpoint bytes version digest generation outcomes is).size in
    let few = few_bytes (has_histogram version) in
    let most : outcome_size version * length outcomes ≤ outcome_size version * 100000 = mul-le-mul_left (outcome_size version) is.few in
    (size, omega (arith, few.1, most))

-- the law on ids each below all later ones
pub rising_pairs_rise : RisingPairsRise
rising_pairs_rise outcomes pairs =
    let id = λ (o : Outcome). o.id in
    let none = outcome_at [] 0 in
    rising_from_places (map id outcomes) (λ k l.
    let inside : suc k < length outcomes = omega (arith, length-map outcomes id) in
    let next = pairs k (suc k) none (omega arith) inside in
    omega (arith, next, get_or-map id outcomes k none 0 (omega arith), get_or-map id outcomes (suc k) none 0 inside))
