-- Bytes without a fault are a checkpoint, and decoding it returns the encoded parts.
use Rattle.std.proofs.Common.{◌≡◌, ℕ, zero, suc, ◌+◌, ◌-◌, ◌*◌, ◌<◌, ◌≤◌, ◌⊎◌, false, List, [], ◌∷◌, ◌++◌, length, get_or, take, drop, map, codes, None, refl, sym, ap, subst, inl, inr, ◌∙◌, arith}
use Rattle.std.specs.Prelude.{slice_range, nat_lt, nat_le}
use Rattle.std.specs.List.{flat_map, AllByRecursion}
use Rattle.std.specs.Int.{w32, to_be_bytes}
use Rattle.std.proofs.lemmas.Bool.{and_cases, lt-ltb, leb-false, false≢true}
use Rattle.std.proofs.lemmas.List.{take-append-drop, get_or-map, length-map}
use Rattle.std.proofs.lemmas.List.Elements.{All-from_get_or, recursion_from_All}
use Rattle.std.proofs.lemmas.Slice.{between_from_start}
use Rattle.std.proofs.Math.Nat.{mul-le-mul_left}
use Rattle.sha2.specs.Sha256.{sha256}
use Rattle.audit_model.specs.Below.{map_below}
use Rattle.audit_model.specs.First.{first_below}
use Rattle.audit_model.specs.declared.outcome.Outcome.{Outcome}
use Rattle.audit_model.specs.Trajectory.{empty_histogram}
use Rattle.audit_model.proofs.Below.{length-map_below, get_or-map_below}
use Rattle.audit_model.proofs.First.{first_below_none}
use Rattle.audit_statement.specs.Checkpoint.{AreRising, AreHistogramsStorable, IsCheckpoint, IsOutcome, checkpoint, checkpoint_body, has_histogram, number_at, outcome_bytes, outcome_size, outcome_start, stated_count, stated_id, stated_version}
use Rattle.audit_statement.specs.Slots.{histogram_at, outcome_in, outcomes_in}
use Rattle.ckpt_format.specs.Faults.{is_unordered}
use Rattle.ckpt_format.proofs.Cutting.{AreBytes, join-parts, part-bytes, length-part}
use Rattle.ckpt_format.proofs.Faulting.{HasHead}
use Rattle.ckpt_format.proofs.Numbers.{outcome_by-IsOutcome, rewritten_32, rewritten_outcome}
use Rattle.ckpt_format.proofs.Pieces.{pieces_joined}

-- ---- rising ids

-- ids rise if each is below the next
pub rising_from_places : (ids : List ℕ) → ((k : ℕ) → suc k < length ids → get_or ids k 0 < get_or ids (suc k) 0) → AreRising ids
rising_from_places [] each = tt
rising_from_places (x ∷ []) each = tt
rising_from_places (x ∷ y ∷ rest) each = (each 0 (omega arith), rising_from_places (y ∷ rest) (λ k l. each (suc k) (omega arith)))

-- in rising ids each is below the next
pub rising_at : (ids : List ℕ) (k : ℕ) → AreRising ids → suc k < length ids → get_or ids k 0 < get_or ids (suc k) 0
rising_at [] k rising l = absurd (omega arith)
rising_at (x ∷ []) k rising l = absurd (omega arith)
rising_at (x ∷ y ∷ rest) zero rising l = rising.0
rising_at (x ∷ y ∷ rest) (suc k) rising l = rising_at (y ∷ rest) k rising.1 (omega arith)

-- ---- checkpoints from bytes

-- the outcomes that are read are written as the same bytes
outcomes_rewritten : (bytes : List ℕ) (count : ℕ) → AreBytes bytes → outcome_start bytes count ≤ length bytes
    → flat_map (outcome_bytes (stated_version bytes)) (map_below count (outcome_in bytes)) ≡ slice_range bytes 52 (outcome_start bytes count)
outcomes_rewritten bytes count each l =
    let version = stated_version bytes in
    let size = outcome_size version in
    pieces_joined (outcome_bytes version) (outcome_in bytes) size 52 count bytes (λ k m.
    let next : size * suc k ≤ size * count = mul-le-mul_left size m in
    rewritten_outcome (has_histogram version) bytes (52 + size * k) (52 + size * suc k) each (omega arith) (omega (arith, next))) l

-- six slices in a row join
join_six : (xs m v d g c o : List ℕ) (end : ℕ) → 52 ≤ end → end ≤ length xs → m ≡ slice_range xs 0 8 → v ≡ slice_range xs 8 12 → d ≡ slice_range xs 12 44
    → g ≡ slice_range xs 44 48 → c ≡ slice_range xs 48 52 → o ≡ slice_range xs 52 end → m ++ v ++ d ++ g ++ c ++ o ≡ take end xs
join_six xs m v d g c o end low high em ev ed eg ec eo =
    let two = same_both _ _ _ _ em ev ∙ join-parts xs 0 8 12 (omega arith) (omega arith) (omega arith) in
    let three = same_both _ _ _ _ two ed ∙ join-parts xs 0 12 44 (omega arith) (omega arith) (omega arith) in
    let four = same_both _ _ _ _ three eg ∙ join-parts xs 0 44 48 (omega arith) (omega arith) (omega arith) in
    let five = same_both _ _ _ _ four ec ∙ join-parts xs 0 48 52 (omega arith) (omega arith) (omega arith) in
    same_both _ _ _ _ five eo ∙ join-parts xs 0 52 end (omega arith) low high ∙ between_from_start xs end
  where
    same_both : (a b c d : List ℕ) → a ≡ c → b ≡ d → a ++ b ≡ c ++ d
    same_both a b c d e f = rw (e, f)

-- the body, up to the digest at the end, is written as the same bytes
body_rewritten : (bytes : List ℕ) → AreBytes bytes → HasHead bytes
    → checkpoint_body (stated_version bytes) (slice_range bytes 12 44) (number_at w32 44 bytes) (outcomes_in bytes) ≡ take (outcome_start bytes (stated_count bytes)) bytes
body_rewritten bytes each head =
    let size = head.size in
    let count = length-map_below (stated_count bytes) (outcome_in bytes) in
    let version : to_be_bytes w32 (stated_version bytes) ≡ slice_range bytes 8 12 = rewritten_32 bytes 8 12 each refl (omega arith) in
    let generation : to_be_bytes w32 (number_at w32 44 bytes) ≡ slice_range bytes 44 48 = rewritten_32 bytes 44 48 each refl (omega arith) in
    let counted : to_be_bytes w32 (length (outcomes_in bytes)) ≡ slice_range bytes 48 52 = ap (to_be_bytes w32) count ∙ rewritten_32 bytes 48 52 each refl (omega arith) in
    let outcomes = outcomes_rewritten bytes (stated_count bytes) each (omega arith) in
    join_six bytes (codes "DISTCKPT") (to_be_bytes w32 (stated_version bytes)) (slice_range bytes 12 44) (to_be_bytes w32 (number_at w32 44 bytes)) (to_be_bytes w32 (length (outcomes_in bytes)))
    (flat_map (outcome_bytes (stated_version bytes)) (outcomes_in bytes)) (outcome_start bytes (stated_count bytes)) (omega arith) (omega arith) (sym head.magic) version refl generation counted outcomes

-- bytes with a valid head and digest are the checkpoint of the parts they state
rewritten : (bytes : List ℕ) → AreBytes bytes → HasHead bytes → drop (length bytes - 32) bytes ≡ sha256 (take (length bytes - 32) bytes)
    → bytes ≡ checkpoint (stated_version bytes) (slice_range bytes 12 44) (number_at w32 44 bytes) (outcomes_in bytes)
unfolding checkpoint
rewritten bytes each head last =
    let size = head.size in
    let end : length bytes - 32 ≡ outcome_start bytes (stated_count bytes) = omega arith in
    let body : take (length bytes - 32) bytes ≡ checkpoint_body (stated_version bytes) (slice_range bytes 12 44) (number_at w32 44 bytes) (outcomes_in bytes) =
    ap (λ n. take n bytes) end ∙ sym (body_rewritten bytes each head) in
    sym (take-append-drop (length bytes - 32) bytes)
    ∙ ap (λ (ys : List ℕ). take (length bytes - 32) bytes ++ ys) last
    ∙ ap (λ (ys : List ℕ). ys ++ sha256 ys) body

-- the id at a place
pub id_in : (bytes : List ℕ) (k : ℕ) → k < stated_count bytes → get_or (map (λ o. o.id) (outcomes_in bytes)) k 0 ≡ stated_id bytes k
id_in bytes k l =
    let id = λ (o : Outcome). o.id in
    let outcome = outcome_in bytes in
    get_or-map id (outcomes_in bytes) k (outcome 0) 0 (omega (arith, length-map_below (stated_count bytes) outcome))
    ∙ ap id (get_or-map_below (stated_count bytes) outcome k (outcome 0) l)

-- the ids rise if no place is out of order
ids_rise : (bytes : List ℕ) → first_below (stated_count bytes) (is_unordered bytes) ≡ None → AreRising (map (λ o. o.id) (outcomes_in bytes))
ids_rise bytes none =
    let count = stated_count bytes in
    let id = λ (o : Outcome). o.id in
    let outcomes = outcomes_in bytes in
    let many : length (map id outcomes) ≡ count = length-map outcomes id ∙ length-map_below count (outcome_in bytes) in
    rising_from_places (map id outcomes) (λ k l.
    let inside : suc k < count = omega arith in
    let passes = first_below_none count (is_unordered bytes) (suc k) none inside in
    let above : stated_id bytes k < stated_id bytes (suc k) = in_order bytes k (suc k) (omega arith) passes in
    omega (arith, above, id_in bytes k (omega arith), id_in bytes (suc k) inside))
  where
    in_order : (bytes : List ℕ) (k n : ℕ) → n ≡ k + 1 → is_unordered bytes n ≡ false → stated_id bytes k < stated_id bytes n
    in_order bytes k n e fails =
        let before : n - 1 ≡ k = omega arith in
        let later : nat_le (stated_id bytes n) (stated_id bytes (n - 1)) ≡ false = elim (and_cases (nat_lt 0 n) _ fails) [
          | inl none ↦ absurd (false≢true (sym none ∙ lt-ltb 0 n (omega arith)))
          | inr here ↦ here
        ] in
        leb-false (stated_id bytes n) (stated_id bytes k) (subst (λ m. nat_le (stated_id bytes n) (stated_id bytes m) ≡ false) before later)

-- each outcome that is read has fields within their bounds
outcomes_in-IsOutcome : (bytes : List ℕ) → AreBytes bytes → AllByRecursion IsOutcome (outcomes_in bytes)
outcomes_in-IsOutcome bytes each =
    let outcome = outcome_in bytes in
    recursion_from_All IsOutcome (outcomes_in bytes) (All-from_get_or IsOutcome (outcomes_in bytes) (outcome 0) (λ k l.
    subst IsOutcome (sym (get_or-map_below (stated_count bytes) outcome k (outcome 0) (omega (arith, length-map_below (stated_count bytes) outcome))))
    (outcome_by-IsOutcome (has_histogram (stated_version bytes)) bytes (outcome_start bytes k) each)))

-- in the first version no histogram is read
outcomes_in-without_histogram : (bytes : List ℕ) → stated_version bytes ≡ 1 → AllByRecursion (λ o. o.bins ≡ empty_histogram) (outcomes_in bytes)
outcomes_in-without_histogram bytes one =
    let outcome = outcome_in bytes in
    let count = stated_count bytes in
    recursion_from_All (λ o. o.bins ≡ empty_histogram) (outcomes_in bytes) (All-from_get_or (λ o. o.bins ≡ empty_histogram) (outcomes_in bytes) (outcome 0) (λ k l.
    ap (λ (o : Outcome). o.bins) (get_or-map_below count outcome k (outcome 0) (omega (arith, length-map_below count outcome)))
    ∙ ap (λ v. histogram_at (has_histogram v) bytes (outcome_start bytes k + 44)) one))

-- the outcomes read have histograms in the second version and none in the first
storable_histograms : (bytes : List ℕ) → (stated_version bytes ≡ 1) ⊎ (stated_version bytes ≡ 2) → AreHistogramsStorable (stated_version bytes) (outcomes_in bytes)
storable_histograms bytes (inl one) = inr (one, outcomes_in-without_histogram bytes one)
storable_histograms bytes (inr two) = inl two

-- bytes without a fault are the checkpoint of the parts read from them
pub read_as_checkpoint : (bytes : List ℕ) → AreBytes bytes → HasHead bytes → first_below (stated_count bytes) (is_unordered bytes) ≡ None
    → drop (length bytes - 32) bytes ≡ sha256 (take (length bytes - 32) bytes)
    → IsCheckpoint bytes (stated_version bytes) (slice_range bytes 12 44) (number_at w32 44 bytes) (outcomes_in bytes)
read_as_checkpoint bytes each head ordered last =
    let size = head.size in
    let many = length-map_below (stated_count bytes) (outcome_in bytes) in record {
      storable_histograms = storable_histograms bytes head.version;
      digest_length = length-part bytes 12 44 (omega arith) (omega arith);
      digest_bytes = recursion_from_All (λ b. b < 256) (slice_range bytes 12 44) (All-from_get_or (λ b. b < 256) (slice_range bytes 12 44) 0 (λ k l. part-bytes bytes 12 44 each k));
      generation_below = head.generation;
      few = omega (arith, many, head.few);
      rising = ids_rise bytes ordered;
      each = outcomes_in-IsOutcome bytes each;
      spelled = rewritten bytes each head last;
    }
