-- The parts of a checkpoint, each at its place.
use Rattle.std.proofs.Common.{◌≡◌, ℕ, zero, suc, ◌+◌, ◌-◌, ◌*◌, ◌^◌, ◌<◌, ◌≤◌, ◌⊎◌, false, List, ◌++◌, length, get_or, take, drop, map, codes, None, refl, sym, ap, subst, inl, inr, ◌∙◌, arith, append_assoc, length-append}
use Rattle.std.specs.Prelude.{slice_range, nat_lt, nat_le}
use Rattle.std.specs.List.{flat_map, AllByRecursion}
use Rattle.std.specs.Int.{w32, to_be_bytes}
use Rattle.std.proofs.lemmas.Bool.{and_right, lt-leb}
use Rattle.std.proofs.lemmas.List.{drop_at, length-map, same_lists, take_at}
use Rattle.sha2.specs.Sha256.{sha256}
use Rattle.audit_model.specs.Below.{map_below}
use Rattle.audit_model.specs.declared.outcome.Outcome.{Outcome}
use Rattle.std.proofs.lemmas.List.Elements.{All-from_recursion}
use Rattle.audit_model.specs.Trajectory.{empty_histogram}
use Rattle.audit_model.proofs.Below.{length-map_below, get_or-map_below}
use Rattle.audit_model.proofs.First.{none_first_below}
use Rattle.audit_statement.specs.Checkpoint.{AreRising, AreHistogramsStorable, IsCheckpoint, IsOutcome, checkpoint, checkpoint_body, checkpoint_fault, has_histogram, number_at, outcome_bytes, outcome_size, stated_count, stated_id, stated_version}
use Rattle.audit_statement.specs.Slots.{outcome_in, outcomes_in}
use Rattle.ckpt_format.specs.Faults.{is_unordered}
use Rattle.ckpt_format.specs.Laws.{StandsIn}
use Rattle.ckpt_format.proofs.Cutting.{part-mid}
use Rattle.ckpt_format.proofs.Numbers.{AreStorable, outcome_by, reread_32, reread_outcome}
use Rattle.ckpt_format.proofs.Pieces.{piece_apart}
use Rattle.ckpt_format.proofs.Sizes.{each_sized, length-checkpoint, length-checkpoint_body}
use Rattle.ckpt_format.proofs.Whole.{id_in, rising_at}
use Rattle.ckpt_format.proofs.Faulting.{none-from_IsFaultless}

-- ---- each part, split from those before and after it

-- the digest, split out
digest_apart : (m v d g c o s : List ℕ) → m ++ v ++ d ++ g ++ c ++ o ++ s ≡ (m ++ v) ++ d ++ (g ++ c ++ o ++ s)
digest_apart m v d g c o s = simp append_assoc

-- the version, split out
version_apart : (m v d g c o s : List ℕ) → m ++ v ++ d ++ g ++ c ++ o ++ s ≡ m ++ (v ++ (d ++ g ++ c ++ o ++ s))
version_apart m v d g c o s = simp append_assoc

-- the generation, split out
generation_apart : (m v d g c o s : List ℕ) → m ++ v ++ d ++ g ++ c ++ o ++ s ≡ (m ++ v ++ d) ++ (g ++ (c ++ o ++ s))
generation_apart m v d g c o s = simp append_assoc

-- the number of outcomes, split out
count_apart : (m v d g c o s : List ℕ) → m ++ v ++ d ++ g ++ c ++ o ++ s ≡ (m ++ v ++ d ++ g) ++ (c ++ (o ++ s))
count_apart m v d g c o s = simp append_assoc

-- the outcomes, split out
outcomes_apart : (m v d g c o s : List ℕ) → m ++ v ++ d ++ g ++ c ++ o ++ s ≡ (m ++ v ++ d ++ g ++ c) ++ (o ++ s)
outcomes_apart m v d g c o s = simp append_assoc

-- the name of the format, split out
magic_apart : (m v d g c o s : List ℕ) → m ++ v ++ d ++ g ++ c ++ o ++ s ≡ m ++ (v ++ d ++ g ++ c ++ o ++ s)
magic_apart m v d g c o s = simp append_assoc

-- ---- the outcomes

-- a histogram that is not written is 0
storable_at : (version : ℕ) (outcomes : List Outcome) (k : ℕ) (d : Outcome) → AreHistogramsStorable version outcomes → k < length outcomes → AreStorable (has_histogram version) (get_or outcomes k d).bins
storable_at version outcomes k d (inl two) l = subst (λ v. AreStorable (has_histogram v) (get_or outcomes k d).bins) (sym two) tt
storable_at version outcomes k d (inr (one, each)) l =
    subst (λ v. AreStorable (has_histogram v) (get_or outcomes k d).bins) (sym one) (All-from_recursion (λ o. o.bins ≡ empty_histogram) outcomes each k d l)

-- a version that fits the outcomes fits four bytes
version_below : (version : ℕ) (outcomes : List Outcome) → AreHistogramsStorable version outcomes → version < 2 ^ 32
version_below version outcomes (inl two) = omega (arith, two)
version_below version outcomes (inr (one, each)) = omega (arith, one)

-- written outcomes are read back
outcomes_reread : (bytes p q : List ℕ) (version : ℕ) (outcomes : List Outcome) → bytes ≡ p ++ (flat_map (outcome_bytes version) outcomes ++ q) → length p ≡ 52
    → stated_version bytes ≡ version → AreHistogramsStorable version outcomes → AllByRecursion IsOutcome outcomes → map_below (length outcomes) (outcome_in bytes) ≡ outcomes
outcomes_reread bytes p q version outcomes is e states storable each =
    let with_histogram = has_histogram version in
    let many = length-map_below (length outcomes) (outcome_in bytes) in
    same_lists (map_below (length outcomes) (outcome_in bytes)) outcomes many (λ k d l.
    let inside : k < length outcomes = omega (arith, many) in
    let at = 52 + outcome_size version * k in
    let apart = piece_apart (outcome_bytes version) (outcome_size version) p q outcomes 52 k d (each_sized with_histogram outcomes each) e inside in
    get_or-map_below (length outcomes) (outcome_in bytes) k d inside
    ∙ ap (λ v. outcome_by (has_histogram v) bytes (52 + outcome_size v * k)) states
    ∙ ap (λ (ys : List ℕ). outcome_by with_histogram ys at) (is ∙ apart.spelled)
    ∙ reread_outcome with_histogram apart.front apart.back (get_or outcomes k d) at (All-from_recursion IsOutcome outcomes each k d inside) (storable_at version outcomes k d storable inside) apart.size)

-- ---- the whole checkpoint

pub record IsMade (bytes : List ℕ) (version : ℕ) (digest : List ℕ) (generation : ℕ) (outcomes : List Outcome) : Type 0 where
  pub size : length bytes ≡ 84 + outcome_size version * length outcomes
  pub magic : take 8 bytes ≡ codes "DISTCKPT"
  pub count : stated_count bytes ≡ length outcomes
  pub stands : StandsIn bytes version digest generation outcomes
  pub last : drop (length bytes - 32) bytes ≡ sha256 (take (length bytes - 32) bytes)

-- a checkpoint, part by part
spelled : (version : ℕ) (digest : List ℕ) (generation : ℕ) (outcomes : List Outcome)
    → checkpoint version digest generation outcomes
    ≡ codes "DISTCKPT" ++ to_be_bytes w32 version ++ digest ++ to_be_bytes w32 generation ++ to_be_bytes w32 (length outcomes)
    ++ flat_map (outcome_bytes version) outcomes ++ sha256 (checkpoint_body version digest generation outcomes)
unfolding checkpoint
spelled version digest generation outcomes = refl

-- a checkpoint has each part at its place
pub IsMade-from_checkpoint : (bytes : List ℕ) (version : ℕ) (digest : List ℕ) (generation : ℕ) (outcomes : List Outcome)
    → IsCheckpoint bytes version digest generation outcomes → IsMade bytes version digest generation outcomes
IsMade-from_checkpoint bytes version digest generation outcomes is =
    let m = codes "DISTCKPT" in
    let v = to_be_bytes w32 version in
    let g = to_be_bytes w32 generation in
    let c = to_be_bytes w32 (length outcomes) in
    let o = flat_map (outcome_bytes version) outcomes in
    let body = checkpoint_body version digest generation outcomes in
    let s = sha256 body in
    let whole : bytes ≡ m ++ v ++ digest ++ g ++ c ++ o ++ s = is.spelled ∙ spelled version digest generation outcomes in
    let size : length bytes ≡ 84 + outcome_size version * length outcomes = ap length is.spelled ∙ length-checkpoint version digest generation outcomes is.digest_length is.each in
    let front : length body ≡ length bytes - 32 = omega (arith, length-checkpoint_body version digest generation outcomes is.digest_length is.each) in
    let to_digest : length (m ++ v ++ digest) ≡ 44 = length-append (m ++ v) digest ∙ ap (λ n. 12 + n) is.digest_length in
    let to_generation : length (m ++ v ++ digest ++ g) ≡ 48 = length-append (m ++ v ++ digest) g ∙ ap (λ n. n + 4) to_digest in
    let to_count : length (m ++ v ++ digest ++ g ++ c) ≡ 52 = length-append (m ++ v ++ digest ++ g) c ∙ ap (λ n. n + 4) to_generation in
    let states : stated_version bytes ≡ version =
    ap (number_at w32 8) (whole ∙ version_apart m v digest g c o s) ∙ reread_32 m (digest ++ g ++ c ++ o ++ s) version 8 (version_below version outcomes is.storable_histograms) refl in
    let counted : stated_count bytes ≡ length outcomes =
    ap (number_at w32 48) (whole ∙ count_apart m v digest g c o s) ∙ reread_32 (m ++ v ++ digest ++ g) (o ++ s) (length outcomes) 48 (omega (arith, is.few)) to_generation in
    let first_part : take (length bytes - 32) bytes ≡ body = ap (take (length bytes - 32)) whole ∙ take_at body s (length bytes - 32) front in
    let last_part : drop (length bytes - 32) bytes ≡ s = ap (drop (length bytes - 32)) whole ∙ drop_at body s (length bytes - 32) front in
    record {
      size = size;
      magic = ap (take 8) (whole ∙ magic_apart m v digest g c o s) ∙ take_at m (v ++ digest ++ g ++ c ++ o ++ s) 8 refl;
      count = counted;
      stands = record {
        version_at = states;
        digest_at = ap (λ (ys : List ℕ). slice_range ys 12 44) (whole ∙ digest_apart m v digest g c o s) ∙ part-mid (m ++ v) digest (g ++ c ++ o ++ s) 12 44 refl (ap (λ n. 12 + n) is.digest_length);
        generation_at = ap (number_at w32 44) (whole ∙ generation_apart m v digest g c o s) ∙ reread_32 (m ++ v ++ digest) (c ++ o ++ s) generation 44 (omega (arith, is.generation_below)) to_digest;
        outcomes_at = ap (λ n. map_below n (outcome_in bytes)) counted
            ∙ outcomes_reread bytes (m ++ v ++ digest ++ g ++ c) s version outcomes (whole ∙ outcomes_apart m v digest g c o s) to_count states is.storable_histograms is.each;
      };
      last = last_part ∙ ap sha256 (sym first_part);
    }

-- ---- no fault

-- rising ids have no fault of order
in_order : (bytes : List ℕ) (ids : List ℕ) (place : ℕ) → AreRising ids → length ids ≡ stated_count bytes → ((k : ℕ) → k < stated_count bytes → get_or ids k 0 ≡ stated_id bytes k)
    → place < stated_count bytes → is_unordered bytes place ≡ false
in_order bytes ids zero rising many each l = refl
in_order bytes ids (suc k) rising many each l =
    let next : get_or ids k 0 < get_or ids (suc k) 0 = rising_at ids k rising (omega arith) in
    let before : suc k - 1 ≡ k = omega arith in
    let above : stated_id bytes (suc k - 1) < stated_id bytes (suc k) =
    subst (λ n. stated_id bytes n < stated_id bytes (suc k)) (sym before) (omega (arith, next, each k (omega arith), each (suc k) l)) in
    and_right (nat_lt 0 (suc k)) (nat_le (stated_id bytes (suc k)) (stated_id bytes (suc k - 1))) (lt-leb (stated_id bytes (suc k)) (stated_id bytes (suc k - 1)) above)

-- the version is 1 or 2
known : (stated version : ℕ) (outcomes : List Outcome) → stated ≡ version → AreHistogramsStorable version outcomes → (stated ≡ 1) ⊎ (stated ≡ 2)
known stated version outcomes is (inl two) = inr (is ∙ two)
known stated version outcomes is (inr (one, each)) = inl (is ∙ one)

-- a checkpoint has no fault
pub none-from_checkpoint : (bytes : List ℕ) (version : ℕ) (digest : List ℕ) (generation : ℕ) (outcomes : List Outcome)
    → IsCheckpoint bytes version digest generation outcomes → checkpoint_fault bytes ≡ None
none-from_checkpoint bytes version digest generation outcomes is =
    let made = IsMade-from_checkpoint bytes version digest generation outcomes is in
    let id = λ (o : Outcome). o.id in
    let ids = map id (outcomes_in bytes) in
    let many : length ids ≡ stated_count bytes = length-map (outcomes_in bytes) id ∙ length-map_below (stated_count bytes) (outcome_in bytes) in
    let rising : AreRising ids = subst (λ (os : List Outcome). AreRising (map id os)) (sym made.stands.outcomes_at) is.rising in
    none-from_IsFaultless bytes (record {
      head = record {
        magic = made.magic;
        version = known (stated_version bytes) version outcomes made.stands.version_at is.storable_histograms;
        generation = subst (λ n. n < 3) (sym made.stands.generation_at) is.generation_below;
        few = subst (λ n. n ≤ 100000) (sym made.count) is.few;
        size = made.size ∙ ap (λ n. 84 + outcome_size version * n) (sym made.count) ∙ ap (λ v. 84 + outcome_size v * stated_count bytes) (sym made.stands.version_at);
      };
      ordered = none_first_below (stated_count bytes) (is_unordered bytes) (λ place l. in_order bytes ids place rising many (id_in bytes) l);
      last = made.last;
    })
