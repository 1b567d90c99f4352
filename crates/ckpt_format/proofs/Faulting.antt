-- The first fault of bytes, from the faults of each part in order.
use Rattle.std.proofs.Common.{◌≡◌, ℕ, ◌+◌, ◌-◌, ◌*◌, ◌<◌, ◌≤◌, ◌⊎◌, Bool, true, false, not, cond, List, length, take, drop, codes, Option, Some, None, refl, sym, ap, subst, inl, inr, ◌∙◌, arith}
use Rattle.std.specs.Prelude.{◌==◌, nat_lt, bytes_eq, option_map, ◌||◌}
use Rattle.std.specs.Option.{option_or}
use Rattle.std.specs.Int.{w32}
use Rattle.std.proofs.lemmas.Bool.{false≢true, not_from_true, or_from, eq-eqb, cond-true, cond-false, lt-ltb, le-ltb, ltb-false, eqb-true, or_parts, not-false}
use Rattle.std.proofs.lemmas.Slice.Eq.{bytes_eq-Decides}
use Rattle.sha2.specs.Sha256.{sha256}
use Rattle.audit_model.specs.declared.fault.CkptFault.TheVariants.{TooShort, BadMagic, BadVersion, BadGeneration, BadCount, BadOrder, BadDigest}
use Rattle.audit_model.specs.First.{first_below}
use Rattle.audit_model.proofs.Options.{or_of_none, some_is_not_none, option_or_none, option_map_none, cond_some_none, cond_none}
use Rattle.audit_statement.specs.Checkpoint.{checkpoint_fault, number_at, outcome_size, stated_count, stated_version}
use Rattle.ckpt_format.specs.Faults.{length_fault, magic_fault, version_fault, generation_fault, outcome_count_fault, order_fault, digest_fault, head_fault, is_unordered}

-- ---- the first of several

-- the first fault is the same in two groups as in one
or_in_turn : {A : Type 0} (l m v g c o d : Option A)
    → option_or l (option_or m (option_or v (option_or g (option_or c (option_or o (option_or d None))))))
    ≡ option_or l (option_or (option_or m (option_or v (option_or g (option_or c None)))) (option_or o d))
or_in_turn (Some x) m v g c o d = refl
or_in_turn None (Some x) v g c o d = refl
or_in_turn None None (Some x) g c o d = refl
or_in_turn None None None (Some x) c o d = refl
or_in_turn None None None None (Some x) o d = refl
or_in_turn None None None None None (Some x) d = refl
or_in_turn None None None None None None (Some x) = refl
or_in_turn None None None None None None None = refl

-- the order of the tests: the length, the head, the order of ids, the digest
pub fault_is : (bytes : List ℕ) → checkpoint_fault bytes ≡ option_or (length_fault bytes) (option_or (head_fault bytes) (option_or (order_fault bytes (stated_count bytes)) (digest_fault bytes)))
unfolding checkpoint_fault
fault_is bytes = or_in_turn (length_fault bytes) (magic_fault bytes) (version_fault (stated_version bytes)) (generation_fault (number_at w32 44 bytes))
    (outcome_count_fault (stated_version bytes) (stated_count bytes) (length bytes)) (order_fault bytes (stated_count bytes)) (digest_fault bytes)

-- with too few bytes, the fault is their number
pub fault_of_few : (bytes : List ℕ) → length bytes < 84 → checkpoint_fault bytes ≡ Some (TooShort (length bytes))
fault_of_few bytes few =
    let rest = option_or (head_fault bytes) (option_or (order_fault bytes (stated_count bytes)) (digest_fault bytes)) in
    fault_is bytes ∙ ap (λ o. option_or o rest) (cond-true (nat_lt (length bytes) 84) (Some (TooShort (length bytes))) None (lt-ltb (length bytes) 84 few))

-- with enough bytes, the fault is the first of the others
pub fault_of_many : (bytes : List ℕ) → 84 ≤ length bytes
    → checkpoint_fault bytes ≡ option_or (head_fault bytes) (option_or (order_fault bytes (stated_count bytes)) (digest_fault bytes))
fault_of_many bytes many =
    let rest = option_or (head_fault bytes) (option_or (order_fault bytes (stated_count bytes)) (digest_fault bytes)) in
    fault_is bytes ∙ ap (λ o. option_or o rest) (cond-false (nat_lt (length bytes) 84) (Some (TooShort (length bytes))) None (le-ltb (length bytes) 84 many))

-- ---- no fault

-- if a test gives no fault, its condition holds
else_none : {A : Type 0} (b : Bool) (x : A) → cond b None (Some x) ≡ None → b ≡ true
else_none true x h = refl
else_none false x h = absurd (some_is_not_none x h)

-- the number of outcomes fits the number of bytes
pub count_is_right : (version count size : ℕ) → outcome_count_fault version count size ≡ None → (count ≤ 100000) × (size ≡ 84 + outcome_size version * count)
count_is_right version count size none =
    let right = 84 + outcome_size version * count in
    let parts = or_parts (nat_lt 100000 count) (not (size == right)) (cond_some_none _ (BadCount count size) none) in
    (ltb-false 100000 count parts.0, eqb-true size right (not-false (size == right) parts.1))

-- the version is 1 or 2
version_is_known : (version : ℕ) → version_fault version ≡ None → (version ≡ 1) ⊎ (version ≡ 2)
version_is_known version none = elim (either (version == 1) (version == 2) (else_none _ (BadVersion version) none)) [
  | inl one ↦ inl (eqb-true version 1 one)
  | inr two ↦ inr (eqb-true version 2 two)
]
  where
    either : (a b : Bool) → (a || b) ≡ true → (a ≡ true) ⊎ (b ≡ true)
    either true b h = inl refl
    either false b h = inr h

-- a head without a fault
pub record HasHead (bytes : List ℕ) : Type 0 where
  pub magic : take 8 bytes ≡ codes "DISTCKPT"
  pub version : (stated_version bytes ≡ 1) ⊎ (stated_version bytes ≡ 2)
  pub generation : number_at w32 44 bytes < 3
  pub few : stated_count bytes ≤ 100000
  pub size : length bytes ≡ 84 + outcome_size (stated_version bytes) * stated_count bytes

-- if the head has no fault, each condition on it holds
pub head_is_right : (bytes : List ℕ) → head_fault bytes ≡ None → HasHead bytes
head_is_right bytes none =
    let magic = option_or_none (magic_fault bytes) _ none in
    let version = option_or_none (version_fault (stated_version bytes)) _ magic.1 in
    let generation = option_or_none (generation_fault (number_at w32 44 bytes)) _ version.1 in
    let count = option_or_none (outcome_count_fault (stated_version bytes) (stated_count bytes) (length bytes)) None generation.1 in
    let right = count_is_right (stated_version bytes) (stated_count bytes) (length bytes) count.0 in
    let small : number_at w32 44 bytes ≤ 2 = ltb-false 2 (number_at w32 44 bytes) (cond_some_none _ (BadGeneration (number_at w32 44 bytes)) generation.0) in
    record {
      magic = (bytes_eq-Decides (take 8 bytes) (codes "DISTCKPT")).0 (else_none _ BadMagic magic.0);
      version = version_is_known (stated_version bytes) version.0;
      generation = omega (arith, small);
      few = right.0;
      size = right.1;
    }

-- bytes without a fault
pub record IsFaultless (bytes : List ℕ) : Type 0 where
  pub head : HasHead bytes
  pub ordered : first_below (stated_count bytes) (is_unordered bytes) ≡ None
  pub last : drop (length bytes - 32) bytes ≡ sha256 (take (length bytes - 32) bytes)

-- if bytes have no fault, each condition on them holds
pub IsFaultless-from_none : (bytes : List ℕ) → checkpoint_fault bytes ≡ None → IsFaultless bytes
IsFaultless-from_none bytes none =
    let tail = option_or (order_fault bytes (stated_count bytes)) (digest_fault bytes) in
    let long = option_or_none (length_fault bytes) (option_or (head_fault bytes) tail) (sym (fault_is bytes) ∙ none) in
    let head = option_or_none (head_fault bytes) tail long.1 in
    let order = option_or_none (order_fault bytes (stated_count bytes)) (digest_fault bytes) head.1 in
    let found = drop (length bytes - 32) bytes in
    let computed = sha256 (take (length bytes - 32) bytes) in
    record {
      head = head_is_right bytes head.0;
      ordered = option_map_none BadOrder (first_below (stated_count bytes) (is_unordered bytes)) order.0;
      last = (bytes_eq-Decides found computed).0 (else_none (bytes_eq found computed) (BadDigest found computed) order.1);
    }

-- if the condition of a test holds, it gives no fault
else_is_none : {A : Type 0} (b : Bool) (x : A) → b ≡ true → cond b None (Some x) ≡ None
else_is_none true x h = refl
else_is_none false x h = absurd (false≢true h)

-- a small number of outcomes that fits the number of bytes is no fault
no_count_fault : (version count size : ℕ) → count ≤ 100000 → size ≡ 84 + outcome_size version * count → outcome_count_fault version count size ≡ None
no_count_fault version count size few same =
    let right = 84 + outcome_size version * count in
    cond_none (nat_lt 100000 count || not (size == right)) (BadCount count size)
    (or_from (nat_lt 100000 count) (not (size == right)) (le-ltb 100000 count few) (not_from_true (size == right) (eq-eqb size right same)))

-- version 1 or 2 is no fault
no_version_fault : (version : ℕ) → (version ≡ 1) ⊎ (version ≡ 2) → version_fault version ≡ None
no_version_fault version (inl one) = subst (λ v. version_fault v ≡ None) (sym one) refl
no_version_fault version (inr two) = subst (λ v. version_fault v ≡ None) (sym two) refl

-- a head that meets its conditions has no fault
no_head_fault : (bytes : List ℕ) → HasHead bytes → head_fault bytes ≡ None
no_head_fault bytes head =
    or_of_none (magic_fault bytes) _ (else_is_none (bytes_eq (take 8 bytes) (codes "DISTCKPT")) BadMagic ((bytes_eq-Decides (take 8 bytes) (codes "DISTCKPT")).1 head.magic))
    (or_of_none (version_fault (stated_version bytes)) _ (no_version_fault (stated_version bytes) head.version)
    (or_of_none (generation_fault (number_at w32 44 bytes)) _
    (cond_none (nat_lt 2 (number_at w32 44 bytes)) (BadGeneration (number_at w32 44 bytes)) (le-ltb 2 (number_at w32 44 bytes) (omega (arith, head.generation))))
    (or_of_none (outcome_count_fault (stated_version bytes) (stated_count bytes) (length bytes)) None (no_count_fault (stated_version bytes) (stated_count bytes) (length bytes) head.few head.size) refl)))

-- bytes that meet all conditions have no fault
pub none-from_IsFaultless : (bytes : List ℕ) → IsFaultless bytes → checkpoint_fault bytes ≡ None
none-from_IsFaultless bytes right =
    let size = right.head.size in
    let found = drop (length bytes - 32) bytes in
    let computed = sha256 (take (length bytes - 32) bytes) in
    fault_of_many bytes (omega arith)
    ∙ or_of_none (head_fault bytes) _ (no_head_fault bytes right.head)
    (or_of_none (order_fault bytes (stated_count bytes)) (digest_fault bytes) (ap (option_map BadOrder) right.ordered)
    (else_is_none (bytes_eq found computed) (BadDigest found computed) ((bytes_eq-Decides found computed).1 right.last)))
