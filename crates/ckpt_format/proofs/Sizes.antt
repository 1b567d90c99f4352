-- The numbers of bytes of a checkpoint's parts.
use Rattle.std.proofs.Common.{◌≡◌, ℕ, ◌+◌, ◌*◌, ◌<◌, ◌≤◌, Bool, true, false, List, [], ◌∷◌, ◌++◌, length, take, ap, refl, arith, length-append, ◌∙◌}
use Rattle.std.proofs.lemmas.List.{length-take-le}
use Rattle.std.proofs.Math.Nat.{mul-le-mul_left, mul-add}
use Rattle.std.specs.List.{flat_map, AllByRecursion}
use Rattle.std.specs.Int.{w32, w64, to_be_bytes, cast_unsigned}
use Rattle.sha2.specs.Sha256.{sha256}
use Rattle.sha2.proofs.Facts256.{length-sha256}
use Rattle.audit_model.specs.Room.{RoomyBytes}
use Rattle.audit_model.specs.declared.outcome.Outcome.{Outcome}
use Rattle.audit_statement.specs.Checkpoint.{IsOutcome, bin_bytes, checkpoint, checkpoint_body, has_histogram, outcome_bytes, outcome_size, outcome_start, stated_version}
use Rattle.ckpt_format.specs.Written.{AppendsBytes, bytes_by, head_bytes, size_by}

-- the length of joined pieces of equal length
pub length-pieces : {X : Type 0} (f : X → List ℕ) (n : ℕ) (xs : List X) → AllByRecursion (λ x. length (f x) ≡ n) xs → length (flat_map f xs) ≡ n * length xs
length-pieces f n [] each = omega arith
length-pieces f n (x ∷ xs) each =
    let rest = length-pieces f n xs each.1 in
    let one : length (f x) ≡ n = each.0 in
    omega (arith, rest, one, length-append (f x) (flat_map f xs))

-- the length of joined pieces whose length does not depend on the item
pub length-even_pieces : {X : Type 0} (f : X → List ℕ) (n : ℕ) (xs : List X) → ((x : X) → length (f x) ≡ n) → length (flat_map f xs) ≡ n * length xs
length-even_pieces f n [] each = omega arith
length-even_pieces f n (x ∷ xs) each =
    let rest = length-even_pieces f n xs each in
    let one : length (f x) ≡ n = each x in
    omega (arith, rest, one, length-append (f x) (flat_map f xs))

-- the capacity left for the rest of the pieces
pub room_for_next : {X : Type 0} (f : X → List ℕ) (n : ℕ) (xs : List X) (i : ℕ) (a b : RoomyBytes) → i < length xs
    → length (flat_map f (take i xs)) ≡ n * length (take i xs) → n * length xs ≤ a.spare → AppendsBytes a b (flat_map f (take i xs)) → n ≤ b.spare
room_for_next f n xs i a b l even room done =
    let part : length (take i xs) ≡ i = length-take-le i xs (omega arith) in
    let used : length (flat_map f (take i xs)) ≡ n * i = rw part at even in
    let next : n * (i + 1) ≤ n * length xs = mul-le-mul_left n (omega arith) in
    omega (arith, used, next, mul-add n i 1, done.spare)

-- the length of an outcome without its histogram
pub length-bytes_without_histogram : (o : Outcome) → length o.values ≡ 4
    → length (to_be_bytes w32 o.id ++ to_be_bytes w64 o.moved ++ flat_map (λ v. to_be_bytes w64 (cast_unsigned w64 v)) o.values) ≡ 44
length-bytes_without_histogram o four =
    let values = length-even_pieces (λ v. to_be_bytes w64 (cast_unsigned w64 v)) 8 o.values (λ v. refl) in
    let head : length (to_be_bytes w32 o.id ++ to_be_bytes w64 o.moved) ≡ 12 = refl in
    omega (arith, four, values, head, length-append (to_be_bytes w32 o.id ++ to_be_bytes w64 o.moved) (flat_map (λ v. to_be_bytes w64 (cast_unsigned w64 v)) o.values))

-- the length of a histogram, with the rest of an outcome
length-bin_bytes : (with_histogram : Bool) (bins : List ℕ) → length bins ≡ 9 → 44 + length (bin_bytes with_histogram bins) ≡ size_by with_histogram
length-bin_bytes true bins nine = let numbers = length-even_pieces (to_be_bytes w32) 4 bins (λ n. refl) in omega (arith, nine, numbers)
length-bin_bytes false bins nine = refl

-- the length of an outcome of four values and nine histogram counts
pub length-bytes_of : (with_histogram : Bool) (o : Outcome) → length o.values ≡ 4 → length o.bins ≡ 9 → length (bytes_by with_histogram o) ≡ size_by with_histogram
length-bytes_of with_histogram o four nine =
    let without_histogram = length-bytes_without_histogram o four in
    let bins = length-bin_bytes with_histogram o.bins nine in
    omega (arith, without_histogram, bins, length-append (to_be_bytes w32 o.id ++ to_be_bytes w64 o.moved ++ flat_map (λ v. to_be_bytes w64 (cast_unsigned w64 v)) o.values) (bin_bytes with_histogram o.bins))

-- the length of an outcome
pub length-bytes_by : (with_histogram : Bool) (o : Outcome) → IsOutcome o → length (bytes_by with_histogram o) ≡ size_by with_histogram
length-bytes_by with_histogram o is = length-bytes_of with_histogram o is.four is.nine

-- an outcome has 44 to 80 bytes
pub few_bytes : (with_histogram : Bool) → (44 ≤ size_by with_histogram) × (size_by with_histogram ≤ 80)
few_bytes true = (omega arith, omega arith)
few_bytes false = (omega arith, omega arith)

-- the lengths of several outcomes
pub each_sized : (with_histogram : Bool) (outcomes : List Outcome) → AllByRecursion IsOutcome outcomes → AllByRecursion (λ o. length (bytes_by with_histogram o) ≡ size_by with_histogram) outcomes
each_sized with_histogram [] each = tt
each_sized with_histogram (o ∷ os) each = (length-bytes_by with_histogram o each.0, each_sized with_histogram os each.1)

-- the length of all outcomes
pub length-outcomes : (version : ℕ) (outcomes : List Outcome) → AllByRecursion IsOutcome outcomes
    → length (flat_map (outcome_bytes version) outcomes) ≡ outcome_size version * length outcomes
length-outcomes version outcomes each =
    length-pieces (outcome_bytes version) (outcome_size version) outcomes (each_sized (has_histogram version) outcomes each)

-- the length of the head
pub length-head_bytes : (version : ℕ) (digest : List ℕ) (generation count : ℕ) → length digest ≡ 32 → length (head_bytes version digest generation count) ≡ 52
length-head_bytes version digest generation count wide =
    let first : length (digest ++ to_be_bytes w32 generation) ≡ 36 = length-append digest (to_be_bytes w32 generation) ∙ ap (λ n. n + 4) wide in
    let both : length (digest ++ to_be_bytes w32 generation ++ to_be_bytes w32 count) ≡ 40 =
    length-append (digest ++ to_be_bytes w32 generation) (to_be_bytes w32 count) ∙ ap (λ n. n + 4) first in
    omega (arith, both)

-- an outcome starts within the bytes if a later one does
pub starts_within : (bytes : List ℕ) (k n : ℕ) → k ≤ n → outcome_start bytes n ≤ length bytes → outcome_start bytes k ≤ length bytes
starts_within bytes k n l room = omega (arith, mul-le-mul_left (outcome_size (stated_version bytes)) l, room)

-- the length of a checkpoint without its digest
pub length-checkpoint_body : (version : ℕ) (digest : List ℕ) (generation : ℕ) (outcomes : List Outcome) → length digest ≡ 32 → AllByRecursion IsOutcome outcomes
    → length (checkpoint_body version digest generation outcomes) ≡ 52 + outcome_size version * length outcomes
length-checkpoint_body version digest generation outcomes wide each =
    let whole = length-append (head_bytes version digest generation (length outcomes)) (flat_map (outcome_bytes version) outcomes) in
    omega (arith, whole, length-head_bytes version digest generation (length outcomes) wide, length-outcomes version outcomes each)

-- the length of a checkpoint
pub length-checkpoint : (version : ℕ) (digest : List ℕ) (generation : ℕ) (outcomes : List Outcome) → length digest ≡ 32 → AllByRecursion IsOutcome outcomes
    → length (checkpoint version digest generation outcomes) ≡ 84 + outcome_size version * length outcomes
unfolding checkpoint
length-checkpoint version digest generation outcomes wide each =
    let body = checkpoint_body version digest generation outcomes in
    let whole = length-append body (sha256 body) in
    omega (arith, whole, length-checkpoint_body version digest generation outcomes wide each, length-sha256 body)
