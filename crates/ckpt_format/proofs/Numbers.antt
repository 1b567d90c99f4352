-- Numbers and outcomes at offsets of some bytes.
use Rattle.std.proofs.Common.{◌≡◌, ℕ, ℤ, ◌+◌, ◌*◌, ◌<◌, ◌≤◌, ◌^◌, Bool, true, false, List, [], ◌∷◌, ◌++◌, length, get_or, refl, sym, ap, subst, ◌∙◌, arith, add-one, append_assoc, append-nil, length-append, lit≤, take, drop, ◌-◌}
use Rattle.std.specs.Prelude.{slice_range, FitsSigned, ⊤}
use Rattle.std.specs.List.{flat_map, AllByRecursion}
use Rattle.std.specs.Int.{w32, w64, to_be_bytes, from_be_bytes, cast_unsigned, cast_signed}
use Rattle.std.proofs.lemmas.Nat.{be_bytes_4, be_bytes_8, from_be_bytes-to_be_bytes_4, from_be_bytes-to_be_bytes_8}
use Rattle.std.proofs.Math.Facts.{Fits-of_z, sfits_to_z}
use Rattle.std.proofs.lemmas.Int.{of_z-to_z, to_z-of_z}
use Rattle.std.proofs.lemmas.List.{same_lists}
use Rattle.std.proofs.lemmas.List.Elements.{All-from_get_or, All-from_recursion, recursion_from_All}
use Rattle.audit_model.specs.Below.{map_below}
use Rattle.audit_model.specs.declared.outcome.Outcome.{Outcome}
use Rattle.audit_model.specs.Trajectory.{empty_histogram}
use Rattle.audit_model.proofs.Below.{length-map_below, get_or-map_below}
use Rattle.audit_statement.specs.Checkpoint.{IsOutcome, bin_bytes, number_at}
use Rattle.audit_statement.specs.Slots.{histogram_at}
use Rattle.ckpt_format.specs.Written.{bytes_by, size_by}
use Rattle.ckpt_format.proofs.Cutting.{AreBytes, join-parts, length-part, part-bytes, part-mid}
use Rattle.ckpt_format.proofs.Pieces.{piece_apart, pieces_joined}
use Rattle.ckpt_format.proofs.Sizes.{few_bytes, length-even_pieces}

-- the outcome at an offset, with or without a histogram
abbrev pub outcome_by : Bool → List ℕ → ℕ → Outcome
outcome_by with_histogram bytes at = record {
  id = number_at w32 at bytes;
  moved = number_at w64 (at + 4) bytes;
  values =
      cast_signed w64 (number_at w64 (at + 12) bytes) ∷ cast_signed w64 (number_at w64 (at + 20) bytes)
      ∷ cast_signed w64 (number_at w64 (at + 28) bytes) ∷ cast_signed w64 (number_at w64 (at + 36) bytes) ∷ [];
  bins = histogram_at with_histogram bytes (at + 44);
}

-- ---- bytes that are read and written again

-- four bytes are a number below 2 ^ 32
number_below_32 : (bs : List ℕ) → AreBytes bs → from_be_bytes w32 bs < 2 ^ 32
number_below_32 bs each = omega (arith, each 0, each 1, each 2, each 3)

-- eight bytes are a number below 2 ^ 64
number_below_64 : (bs : List ℕ) → AreBytes bs → from_be_bytes w64 bs < 2 ^ 64
number_below_64 bs each = omega (arith, each 0, each 1, each 2, each 3, each 4, each 5, each 6, each 7)

-- four bytes at an offset are a number below 2 ^ 32
pub number_at-below_32 : (bytes : List ℕ) (at : ℕ) → AreBytes bytes → number_at w32 at bytes < 2 ^ 32
number_at-below_32 bytes at each = number_below_32 (slice_range bytes at (at + 4)) (part-bytes bytes at (at + 4) each)

-- eight bytes at an offset are a number below 2 ^ 64
pub number_at-below_64 : (bytes : List ℕ) (at : ℕ) → AreBytes bytes → number_at w64 at bytes < 2 ^ 64
number_at-below_64 bytes at each = number_below_64 (slice_range bytes at (at + 8)) (part-bytes bytes at (at + 8) each)

-- a number read from four bytes is written as the same bytes
pub rewritten_32 : (bytes : List ℕ) (a b : ℕ) → AreBytes bytes → a + 4 ≡ b → b ≤ length bytes → to_be_bytes w32 (number_at w32 a bytes) ≡ slice_range bytes a b
rewritten_32 bytes a b each e l =
    let four : length (slice_range bytes a (a + 4)) ≡ 4 = length-part bytes a (a + 4) (omega arith) (omega arith) ∙ omega arith in
    be_bytes_4 (slice_range bytes a (a + 4)) (number_at w32 a bytes) four (part-bytes bytes a (a + 4) each) refl ∙ ap (slice_range bytes a) e

-- a number read from eight bytes is written as the same bytes
pub rewritten_64 : (bytes : List ℕ) (a b : ℕ) → AreBytes bytes → a + 8 ≡ b → b ≤ length bytes → to_be_bytes w64 (number_at w64 a bytes) ≡ slice_range bytes a b
rewritten_64 bytes a b each e l =
    let eight : length (slice_range bytes a (a + 8)) ≡ 8 = length-part bytes a (a + 8) (omega arith) (omega arith) ∙ omega arith in
    be_bytes_8 (slice_range bytes a (a + 8)) (number_at w64 a bytes) eight (part-bytes bytes a (a + 8) each) refl ∙ ap (slice_range bytes a) e

-- a signed number read from eight bytes is written as the same bytes
rewritten_signed : (bytes : List ℕ) (a b : ℕ) → AreBytes bytes → a + 8 ≡ b → b ≤ length bytes
    → to_be_bytes w64 (cast_unsigned w64 (cast_signed w64 (number_at w64 a bytes))) ≡ slice_range bytes a b
rewritten_signed bytes a b each e l =
    ap (to_be_bytes w64) (of_z-to_z w64 (number_at w64 a bytes) (number_at-below_64 bytes a each)) ∙ rewritten_64 bytes a b each e l

-- four slices in a row join
join_four : (xs : List ℕ) (a b c d e : ℕ) → a ≤ b → b ≤ c → c ≤ d → d ≤ e → e ≤ length xs
    → slice_range xs a b ++ (slice_range xs b c ++ (slice_range xs c d ++ (slice_range xs d e ++ []))) ≡ slice_range xs a e
join_four xs a b c d e ab bc cd de l =
    ap (λ (ys : List ℕ). slice_range xs a b ++ (slice_range xs b c ++ (slice_range xs c d ++ ys))) (append-nil (slice_range xs d e))
    ∙ ap (λ (ys : List ℕ). slice_range xs a b ++ (slice_range xs b c ++ ys)) (join-parts xs c d e cd de l)
    ∙ ap (λ (ys : List ℕ). slice_range xs a b ++ ys) (join-parts xs b c e bc (omega arith) l)
    ∙ join-parts xs a b e ab (omega arith) l

-- four values are written one after the other
values_of_four : (f : ℤ → List ℕ) (v w x y : ℤ) (a b c d : List ℕ) → f v ≡ a → f w ≡ b → f x ≡ c → f y ≡ d
    → flat_map f (v ∷ w ∷ x ∷ y ∷ []) ≡ a ++ (b ++ (c ++ (d ++ [])))
values_of_four f v w x y a b c d p q r s = rw (p, q, r, s)

-- a histogram that is read is written as the same bytes
rewritten_histogram : (with_histogram : Bool) (bytes : List ℕ) (a b : ℕ) → AreBytes bytes → a + 44 ≡ b → a + size_by with_histogram ≤ length bytes
    → bin_bytes with_histogram (histogram_at with_histogram bytes b) ≡ slice_range bytes b (a + size_by with_histogram)
rewritten_histogram true bytes a b each e l =
    let number = λ (k : ℕ). number_at w32 (b + 4 * k) bytes in
    let joined = pieces_joined (to_be_bytes w32) number 4 b 9 bytes
    (λ k m. rewritten_32 bytes (b + 4 * k) (b + 4 * (k + 1)) each (omega arith) (omega arith) ∙ ap (λ c. slice_range bytes (b + 4 * k) (b + 4 * c)) (add-one k)) (omega arith) in
    joined ∙ ap (slice_range bytes b) (omega arith)
rewritten_histogram false bytes a b each e l = let none : 0 ≡ a + 44 - b = omega arith in ap (λ m. take m (drop b bytes)) none

-- an outcome without its histogram is written as the same bytes
rewritten_without_histogram : (bytes : List ℕ) (a b : ℕ) → AreBytes bytes → a + 44 ≡ b → b ≤ length bytes
    → (let o = outcome_by false bytes a in to_be_bytes w32 o.id ++ to_be_bytes w64 o.moved ++ flat_map (λ v. to_be_bytes w64 (cast_unsigned w64 v)) o.values) ≡ slice_range bytes a b
rewritten_without_histogram bytes a b each e l =
    let value = λ (k : ℕ). cast_signed w64 (number_at w64 k bytes) in
    let spelled = λ (v : ℤ). to_be_bytes w64 (cast_unsigned w64 v) in
    let values : flat_map spelled (value (a + 12) ∷ value (a + 20) ∷ value (a + 28) ∷ value (a + 36) ∷ []) ≡ slice_range bytes (a + 12) b =
    values_of_four spelled (value (a + 12)) (value (a + 20)) (value (a + 28)) (value (a + 36)) _ _ _ _
    (rewritten_signed bytes (a + 12) (a + 20) each (omega arith) (omega arith)) (rewritten_signed bytes (a + 20) (a + 28) each (omega arith) (omega arith))
    (rewritten_signed bytes (a + 28) (a + 36) each (omega arith) (omega arith)) (rewritten_signed bytes (a + 36) b each (omega arith) l)
    ∙ join_four bytes (a + 12) (a + 20) (a + 28) (a + 36) b (omega arith) (omega arith) (omega arith) (omega arith) l in
    let id = rewritten_32 bytes a (a + 4) each refl (omega arith) in
    let moved = rewritten_64 bytes (a + 4) (a + 12) each (omega arith) (omega arith) in
    joined _ _ _ _ _ _ id moved values
    ∙ ap (λ (ys : List ℕ). ys ++ slice_range bytes (a + 12) b) (join-parts bytes a (a + 4) (a + 12) (omega arith) (omega arith) (omega arith))
    ∙ join-parts bytes a (a + 12) b (omega arith) (omega arith) l
  where
    joined : (x y z p q r : List ℕ) → x ≡ p → y ≡ q → z ≡ r → x ++ y ++ z ≡ p ++ q ++ r
    joined x y z p q r i m v = rw (i, m, v)

-- an outcome that is read is written as the same bytes
pub rewritten_outcome : (with_histogram : Bool) (bytes : List ℕ) (a b : ℕ) → AreBytes bytes → a + size_by with_histogram ≡ b → b ≤ length bytes
    → bytes_by with_histogram (outcome_by with_histogram bytes a) ≡ slice_range bytes a b
rewritten_outcome with_histogram bytes a b each e l =
    let few = few_bytes with_histogram in
    let o = outcome_by with_histogram bytes a in
    let bins = bin_bytes with_histogram o.bins in
    ap (λ (ys : List ℕ). ys ++ bins) (rewritten_without_histogram bytes a (a + 44) each refl (omega (arith, few.0)))
    ∙ ap (λ (ys : List ℕ). slice_range bytes a (a + 44) ++ ys) (rewritten_histogram with_histogram bytes a (a + 44) each refl (omega arith))
    ∙ join-parts bytes a (a + 44) (a + size_by with_histogram) (omega arith) (omega (arith, few.0)) (omega arith)
    ∙ ap (slice_range bytes a) e

-- an outcome that is read has fields within their bounds
pub outcome_by-IsOutcome : (with_histogram : Bool) (bytes : List ℕ) (a : ℕ) → AreBytes bytes → IsOutcome (outcome_by with_histogram bytes a)
outcome_by-IsOutcome with_histogram bytes a each = record {
  id = number_at-below_32 bytes a each;
  moved = number_at-below_64 bytes (a + 4) each;
  four = refl;
  values = (fits (a + 12), (fits (a + 20), (fits (a + 28), (fits (a + 36), tt))));
  nine = nine with_histogram;
  bins = below with_histogram;
}
  where
    fits : (k : ℕ) → FitsSigned w64 (cast_signed w64 (number_at w64 k bytes))
    fits k = sfits_to_z {w = w64} {n = number_at w64 k bytes} (record { fits = number_at-below_64 bytes k each })

    nine : (b : Bool) → length (histogram_at b bytes (a + 44)) ≡ 9
    nine true = refl
    nine false = refl

    below : (b : Bool) → AllByRecursion (λ n. n < 2 ^ 32) (histogram_at b bytes (a + 44))
    below true =
        let number = λ (i : ℕ). number_at w32 (a + 44 + 4 * i) bytes in
        let each_below : (k : ℕ) → k < 9 → get_or (map_below 9 number) k 0 < 2 ^ 32 =
        λ k l. subst (λ n. n < 2 ^ 32) (sym (get_or-map_below 9 number k 0 l)) (number_at-below_32 bytes (a + 44 + 4 * k) each) in
        recursion_from_All (λ n. n < 2 ^ 32) (map_below 9 number) (All-from_get_or (λ n. n < 2 ^ 32) (map_below 9 number) 0 each_below)
    below false = (lit≤ tt, (lit≤ tt, (lit≤ tt, (lit≤ tt, (lit≤ tt, (lit≤ tt, (lit≤ tt, (lit≤ tt, (lit≤ tt, tt)))))))))

-- ---- numbers that are written and read again

-- a number written as four bytes is read back
pub reread_32 : (p q : List ℕ) (n a : ℕ) → n < 2 ^ 32 → length p ≡ a → number_at w32 a (p ++ (to_be_bytes w32 n ++ q)) ≡ n
reread_32 p q n a l e =
    ap (number_at w32 a) (sym (append_assoc p (to_be_bytes w32 n) q))
    ∙ ap (from_be_bytes w32) (part-mid p (to_be_bytes w32 n) q a (a + 4) e refl) ∙ from_be_bytes-to_be_bytes_4 n l

-- a number written as eight bytes is read back
pub reread_64 : (p q : List ℕ) (n a : ℕ) → n < 2 ^ 64 → length p ≡ a → number_at w64 a (p ++ (to_be_bytes w64 n ++ q)) ≡ n
reread_64 p q n a l e =
    ap (number_at w64 a) (sym (append_assoc p (to_be_bytes w64 n) q))
    ∙ ap (from_be_bytes w64) (part-mid p (to_be_bytes w64 n) q a (a + 8) e refl) ∙ from_be_bytes-to_be_bytes_8 n l

abbrev spelled : ℤ → List ℕ
spelled v = to_be_bytes w64 (cast_unsigned w64 v)

abbrev value_at : ℕ → List ℕ → ℤ
value_at a bytes = cast_signed w64 (number_at w64 a bytes)

-- a signed value is read back
reread_value : (p q : List ℕ) (v : ℤ) (a : ℕ) → FitsSigned w64 v → length p ≡ a → value_at a (p ++ (spelled v ++ q)) ≡ v
reread_value p q v a fits e =
    let small = (Fits-of_z {w = w64} {z = v} fits).fits in
    ap (cast_signed w64) (reread_64 p q (cast_unsigned w64 v) a small e) ∙ to_z-of_z w64 v fits

-- the second of four values, split from those around it
second_of : (p v w x y q : List ℕ) → p ++ ((v ++ (w ++ (x ++ (y ++ [])))) ++ q) ≡ (p ++ v) ++ (w ++ (x ++ (y ++ q)))
second_of p v w x y q = simp append_assoc

-- the third of four values, split from those around it
third_of : (p v w x y q : List ℕ) → p ++ ((v ++ (w ++ (x ++ (y ++ [])))) ++ q) ≡ (p ++ v ++ w) ++ (x ++ (y ++ q))
third_of p v w x y q = simp append_assoc

-- the fourth of four values, split from those around it
fourth_of : (p v w x y q : List ℕ) → p ++ ((v ++ (w ++ (x ++ (y ++ [])))) ++ q) ≡ (p ++ v ++ w ++ x) ++ (y ++ q)
fourth_of p v w x y q = simp append_assoc

-- the first of four values, split from those around it
first_of : (p v w x y q : List ℕ) → p ++ ((v ++ (w ++ (x ++ (y ++ [])))) ++ q) ≡ p ++ (v ++ (w ++ (x ++ (y ++ q))))
first_of p v w x y q = simp append_assoc

-- four values are read back
reread_values : (p q : List ℕ) (vs : List ℤ) (a b c d : ℕ) → length vs ≡ 4 → AllByRecursion (FitsSigned w64) vs → length p ≡ a → a + 8 ≡ b → b + 8 ≡ c → c + 8 ≡ d
    → value_at a (p ++ (flat_map spelled vs ++ q)) ∷ value_at b (p ++ (flat_map spelled vs ++ q)) ∷ value_at c (p ++ (flat_map spelled vs ++ q)) ∷ value_at d (p ++ (flat_map spelled vs ++ q)) ∷ [] ≡ vs
reread_values p q [] a b c d four fits e f g h = absurd (omega arith)
reread_values p q (v ∷ []) a b c d four fits e f g h = absurd (omega arith)
reread_values p q (v ∷ w ∷ []) a b c d four fits e f g h = absurd (omega arith)
reread_values p q (v ∷ w ∷ x ∷ []) a b c d four fits e f g h = absurd (omega arith)
reread_values p q (v ∷ w ∷ x ∷ y ∷ z ∷ zs) a b c d four fits e f g h = absurd (omega arith)
reread_values p q (v ∷ w ∷ x ∷ y ∷ []) a b c d four fits e f g h =
    let first = ap (value_at a) (first_of p (spelled v) (spelled w) (spelled x) (spelled y) q) ∙ reread_value p _ v a fits.0 e in
    let second = ap (value_at b) (second_of p (spelled v) (spelled w) (spelled x) (spelled y) q)
    ∙ reread_value (p ++ spelled v) _ w b fits.1.0 (length-append p (spelled v) ∙ ap (λ n. n + 8) e ∙ f) in
    let third = ap (value_at c) (third_of p (spelled v) (spelled w) (spelled x) (spelled y) q)
    ∙ reread_value (p ++ spelled v ++ spelled w) _ x c fits.1.1.0
    (length-append (p ++ spelled v) (spelled w) ∙ ap (λ n. n + 8) (length-append p (spelled v) ∙ ap (λ n. n + 8) e ∙ f) ∙ g) in
    let fourth = ap (value_at d) (fourth_of p (spelled v) (spelled w) (spelled x) (spelled y) q)
    ∙ reread_value (p ++ spelled v ++ spelled w ++ spelled x) _ y d fits.1.1.1.0
    (length-append (p ++ spelled v ++ spelled w) (spelled x)
    ∙ ap (λ n. n + 8) (length-append (p ++ spelled v) (spelled w) ∙ ap (λ n. n + 8) (length-append p (spelled v) ∙ ap (λ n. n + 8) e ∙ f) ∙ g) ∙ h) in
    four_same _ _ _ _ _ _ _ _ first second third fourth
  where
    four_same : (a b c d v w x y : ℤ) → a ≡ v → b ≡ w → c ≡ x → d ≡ y → a ∷ b ∷ c ∷ d ∷ [] ≡ v ∷ w ∷ x ∷ y ∷ []
    four_same a b c d v w x y i j k l = rw (i, j, k, l)

-- a list of numbers is read back
reread_numbers : (p q ns : List ℕ) (a : ℕ) → AllByRecursion (λ n. n < 2 ^ 32) ns → length p ≡ a
    → map_below (length ns) (λ k. number_at w32 (a + 4 * k) (p ++ (flat_map (to_be_bytes w32) ns ++ q))) ≡ ns
reread_numbers p q ns a each e =
    let number = λ (k : ℕ). number_at w32 (a + 4 * k) (p ++ (flat_map (to_be_bytes w32) ns ++ q)) in
    let many = length-map_below (length ns) number in
    same_lists (map_below (length ns) number) ns many (λ k d l.
    let inside : k < length ns = omega (arith, many) in
    let apart = piece_apart (to_be_bytes w32) 4 p q ns a k d (all_four ns) e inside in
    get_or-map_below (length ns) number k d inside
    ∙ ap (number_at w32 (a + 4 * k)) apart.spelled
    ∙ reread_32 apart.front apart.back (get_or ns k d) (a + 4 * k) (All-from_recursion (λ n. n < 2 ^ 32) ns each k d inside) apart.size)
  where
    all_four : (ns : List ℕ) → AllByRecursion (λ n. length (to_be_bytes w32 n) ≡ 4) ns
    all_four [] = tt
    all_four (n ∷ ns) = (refl, all_four ns)

-- a histogram that is not written is 0
abbrev pub AreStorable : Bool → List ℕ → Type 0
AreStorable true bins = ⊤
AreStorable false bins = bins ≡ empty_histogram

-- a written histogram is read back, and one that is not written is 0
reread_histogram : (with_histogram : Bool) (p q bins : List ℕ) (a : ℕ) → length bins ≡ 9 → AllByRecursion (λ n. n < 2 ^ 32) bins → AreStorable with_histogram bins → length p ≡ a
    → histogram_at with_histogram (p ++ (bin_bytes with_histogram bins ++ q)) a ≡ bins
reread_histogram true p q bins a nine each storable e =
    ap (λ n. map_below n (λ k. number_at w32 (a + 4 * k) (p ++ (flat_map (to_be_bytes w32) bins ++ q)))) (sym nine) ∙ reread_numbers p q bins a each e
reread_histogram false p q bins a nine each storable e = sym storable

-- the id of an outcome, split from the rest
outcome_apart : (p i m v b q : List ℕ) → p ++ (i ++ m ++ v ++ b ++ q) ≡ p ++ (i ++ (m ++ (v ++ (b ++ q))))
outcome_apart p i m v b q = simp append_assoc

-- the moves of an outcome, split from the rest
moved_apart : (p i m v b q : List ℕ) → p ++ (i ++ m ++ v ++ b ++ q) ≡ (p ++ i) ++ (m ++ (v ++ (b ++ q)))
moved_apart p i m v b q = simp append_assoc

-- the values of an outcome, split from the rest
values_apart : (p i m v b q : List ℕ) → p ++ (i ++ m ++ v ++ b ++ q) ≡ (p ++ i ++ m) ++ (v ++ (b ++ q))
values_apart p i m v b q = simp append_assoc

-- the histogram of an outcome, split from the rest
histogram_apart : (p i m v b q : List ℕ) → p ++ (i ++ m ++ v ++ b ++ q) ≡ (p ++ i ++ m ++ v) ++ (b ++ q)
histogram_apart p i m v b q = simp append_assoc

-- outcomes with equal parts are equal
same_outcome : (i j m n : ℕ) (v w : List ℤ) (b c : List ℕ) → i ≡ j → m ≡ n → v ≡ w → b ≡ c
    → let left : Outcome = record { id = i; moved = m; values = v; bins = b } in let right : Outcome = record { id = j; moved = n; values = w; bins = c } in left ≡ right
same_outcome i j m n v w b c e f g h = rw (e, f, g, h)

-- a written outcome is read back
pub reread_outcome : (with_histogram : Bool) (p q : List ℕ) (o : Outcome) (a : ℕ) → IsOutcome o → AreStorable with_histogram o.bins → length p ≡ a
    → outcome_by with_histogram (p ++ (bytes_by with_histogram o ++ q)) a ≡ o
reread_outcome with_histogram p q o a is storable e =
    let i = to_be_bytes w32 o.id in
    let m = to_be_bytes w64 o.moved in
    let v = flat_map spelled o.values in
    let b = bin_bytes with_histogram o.bins in
    let four : length (p ++ i) ≡ a + 4 = length-append p i ∙ ap (λ n. n + 4) e in
    let twelve : length (p ++ i ++ m) ≡ a + 12 = length-append (p ++ i) m ∙ ap (λ n. n + 8) four ∙ omega arith in
    let all : length (p ++ i ++ m ++ v) ≡ a + 44 = omega (arith, length-append (p ++ i ++ m) v, twelve, length-even_pieces spelled 8 o.values (λ n. refl), is.four) in
    let id = ap (number_at w32 a) (outcome_apart p i m v b q) ∙ reread_32 p (m ++ (v ++ (b ++ q))) o.id a is.id e in
    let moved = ap (number_at w64 (a + 4)) (moved_apart p i m v b q) ∙ reread_64 (p ++ i) (v ++ (b ++ q)) o.moved (a + 4) is.moved four in
    let values = ap (λ (bytes : List ℕ). value_at (a + 12) bytes ∷ value_at (a + 20) bytes ∷ value_at (a + 28) bytes ∷ value_at (a + 36) bytes ∷ []) (values_apart p i m v b q)
    ∙ reread_values (p ++ i ++ m) (b ++ q) o.values (a + 12) (a + 20) (a + 28) (a + 36) is.four is.values twelve (omega arith) (omega arith) (omega arith) in
    let bins = ap (λ (bytes : List ℕ). histogram_at with_histogram bytes (a + 44)) (histogram_apart p i m v b q) ∙ reread_histogram with_histogram (p ++ i ++ m ++ v) q o.bins (a + 44) is.nine is.bins storable all in
    same_outcome _ _ _ _ _ _ _ _ id moved values bins
