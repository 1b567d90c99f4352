-- The greater neighbors of a unit are those of its neighbor list, in the same order.
use Rattle.std.proofs.Common.{◌≡◌, ℕ, zero, suc, ◌+◌, ◌<◌, ◌≤◌, Bool, true, false, cond, List, [], ◌∷◌, ◌++◌, length, get_or, take, refl, sym, ap, subst, inl, inr, ◌∙◌, arith, add-one, append-nil}
use Rattle.std.specs.Prelude.{◌&&◌, nat_lt}
use Rattle.std.specs.List.{filter, flat_map, slice_index_or}
use Rattle.std.proofs.lemmas.Bool.{and_right, cases_eq, cases_lt, false_from_ne_true, le-ltb, lt-ltb}
use Rattle.std.proofs.lemmas.List.{flat_map_more, take_all}
use Rattle.std.proofs.lemmas.List.Elements.{filter_more}
use Rattle.sha2.specs.declared.Sha256.{Sha256}
use Rattle.audit_model.specs.Below.{filter_below}
use Rattle.audit_model.specs.Graph.{Graph, IsGraph, has}
use Rattle.audit_model.proofs.Below.{filter_below_cut}
use Rattle.audit_model.proofs.ListFacts.{has_at, at_has}
use Rattle.ckpt_format.specs.Hashed.{Hashes, edges_from, pair_bytes}
use Rattle.ckpt_format.proofs.Hashing.{hashes_same, hashes_then}

-- each number of the list is above the one before it
abbrev pub Rises : List ℕ → Type 0
Rises row = (k : ℕ) → k + 1 < length row → get_or row k 0 < get_or row (k + 1) 0

-- in a rising list a later number is greater
rises_far : (row : List ℕ) (j k : ℕ) → Rises row → j < k → k < length row → get_or row j 0 < get_or row k 0
rises_far row j zero rises l m = absurd (omega arith)
rises_far row j (suc k) rises l m =
    let one : get_or row k 0 < get_or row (suc k) 0 = subst (λ n. get_or row k 0 < get_or row n 0) (add-one k) (rises k (omega arith)) in
    elim (cases_eq j k) [
      | inl e ↦ subst (λ n. get_or row n 0 < get_or row (suc k) 0) (sym e) one
      | inr off ↦ let before = rises_far row j k rises (omega arith) (omega arith) in omega (arith, before, one)
    ]

-- a number that stands at no place of the list is not a member
is_missing : (row : List ℕ) (n : ℕ) → ((k : ℕ) → k < length row → get_or row k 0 ≡ n → ⊥) → has row n ≡ false
is_missing row n none = false_from_ne_true (has row n) (λ h. let at = has_at row n h in none at.0 at.1 at.2)

-- the numbers below a bound that pass and are in the list, if the bound lies between two places
listed_below : (test : ℕ → Bool) (row : List ℕ) (i b : ℕ) → Rises row → i ≤ length row → ((k : ℕ) → k < i → get_or row k 0 < b)
    → ((k : ℕ) → i ≤ k → k < length row → b ≤ get_or row k 0) → filter_below b (λ v. test v && has row v) ≡ filter test (take i row)
listed_below test row zero b rises l below above =
    filter_below_cut (λ v. test v && has row v) 0 b (omega arith) (λ k m r. and_right (test k) (has row k) (is_missing row k (λ j s e. omega (arith, above j (omega arith) s, e))))
listed_below test row (suc i) b rises l below above =
    let x = get_or row i 0 in
    let passes = λ (v : ℕ). test v && has row v in
    let inside : x < b = below i (omega arith) in
    let earlier : (k : ℕ) → k < i → get_or row k 0 < x = λ k m. rises_far row k i rises m (omega arith) in
    let later : (k : ℕ) → i < k → k < length row → b ≤ get_or row k 0 = λ k m r. above k (omega arith) r in
    let none : (k : ℕ) → suc x ≤ k → k < b → passes k ≡ false = λ k m r. and_right (test k) (has row k) (is_missing row k (λ j s e. elim (cases_lt i j) [
      | inl far ↦ omega (arith, later j far s, e)
      | inr near ↦
          elim (cases_eq j i) [
            | inl here ↦ let same : get_or row j 0 ≡ x = ap (λ n. get_or row n 0) here in omega (arith, same, e)
            | inr off ↦ omega (arith, earlier j (omega arith), e)
          ]
    ])) in
    let before : filter_below x passes ≡ filter test (take i row) = listed_below test row i x rises (omega arith) earlier (λ k m r. elim (cases_eq k i) [
      | inl here ↦ let same : get_or row k 0 ≡ x = ap (λ n. get_or row n 0) here in omega (arith, same)
      | inr off ↦ let far = rises_far row i k rises (omega arith) r in omega (arith, far)
    ]) in
    let found : passes x ≡ test x = ap (λ b. test x && b) (at_has row i (omega arith)) ∙ and_true (test x) in
    filter_below_cut passes (suc x) b (omega arith) none
    ∙ ap (λ (ys : List ℕ). ys ++ cond (passes x) (x ∷ []) []) before
    ∙ ap (λ b. filter test (take i row) ++ cond b (x ∷ []) []) found
    ∙ sym (filter_more test row i 0 (omega arith))
    ∙ ap (λ n. filter test (take n row)) (add-one i)
  where
    and_true : (b : Bool) → (b && true) ≡ b
    and_true true = refl
    and_true false = refl

-- the numbers below a bound that pass and are in a list of smaller numbers
pub filter_below-listed : (test : ℕ → Bool) (row : List ℕ) (n : ℕ) → Rises row → ((k : ℕ) → k < length row → get_or row k 0 < n)
    → filter_below n (λ v. test v && has row v) ≡ filter test row
filter_below-listed test row n rises below =
    listed_below test row (length row) n rises (omega arith) below (λ k m r. absurd (omega arith)) ∙ ap (filter test) (take_all (length row) row (omega arith))

-- ---- the edges hashed so far

abbrev pub greater : ℕ → List ℕ → List ℕ
greater u row = flat_map (pair_bytes u) (filter (nat_lt u) row)

-- a greater neighbor is hashed
pub hashes_edge : (u : ℕ) (row : List ℕ) (i : ℕ) (a b c : Sha256) → i < length row → u < get_or row i 0
    → Hashes a b (greater u (take i row)) → Hashes b c (pair_bytes u (get_or row i 0)) → Hashes a c (greater u (take (i + 1) row))
hashes_edge u row i a b c l less first second =
    let x = get_or row i 0 in
    let next : greater u (take i row) ++ pair_bytes u x ≡ greater u (take (i + 1) row) =
    flat_map_more (pair_bytes u) [] (filter (nat_lt u) (take i row)) x
    ∙ ap (flat_map (pair_bytes u)) (sym (filter_more (nat_lt u) row i 0 l ∙ ap (λ b. filter (nat_lt u) (take i row) ++ cond b (x ∷ []) []) (lt-ltb u x less))) in
    hashes_same a c _ _ next (hashes_then a b c (greater u (take i row)) (pair_bytes u x) first second)

-- a neighbor that is not greater is skipped
pub hashes_no_edge : (u : ℕ) (row : List ℕ) (i : ℕ) (a b : Sha256) → i < length row → get_or row i 0 ≤ u
    → Hashes a b (greater u (take i row)) → Hashes a b (greater u (take (i + 1) row))
hashes_no_edge u row i a b l less first =
    let x = get_or row i 0 in
    let next : greater u (take i row) ≡ greater u (take (i + 1) row) =
    ap (flat_map (pair_bytes u)) (sym (filter_more (nat_lt u) row i 0 l ∙ ap (λ b. filter (nat_lt u) (take i row) ++ cond b (x ∷ []) []) (le-ltb u x less) ∙ append-nil (filter (nat_lt u) (take i row)))) in
    hashes_same a b _ _ next first

-- the greater neighbors in a unit's list are its edges to greater units
pub edges_are_greater : (g : Graph) (u : ℕ) → IsGraph g → greater u (slice_index_or g.neighbours u []) ≡ edges_from g u
edges_are_greater g u sound =
    let row = slice_index_or g.neighbours u [] in
    ap (flat_map (pair_bytes u)) (sym (filter_below-listed (nat_lt u) row g.units (λ k l. sound.rising u k l) (λ k l. sound.below u (get_or row k 0) (at_has row k l))))
