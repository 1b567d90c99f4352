-- With different ids, no endpoint of a prefix is missing exactly if the count equals the prefix's length.
use Rattle.std.proofs.Common.{◌≡◌, ℕ, zero, suc, ◌+◌, ◌<◌, Bool, true, false, cond, ◌&&◌, ◌||◌, ◌==◌, List, [], ◌∷◌, length, refl, sym, ap, ◌∙◌, inl, inr, arith}
use Rattle.std.specs.Prelude.{nat_le, nat_lt, count_by, sum_by, find, unwrap_or, option_map, Some, ℤ, pos}
use Rattle.std.specs.List.{AllPairs, slice_index_or}
use Rattle.std.proofs.lemmas.Bool.{cases_eq, cases_lt, cases_Bool, and_left, and_right, cond-true, cond-false, eq-eqb, ne_eqb, eqb-true, lt-ltb, ltb-true, le-leb, leb-true, or_cases, or_parts, false_from_ne_true}
use Rattle.std.proofs.lemmas.List.Sums.{sum_by-cons}
use Rattle.audit_model.specs.declared.outcome.Outcome.{Outcome}
use Rattle.audit_model.specs.Below.{count_below}
use Rattle.audit_model.specs.Run.{has_id}
use Rattle.audit_model.specs.Stopping.{value_with_id}
use Rattle.audit_model.specs.Trajectory.{value_at}
use Rattle.sequential_test.specs.Ranks.{is_end_below}

-- no two outcomes have one id
abbrev pub AreApart : List Outcome → Type 0
AreApart outcomes = AllPairs (λ a b. a.id ≡ b.id → ⊥) outcomes

-- ---- sums

module _ {X : Type 0} where
  sum_by_both : (f g h : X → ℕ) (xs : List X) → ((x : X) → f x ≡ g x + h x) → sum_by f xs ≡ sum_by g xs + sum_by h xs
  sum_by_both f g h [] each = omega arith
  sum_by_both f g h (x ∷ xs) each =
      omega (arith, each x, sum_by_both f g h xs each, sum_by-cons f x xs, sum_by-cons g x xs, sum_by-cons h x xs)

  sum_by_zero : (f : X → ℕ) (xs : List X) → ((x : X) → f x ≡ 0) → sum_by f xs ≡ 0
  sum_by_zero f [] each = refl
  sum_by_zero f (x ∷ xs) each = omega (arith, each x, sum_by_zero f xs each, sum_by-cons f x xs)

  pub sum_by_same : (f g : X → ℕ) (xs : List X) → ((x : X) → f x ≡ g x) → sum_by f xs ≡ sum_by g xs
  sum_by_same f g [] each = refl
  sum_by_same f g (x ∷ xs) each = omega (arith, each x, sum_by_same f g xs each, sum_by-cons f x xs, sum_by-cons g x xs)

-- ---- one more endpoint

-- an outcome that is the next endpoint adds one if it passes
at_end : (a l k e b : Bool) → a ≡ true → l ≡ true → k ≡ false → e ≡ true
    → cond {A = ℕ} ((a && l) && b) 1 0 ≡ cond {A = ℕ} ((a && k) && b) 1 0 + cond {A = ℕ} (e && b) 1 0
at_end a l k e b ha hl hk he = rw ha (rw hl (rw hk (rw he (omega arith))))

-- an outcome that is another adds nothing
at_other : (a l k e b : Bool) → l ≡ k → e ≡ false
    → cond {A = ℕ} ((a && l) && b) 1 0 ≡ cond {A = ℕ} ((a && k) && b) 1 0 + cond {A = ℕ} (e && b) 1 0
at_other a l k e b hl he = rw hl (rw he (omega arith))

-- an id other than the next endpoint's is below the longer prefix exactly if it is below the shorter one
ltb_more : (w n id : ℕ) → (id ≡ w + n → ⊥) → nat_lt id (w + suc n) ≡ nat_lt id (w + n)
ltb_more w n id off = elim (cases_lt id (w + n)) [
  | inl l ↦ lt-ltb id (w + suc n) (omega (arith, l)) ∙ sym (lt-ltb id (w + n) l)
  | inr past ↦
      false_from_ne_true (nat_lt id (w + suc n)) (λ h. let l = ltb-true id (w + suc n) h in off (omega (arith, l, past)))
      ∙ sym (false_from_ne_true (nat_lt id (w + n)) (λ h. let l = ltb-true id (w + n) h in omega (arith, l, past)))
]

-- an outcome is in the longer prefix if it was in the shorter one or is the next endpoint
one_more : (w n id : ℕ) (b : Bool)
    → cond {A = ℕ} ((nat_le w id && nat_lt id (w + suc n)) && b) 1 0
    ≡ cond {A = ℕ} ((nat_le w id && nat_lt id (w + n)) && b) 1 0 + cond {A = ℕ} ((id == w + n) && b) 1 0
one_more w n id b = elim (cases_eq id (w + n)) [
  | inl e ↦ at_end (nat_le w id) (nat_lt id (w + suc n)) (nat_lt id (w + n)) (id == w + n) b
      (le-leb w id (omega (arith, e))) (lt-ltb id (w + suc n) (omega (arith, e)))
      (false_from_ne_true (nat_lt id (w + n)) (λ h. let l = ltb-true id (w + n) h in omega (arith, l, e))) (eq-eqb id (w + n) e)
  | inr off ↦ at_other (nat_le w id) (nat_lt id (w + suc n)) (nat_lt id (w + n)) (id == w + n) b (ltb_more w n id off) (ne_eqb id (w + n) off)
]

-- the empty prefix has no outcome
no_end : (w id : ℕ) (b : Bool) → cond {A = ℕ} ((nat_le w id && nat_lt id (w + 0)) && b) 1 0 ≡ 0
no_end w id b = cond-false {A = ℕ} ((nat_le w id && nat_lt id (w + 0)) && b) 1 0 (and_left (nat_le w id && nat_lt id (w + 0)) b (elim (cases_lt id w) [
  | inl l ↦ and_left (nat_le w id) (nat_lt id (w + 0)) (false_from_ne_true (nat_le w id) (λ h. let le = leb-true w id h in omega (arith, l, le)))
  | inr past ↦ and_right (nat_le w id) (nat_lt id (w + 0)) (false_from_ne_true (nat_lt id (w + 0)) (λ h. let l = ltb-true id (w + 0) h in omega (arith, l, past)))
]))

-- the number of the first n endpoints that pass a test
abbrev pub ranked : ℕ → (Outcome → Bool) → List Outcome → ℕ → ℕ
ranked w b outcomes n = count_by (λ o. is_end_below w n o && b o) outcomes

abbrev pub counted_at : (Outcome → Bool) → List Outcome → ℕ → ℕ
counted_at b outcomes id = count_by (λ o. (o.id == id) && b o) outcomes

-- the empty prefix counts zero
pub ranked_none : (w : ℕ) (b : Outcome → Bool) (outcomes : List Outcome) → ranked w b outcomes 0 ≡ 0
ranked_none w b outcomes = sum_by_zero (λ o. cond {A = ℕ} (is_end_below w 0 o && b o) 1 0) outcomes (λ o. no_end w o.id (b o))

-- one more endpoint adds the count over its own outcomes
ranked_more : (w : ℕ) (b : Outcome → Bool) (outcomes : List Outcome) (n : ℕ)
    → ranked w b outcomes (suc n) ≡ ranked w b outcomes n + counted_at b outcomes (w + n)
ranked_more w b outcomes n = sum_by_both (λ o. cond {A = ℕ} (is_end_below w (suc n) o && b o) 1 0) (λ o. cond {A = ℕ} (is_end_below w n o && b o) 1 0)
    (λ o. cond {A = ℕ} ((o.id == w + n) && b o) 1 0) outcomes (λ o. one_more w n o.id (b o))

-- ---- one id

-- an id that is missing adds nothing
counted_none : (b : Outcome → Bool) (outcomes : List Outcome) (id : ℕ) → has_id outcomes id ≡ false → counted_at b outcomes id ≡ 0
counted_none b [] id h = refl
counted_none b (o ∷ rest) id h =
    let parts = or_parts (o.id == id) (has_id rest id) h in
    let none : cond {A = ℕ} ((o.id == id) && b o) 1 0 ≡ 0 = cond-false {A = ℕ} ((o.id == id) && b o) 1 0 (and_left (o.id == id) (b o) parts.0) in
    omega (arith, none, counted_none b rest id parts.1, sum_by-cons (λ o. cond {A = ℕ} ((o.id == id) && b o) 1 0) o rest)

-- an id that is there stands at some place
has_id_at : (outcomes : List Outcome) (id : ℕ) → has_id outcomes id ≡ true
    → (k : ℕ) × (k < length outcomes) × ((d : Outcome) → (slice_index_or outcomes k d).id ≡ id)
has_id_at [] id h = cc
has_id_at (o ∷ rest) id h = elim (or_cases (o.id == id) (has_id rest id) h) [
  | inl e ↦ (zero, omega arith, λ d. eqb-true o.id id e)
  | inr later ↦ let at = has_id_at rest id later in (suc at.0, omega (arith, at.1), at.2)
]

-- different ids stay different after the first is removed
apart_rest : (o : Outcome) (rest : List Outcome) → AreApart (o ∷ rest) → AreApart rest
apart_rest o rest apart = λ i j d less inside. apart (suc i) (suc j) d (omega (arith, less)) (omega (arith, inside))

-- the id at the head of a list of different ids does not occur behind it
not_again : (o : Outcome) (rest : List Outcome) (id : ℕ) → AreApart (o ∷ rest) → o.id ≡ id → has_id rest id ≡ false
not_again o rest id apart e = false_from_ne_true (has_id rest id) (λ h.
    let at = has_id_at rest id h in apart zero (suc at.0) o (omega arith) (omega (arith, at.1)) (e ∙ sym (at.2 o)))

-- an id that is there adds the count of its outcome, once
pub counted_one : (v : ℤ → Bool) (place : ℕ) (outcomes : List Outcome) (id : ℕ) → AreApart outcomes → has_id outcomes id ≡ true
    → counted_at (λ o. v (value_at o place)) outcomes id ≡ cond {A = ℕ} (v (value_with_id place outcomes id)) 1 0
counted_one v place [] id apart h = cc
counted_one v place (o ∷ rest) id apart h = elim (cases_Bool (o.id == id)) [
  | inl hit ↦
      let none = counted_none (λ o. v (value_at o place)) rest id (not_again o rest id apart (eqb-true o.id id hit)) in
      let one : cond {A = ℕ} ((o.id == id) && v (value_at o place)) 1 0 ≡ cond {A = ℕ} (v (value_at o place)) 1 0 =
      ap (λ t. cond {A = ℕ} (t && v (value_at o place)) 1 0) hit in
      let value : value_with_id place (o ∷ rest) id ≡ value_at o place =
      ap (λ t. unwrap_or (option_map (λ o. value_at o place) (cond t (Some o) (find (λ o. o.id == id) rest))) (pos 0)) hit in
      let all : counted_at (λ o. v (value_at o place)) (o ∷ rest) id ≡ cond {A = ℕ} (v (value_at o place)) 1 0 =
      omega (arith, none, one, sum_by-cons (λ o. cond {A = ℕ} ((o.id == id) && v (value_at o place)) 1 0) o rest) in
      all ∙ ap (λ x. cond {A = ℕ} (v x) 1 0) (sym value)
  | inr fails ↦
      let later : has_id rest id ≡ true = sym (ap (λ t. t || has_id rest id) fails) ∙ h in
      let before = counted_one v place rest id (apart_rest o rest apart) later in
      let none : cond {A = ℕ} ((o.id == id) && v (value_at o place)) 1 0 ≡ 0 =
      cond-false {A = ℕ} ((o.id == id) && v (value_at o place)) 1 0 (and_left (o.id == id) (v (value_at o place)) fails) in
      let value : value_with_id place (o ∷ rest) id ≡ value_with_id place rest id =
      ap (λ t. unwrap_or (option_map (λ o. value_at o place) (cond t (Some o) (find (λ o. o.id == id) rest))) (pos 0)) fails in
      let all : counted_at (λ o. v (value_at o place)) (o ∷ rest) id ≡ cond {A = ℕ} (v (value_with_id place rest id)) 1 0 =
      omega (arith, none, before, sum_by-cons (λ o. cond {A = ℕ} ((o.id == id) && v (value_at o place)) 1 0) o rest) in
      all ∙ ap (λ x. cond {A = ℕ} (v x) 1 0) (sym value)
]

-- ---- all ranks

-- the count of endpoints is the number of places below n whose id is there
pub ends_counted : (w : ℕ) (outcomes : List Outcome) → AreApart outcomes → (n : ℕ)
    → ranked w (λ o. true) outcomes n ≡ count_below n (λ j. has_id outcomes (w + j))
unfolding count_below
ends_counted w outcomes apart zero = ranked_none w (λ o. true) outcomes
ends_counted w outcomes apart (suc n) =
    let one : counted_at (λ o. true) outcomes (w + n) ≡ cond {A = ℕ} (has_id outcomes (w + n)) 1 0 = elim (cases_Bool (has_id outcomes (w + n))) [
      | inl hit ↦ counted_one (λ v. true) 0 outcomes (w + n) apart hit ∙ sym (cond-true {A = ℕ} (has_id outcomes (w + n)) 1 0 hit)
      | inr fails ↦ counted_none (λ o. true) outcomes (w + n) fails ∙ sym (cond-false {A = ℕ} (has_id outcomes (w + n)) 1 0 fails)
    ] in
    omega (arith, one, ends_counted w outcomes apart n, ranked_more w (λ o. true) outcomes n)

-- if none is missing, the count in the tail is the count over values by place
pub tails_counted : (w : ℕ) (v : ℤ → Bool) (place : ℕ) (outcomes : List Outcome) → AreApart outcomes → (n : ℕ)
    → ((j : ℕ) → j < n → has_id outcomes (w + j) ≡ true)
    → ranked w (λ o. v (value_at o place)) outcomes n ≡ count_below n (λ j. v (value_with_id place outcomes (w + j)))
unfolding count_below
tails_counted w v place outcomes apart zero there = ranked_none w (λ o. v (value_at o place)) outcomes
tails_counted w v place outcomes apart (suc n) there =
    let one = counted_one v place outcomes (w + n) apart (there n (omega arith)) in
    let before = tails_counted w v place outcomes apart n (λ j l. there j (omega (arith, l))) in
    omega (arith, one, before, ranked_more w (λ o. v (value_at o place)) outcomes n)

-- counting the first endpoints is counting those that pass a test that is always true
pub ends_ranked : (w : ℕ) (outcomes : List Outcome) (n : ℕ) → count_by (is_end_below w n) outcomes ≡ ranked w (λ o. true) outcomes n
ends_ranked w outcomes n = sum_by_same (λ o. cond {A = ℕ} (is_end_below w n o) 1 0) (λ o. cond {A = ℕ} (is_end_below w n o && true) 1 0) outcomes
    (λ o. and_true (is_end_below w n o))
  where
    and_true : (b : Bool) → cond {A = ℕ} b 1 0 ≡ cond {A = ℕ} (b && true) 1 0
    and_true true = refl
    and_true false = refl
