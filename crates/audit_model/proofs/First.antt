-- The least number that passes a test, found by trying each.
use Rattle.std.proofs.Common.{◌≡◌, ℕ, zero, suc, ◌+◌, ◌<◌, Bool, true, false, cond, Option, Some, None, refl, sym, ap, ◌∙◌, subst, inl, inr, arith, add-one, ◌⊎◌, ◌||◌, not, is_none}
use Rattle.std.specs.Option.{option_or}
use Rattle.std.proofs.lemmas.Bool.{cases_eq, or_from}
use Rattle.std.proofs.lemmas.Option.{cond_some}
use Rattle.audit_model.specs.First.{first_below, first_some_below}
use Rattle.audit_model.proofs.Options.{none_or, option_or_none, cond_some_none, cond_none, or_of_none}
use Rattle.audit_model.specs.Below.{any_below}
use Rattle.audit_model.proofs.Below.{any_below_from}

-- if the test is true, the value is kept
last_passes : {A : Type 0} (b : Bool) (x : A) → b ≡ true → cond b (Some x) None ≡ Some x
last_passes true x h = refl
last_passes false x h = cc

-- one more number that fails
pub first_below_more : (n : ℕ) (test : ℕ → Bool) → first_below n test ≡ None → test n ≡ false → first_below (n + 1) test ≡ None
first_below_more n test none fails = rw add-one (none_or (first_below n test) (cond (test n) (Some n) None) none ∙ cond_none (test n) n fails)

-- a number that passes, with none below it that does
pub first_below_here : (n k : ℕ) (test : ℕ → Bool) → first_below k test ≡ None → k < n → test k ≡ true → first_below n test ≡ Some k
first_below_here zero k test none l here = absurd (omega arith)
first_below_here (suc n) k test none l here = elim (cases_eq k n) [
  | inl e ↦
      let none_n : first_below n test ≡ None = subst (λ m. first_below m test ≡ None) e none in
      let here_n : test n ≡ true = subst (λ m. test m ≡ true) e here in
      none_or (first_below n test) (cond (test n) (Some n) None) none_n ∙ last_passes (test n) n here_n ∙ ap (λ m. Some m) (sym e)
  | inr off ↦ ap (λ o. option_or o (cond (test n) (Some n) None)) (first_below_here n k test none (omega arith) here)
]

-- tests that agree below the bound have equal least numbers
pub first_below_same : (n : ℕ) (p q : ℕ → Bool) → ((k : ℕ) → k < n → p k ≡ q k) → first_below n p ≡ first_below n q
first_below_same zero p q same = refl
first_below_same (suc n) p q same =
    ap (λ o. option_or o (cond (p n) (Some n) None)) (first_below_same n p q (λ k l. same k (omega arith)))
    ∙ ap (λ b. option_or (first_below n q) (cond b (Some n) None)) (same n (omega arith))

-- if no least number is found, each number below the bound fails
pub first_below_none : (n : ℕ) (test : ℕ → Bool) (k : ℕ) → first_below n test ≡ None → k < n → test k ≡ false
first_below_none zero test k h l = absurd (omega arith)
first_below_none (suc n) test k h l =
    let parts = option_or_none (first_below n test) (cond (test n) (Some n) None) h in
    elim (cases_eq k n) [
      | inl e ↦ subst (λ m. test m ≡ false) (sym e) (cond_some_none (test n) n parts.1)
      | inr off ↦ first_below_none n test k parts.0 (omega arith)
    ]

-- if each number below the bound fails, no least number is found
pub none_first_below : (n : ℕ) (test : ℕ → Bool) → ((k : ℕ) → k < n → test k ≡ false) → first_below n test ≡ None
none_first_below zero test each = refl
none_first_below (suc n) test each =
    ap (λ o. option_or o (cond (test n) (Some n) None)) (none_first_below n test (λ k l. each k (omega arith)))
    ∙ ap (λ b. cond b (Some n) None) (each n (omega arith))

-- a value of two options is the first one's, or the second one's if its test is true
option_or_some : (o : Option ℕ) (b : Bool) (n k : ℕ) → option_or o (cond b (Some n) None) ≡ Some k → (o ≡ Some k) ⊎ ((b ≡ true) × (n ≡ k))
option_or_some None b n k h = inr (cond_some b n k h)
option_or_some (Some x) b n k h = inl h

-- a least number is below the bound and passes
pub first_below_some : (n : ℕ) (test : ℕ → Bool) (k : ℕ) → first_below n test ≡ Some k → (k < n) × (test k ≡ true)
first_below_some zero test k h = cc
first_below_some (suc n) test k h = elim (option_or_some (first_below n test) (test n) n k h) [
  | inl e ↦ let before = first_below_some n test k e in (omega (arith, before.0), before.1)
  | inr e ↦ (omega (arith, e.1), subst (λ m. test m ≡ true) e.1 e.0)
]

-- if the first of two options has a value, it is the result
pub or_some : {A : Type 0} → (x y : Option A) (a : A) → x ≡ Some a → option_or x y ≡ Some a
or_some x y a e = ap (λ o. option_or o y) e

-- one more number without a value
pub first_some_below_more : {A : Type 0} → (i : ℕ) (f : ℕ → Option A) → first_some_below i f ≡ None → f i ≡ None → first_some_below (i + 1) f ≡ None
first_some_below_more i f none nothing =
    let at : suc i ≡ i + 1 = omega arith in
    subst (λ (k : ℕ). first_some_below k f ≡ None) at (none_or (first_some_below i f) (f i) none ∙ nothing)

-- the first number with a value gives the result
pub first_some_below_found : {A : Type 0} → (n i : ℕ) (f : ℕ → Option A) (a : A) → i < n → first_some_below i f ≡ None → f i ≡ Some a → first_some_below n f ≡ Some a
first_some_below_found zero i f a l none is = absurd (omega arith)
first_some_below_found (suc n) i f a l none is = elim (cases_eq i n) [
  | inl e ↦ subst (λ (k : ℕ). first_some_below (suc k) f ≡ Some a) e (none_or (first_some_below i f) (f i) none ∙ is)
  | inr off ↦ or_some (first_some_below n f) (f n) a (first_some_below_found n i f a (omega arith) none is)
]

-- if no number has a value, there is no result
pub none_some_below : {A : Type 0} → (n : ℕ) (f : ℕ → Option A) → ((k : ℕ) → k < n → f k ≡ None) → first_some_below n f ≡ None
none_some_below zero f none = refl
none_some_below (suc n) f none = or_of_none (first_some_below n f) (f n) (none_some_below n f (λ k l. none k (omega arith))) (none n (omega arith))

-- if there is no result, no number has a value
pub first_some_below_none : {A : Type 0} → (n : ℕ) (f : ℕ → Option A) (k : ℕ) → first_some_below n f ≡ None → k < n → f k ≡ None
first_some_below_none zero f k h l = absurd (omega arith)
first_some_below_none (suc n) f k h l =
    let parts = option_or_none (first_some_below n f) (f n) h in
    elim (cases_eq k n) [
      | inl e ↦ subst (λ m. f m ≡ None) (sym e) parts.1
      | inr off ↦ first_some_below_none n f k parts.0 (omega arith)
    ]

-- functions that agree below the bound have equal results
pub first_some_below_same : {A : Type 0} → (n : ℕ) (f g : ℕ → Option A) → ((k : ℕ) → k < n → f k ≡ g k) → first_some_below n f ≡ first_some_below n g
first_some_below_same zero f g same = refl
first_some_below_same (suc n) f g same =
    ap (λ o. option_or o (f n)) (first_some_below_same n f g (λ k l. same k (omega arith)))
    ∙ ap (λ o. option_or (first_some_below n g) o) (same n (omega arith))

-- tests that agree below the bound agree on some number
pub any_below_same : (n : ℕ) (p q : ℕ → Bool) → ((k : ℕ) → k < n → p k ≡ q k) → any_below n p ≡ any_below n q
any_below_same zero p q same = refl
any_below_same (suc n) p q same =
    ap (λ b. b || p n) (any_below_same n p q (λ k l. same k (omega arith))) ∙ ap (λ b. any_below n q || b) (same n (omega arith))

-- if no least number is found, no number passes
pub any_from_none : (n : ℕ) (test : ℕ → Bool) → first_below n test ≡ None → any_below n test ≡ false
any_from_none zero test e = refl
any_from_none (suc n) test e =
    let parts = option_or_none (first_below n test) (cond (test n) (Some n) None) e in
    or_from (any_below n test) (test n) (any_from_none n test parts.0) (fails (test n) n parts.1)
  where
    fails : (b : Bool) (m : ℕ) → cond {A = Option ℕ} b (Some m) None ≡ None → b ≡ false
    fails true m e = cc e
    fails false m e = refl

-- if the last number is the result, it passes
pub passes_last : (n a : ℕ) (b c : Bool) → c ≡ b → cond {A = Option ℕ} b (Some n) None ≡ Some a → (n ≡ a) × (c ≡ true)
passes_last n a true c is e = (cc e, is)
passes_last n a false c is e = cc e

-- one more number, by the result before it
pub first_split : (n : ℕ) (test : ℕ → Bool) (a : ℕ) (x : Option ℕ) → first_below n test ≡ x → first_below (suc n) test ≡ Some a
    → (first_below n test ≡ Some a → (a < n) × (test a ≡ true) × ((k : ℕ) → k < a → test k ≡ false)) → (a < suc n) × (test a ≡ true) × ((k : ℕ) → k < a → test k ≡ false)
first_split n test a None is e before =
    let here = passes_last n a (test n) (test n) refl (sym (none_or (first_below n test) (cond (test n) (Some n) None) is) ∙ e) in
    let at : n ≡ a = here.0 in
    (omega (arith, at), subst (λ k. test k ≡ true) at here.1, λ k l. first_below_none n test k is (omega (arith, l, at)))
first_split n test a (Some b) is e before =
    let at : Some b ≡ Some a = sym (or_some (first_below n test) (cond (test n) (Some n) None) b is) ∙ e in
    let found = before (is ∙ at) in
    (omega (arith, found.0), found.1, found.2)

-- a least number is below the bound and passes, and none before it passes
pub first_passes : (n : ℕ) (test : ℕ → Bool) (a : ℕ) → first_below n test ≡ Some a → (a < n) × (test a ≡ true) × ((k : ℕ) → k < a → test k ≡ false)
first_passes zero test a e = cc e
first_passes (suc n) test a e = first_split n test a (first_below n test) refl e (first_passes n test a)

-- if a least number is found, some number passes
pub any_from_some : (n : ℕ) (test : ℕ → Bool) (a : ℕ) → first_below n test ≡ Some a → any_below n test ≡ true
any_from_some n test a e = let found = first_passes n test a e in any_below_from n test a found.0 found.1

-- no least number is found exactly if none passes
pub none_or_any : (n : ℕ) (test : ℕ → Bool) (o : Option ℕ) → first_below n test ≡ o → not (any_below n test) ≡ is_none o
none_or_any n test None is = ap not (any_from_none n test is)
none_or_any n test (Some a) is = ap not (any_from_some n test a is)
