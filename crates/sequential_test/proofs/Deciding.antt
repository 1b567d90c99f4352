-- The result of the bisection is the stop that the known values decide.
use Rattle.std.proofs.Common.{◌≡◌, ◌≢◌, ℕ, zero, suc, ◌+◌, ◌-◌, ◌<◌, ◌≤◌, Bool, true, false, cond, not, ◌||◌, ◌==◌, List, [], ◌∷◌, length, take, Option, Some, None, refl, sym, ap, ◌∙◌, subst, inl, inr, arith, take_all}
use Rattle.std.specs.Prelude.{nat_le, count_by, unwrap_or, ℤ}
use Rattle.std.specs.Option.{option_or}
use Rattle.std.proofs.lemmas.Bool.{cases_eq, cases_lt, cases_Bool, cond-true, cond-false, eq-eqb, ne_eqb, le-leb, leb-true, or_left, or_right, or_from, not_from_true, not_from_false, false_from_ne_true}
use Rattle.std.proofs.lemmas.List.{take-append-le}
use Rattle.std.proofs.lemmas.List.Sums.{sum_by_push}
use Rattle.audit_model.specs.declared.outcome.Outcome.{Outcome}
use Rattle.audit_model.specs.declared.outcome.Stop.{Stop}
use Rattle.audit_model.specs.declared.setting.Ask.{Ask}
use Rattle.audit_model.specs.declared.setting.Tail.{Tail}
use Rattle.audit_model.specs.Below.{count_below, map_below}
use Rattle.audit_model.specs.First.{first_below}
use Rattle.audit_model.specs.Job.{Job}
use Rattle.audit_model.specs.Run.{has_id}
use Rattle.audit_model.specs.Stopping.{count_in_tail, stop_of_known, some_if, stop, stopped_at, value_with_id}
use Rattle.audit_model.specs.Trajectory.{in_tail, plan_value}
use Rattle.audit_model.proofs.Below.{count_below_le, length-map_below}
use Rattle.audit_model.proofs.First.{none_first_below}
use Rattle.sequential_test.specs.Ranks.{ends_below, tails_below}
use Rattle.sequential_test.proofs.Ranks.{AreApart, ends_counted, tails_counted, ends_ranked}

-- ---- counts below a bound

-- if the count equals the bound, each number below it passes
pub all_pass : (n : ℕ) (test : ℕ → Bool) → count_below n test ≡ n → (k : ℕ) → k < n → test k ≡ true
unfolding count_below
all_pass zero test h k l = absurd (omega arith)
all_pass (suc n) test h k l = elim (cases_Bool (test n)) [
  | inl hit ↦
      let one : cond {A = ℕ} (test n) 1 0 ≡ 1 = cond-true {A = ℕ} (test n) 1 0 hit in
      elim (cases_eq k n) [
        | inl e ↦ subst (λ m. test m ≡ true) (sym e) hit
        | inr off ↦ all_pass n test (omega (arith, h, one)) k (omega arith)
      ]
  | inr fails ↦
      let none : cond {A = ℕ} (test n) 1 0 ≡ 0 = cond-false {A = ℕ} (test n) 1 0 fails in
      absurd (omega (arith, h, none, count_below_le n test))
]

-- if all numbers below n pass but not all below n + 1, then n fails
pub next_fails : (n : ℕ) (test : ℕ → Bool) → count_below n test ≡ n → count_below (suc n) test ≢ suc n → test n ≡ false
unfolding count_below
next_fails n test h short = false_from_ne_true (test n) (λ hit.
    let one : cond {A = ℕ} (test n) 1 0 ≡ 1 = cond-true {A = ℕ} (test n) 1 0 hit in short (omega (arith, h, one)))

-- one test counts 0 or 1
at_most_one : (b : Bool) → cond {A = ℕ} b 1 0 ≤ 1
at_most_one true = omega arith
at_most_one false = omega arith

-- one number more counts at most one more
pub count_step : (n : ℕ) (test : ℕ → Bool) → count_below (suc n) test ≤ count_below n test + 1
unfolding count_below
count_step n test = omega (arith, at_most_one (test n))

-- a greater bound counts no fewer
pub count_rises : (n m : ℕ) (test : ℕ → Bool) → m ≤ n → count_below m test ≤ count_below n test
unfolding count_below
count_rises zero m test l = let e : m ≡ zero = omega (arith, l) in omega (arith, ap (λ k. count_below k test) e)
count_rises (suc n) m test l = elim (cases_eq m (suc n)) [
  | inl e ↦ omega (arith, ap (λ k. count_below k test) e)
  | inr off ↦ omega (arith, count_rises n m test (omega arith))
]

-- ---- the first below a bound

-- a number that passes, and none before it, is the first
pub first_below_is : (n : ℕ) (test : ℕ → Bool) (k : ℕ) → k < n → ((j : ℕ) → j < k → test j ≡ false) → test k ≡ true → first_below n test ≡ Some k
first_below_is zero test k l none hit = absurd (omega arith)
first_below_is (suc n) test k l none hit = elim (cases_eq k n) [
  | inl e ↦
      ap (λ o. option_or o (cond (test n) (Some n) None)) (none_first_below n test (λ j less. none j (omega (arith, less, e))))
      ∙ cond-true (test n) (Some n) None (subst (λ m. test m ≡ true) e hit) ∙ ap Some (sym e)
  | inr off ↦ ap (λ o. option_or o (cond (test n) (Some n) None)) (first_below_is n test k (omega arith) none hit)
]

-- ---- lists made by place

-- a prefix of a table of values is the shorter table
take-map_below : (g n : ℕ) (f : ℕ → ℤ) → n ≤ g → take n (map_below g f) ≡ map_below n f
take-map_below g n f l = elim (cases_eq n g) [
  | inl e ↦ take_all n (map_below g f) (omega (arith, e, length-map_below g f)) ∙ ap (λ k. map_below k f) (sym e)
  | inr off ↦ shorter g n (omega arith)
]
  where
    shorter : (g n : ℕ) → n < g → take n (map_below g f) ≡ map_below n f
    shorter zero n l = absurd (omega arith)
    shorter (suc g) n l =
        take-append-le n (map_below g f) (f g ∷ []) (omega (arith, length-map_below g f))
        ∙ elim (cases_eq n g) [
          | inl e ↦ take_all n (map_below g f) (omega (arith, e, length-map_below g f)) ∙ ap (λ k. map_below k f) (sym e)
          | inr off ↦ shorter g n (omega arith)
        ]

-- a count over a table of values is one over its places
count-map_below : (n : ℕ) (f : ℕ → ℤ) (p : ℤ → Bool) → count_by p (map_below n f) ≡ count_below n (λ j. p (f j))
unfolding count_below
count-map_below zero f p = refl
count-map_below (suc n) f p = omega (arith, count-map_below n f p, sum_by_push (λ x. cond {A = ℕ} (p x) 1 0) (map_below n f) (f n))

-- ---- the stop, from values by place

abbrev pub stop_from : ℕ → Tail → ℤ → List ℤ → ℕ → Option Stop
stop_from ends tail start values enough =
    some_if (nat_le enough (count_in_tail tail start values) || (length values == ends)) (stop tail start values enough)

-- if the condition holds, the answer is there
some_from : (b : Bool) (s : Stop) → b ≡ true → some_if b s ≡ Some s
some_from b s h = ap (λ t. some_if t s) h

module _ (tail : Tail) (start : ℤ) (g : ℕ) (f : ℕ → ℤ) (enough : ℕ) where
  abbrev pub values : List ℤ
  values = map_below g f

  abbrev pub inside : ℕ → ℕ
  inside n = count_below n (λ j. in_tail tail (f j) start)

  abbrev pub reached : ℕ → Bool
  reached n = count_in_tail tail start (take n values) == enough

  counted : (n : ℕ) → n ≤ g → count_in_tail tail start (take n values) ≡ inside n
  counted n l = ap (count_by (λ v. in_tail tail v start)) (take-map_below g n f l) ∙ count-map_below n f (λ v. in_tail tail v start)

  all_counted : count_in_tail tail start values ≡ inside g
  all_counted = count-map_below g f (λ v. in_tail tail v start)

  too_few : (n : ℕ) → n ≤ g → inside n < enough → reached n ≡ false
  too_few n l few = ne_eqb (count_in_tail tail start (take n values)) enough (λ e. omega (arith, e, few, counted n l))

  -- the test stopped at this place
  pub stopped : (ends place : ℕ) → 1 ≤ place → place ≤ g → enough ≤ inside place → inside (place - 1) < enough
      → Some (record { place = place; top = enough; of = place }) ≡ stop_from ends tail start values enough
  stopped ends place some l hit before =
      let e : suc (place - 1) ≡ place = omega arith in
      let step = count_step (place - 1) (λ j. in_tail tail (f j) start) in
      let same = ap inside e in
      let at : inside place ≡ enough = omega (arith, step, same, hit, before) in
      let found : first_below (length values + 1) reached ≡ Some place =
      first_below_is (length values + 1) reached place (omega (arith, length-map_below g f, l))
      (λ j less. too_few j (omega (arith, less, l)) (let lower = count_rises (place - 1) j (λ j. in_tail tail (f j) start) (omega (arith, less, some)) in omega (arith, lower, before)))
      (eq-eqb (count_in_tail tail start (take place values)) enough (counted place l ∙ at)) in
      let rises = count_rises g place (λ j. in_tail tail (f j) start) l in
      let all : nat_le enough (count_in_tail tail start values) ≡ true = le-leb enough (count_in_tail tail start values) (omega (arith, rises, hit, all_counted)) in
      ap Some (sym (ap (stopped_at enough tail start values) found))
      ∙ sym (some_from (nat_le enough (count_in_tail tail start values) || (length values == ends)) (stop tail start values enough)
      (or_left (nat_le enough (count_in_tail tail start values)) (length values == ends) all))

  short_of : inside g < enough → nat_le enough (count_in_tail tail start values) ≡ false
  short_of few = false_from_ne_true (nat_le enough (count_in_tail tail start values)) (λ h.
      let le = leb-true enough (count_in_tail tail start values) h in omega (arith, le, few, all_counted))

  -- all endpoints are there, and too few are in the tail
  pub ended : inside g < enough → Some (record { place = g; top = inside g + 1; of = g + 1 }) ≡ stop_from g tail start values enough
  ended few =
      let none : first_below (length values + 1) reached ≡ None = none_first_below (length values + 1) reached
      (λ k l. too_few k (omega (arith, l, length-map_below g f)) (let lower = count_rises g k (λ j. in_tail tail (f j) start) (omega (arith, l, length-map_below g f)) in omega (arith, lower, few))) in
      let stop_is : stop tail start values enough ≡ record { place = g; top = inside g + 1; of = g + 1 } =
      ap (stopped_at enough tail start values) none ∙ three (length-map_below g f) all_counted in
      ap Some (sym stop_is)
      ∙ sym (some_from (nat_le enough (count_in_tail tail start values) || (length values == g)) (stop tail start values enough)
      (or_right (nat_le enough (count_in_tail tail start values)) (length values == g) (eq-eqb (length values) g (length-map_below g f))))
    where
      three : {n m : ℕ} → n ≡ g → m ≡ inside g
          → let s : Stop = record { place = n; top = m + 1; of = n + 1 } in let t : Stop = record { place = g; top = inside g + 1; of = g + 1 } in s ≡ t
      three a b = λ i. record { place = a i; top = b i + 1; of = a i + 1 }

  -- an endpoint is missing, and too few are in the tail so far
  pub undecided : (ends : ℕ) → inside g < enough → g < ends → None ≡ stop_from ends tail start values enough
  undecided ends few l = sym (ap (λ b. some_if b (stop tail start values enough))
      (or_from (nat_le enough (count_in_tail tail start values)) (length values == ends) (short_of few)
      (ne_eqb (length values) ends (λ e. omega (arith, e, l, length-map_below g f)))))

-- ---- the known endpoints

abbrev pub gap_at : ℕ → ℕ → List Outcome → ℕ
gap_at walks ends outcomes = unwrap_or (first_below ends (λ j. not (has_id outcomes (walks + j)))) ends

abbrev pub values_from : ℕ → ℕ → ℕ → List Outcome → List ℤ
values_from walks ends place outcomes = map_below (gap_at walks ends outcomes) (λ j. value_with_id place outcomes (walks + j))

-- the result of the bisection for the first missing endpoint
pub record IsGap (walks ends known : ℕ) (outcomes : List Outcome) : Type 0 where
  pub within : known ≤ ends
  pub counted : ends_below walks outcomes known ≡ known
  pub gap : known < ends → ends_below walks outcomes (known + 1) ≢ known + 1

module _ (walks ends g : ℕ) (outcomes : List Outcome) (apart : AreApart outcomes) (h : IsGap walks ends g outcomes) where
  abbrev pub there : ℕ → Bool
  there j = has_id outcomes (walks + j)

  full : count_below g there ≡ g
  full = sym (ends_counted walks outcomes apart g) ∙ sym (ends_ranked walks outcomes g) ∙ h.counted

  pub all_there : (j : ℕ) → j < g → has_id outcomes (walks + j) ≡ true
  all_there j l = all_pass g there full j l

  missing : g < ends → there g ≡ false
  missing l = next_fails g there full (λ e.
      let more : suc g ≡ g + 1 = omega arith in
      h.gap l (ends_ranked walks outcomes (g + 1) ∙ ends_counted walks outcomes apart (g + 1) ∙ sym (ap (λ n. count_below n there) more) ∙ e ∙ more))

  pub gap_is : gap_at walks ends outcomes ≡ g
  gap_is = elim (cases_lt g ends) [
    | inl l ↦ ap (λ o. unwrap_or o ends) (first_below_is ends (λ j. not (there j)) g l
        (λ j less. not_from_true (there j) (all_there j less)) (not_from_false (there g) (missing l)))
    | inr past ↦
        let e : ends ≡ g = omega (arith, past, h.within) in
        ap (λ o. unwrap_or o ends) (none_first_below ends (λ j. not (there j)) (λ j less. not_from_true (there j) (all_there j (omega (arith, less, e))))) ∙ e
  ]

  -- the count of endpoints in the tail is the count over their values by place
  pub tails_are : (place : ℕ) (tail : Tail) (start : ℤ) (n : ℕ) → n ≤ g
      → tails_below walks place tail start outcomes n ≡ count_below n (λ j. in_tail tail (value_with_id place outcomes (walks + j)) start)
  tails_are place tail start n l = tails_counted walks (λ v. in_tail tail v start) place outcomes apart n (λ j less. all_there j (omega (arith, less, l)))

  pub values_are : (place : ℕ) → values_from walks ends place outcomes ≡ map_below g (λ j. value_with_id place outcomes (walks + j))
  values_are place = ap (λ n. map_below n (λ j. value_with_id place outcomes (walks + j))) gap_is

-- the decided stop of a job with these numbers
pub of_job : (walks ends place enough : ℕ) (tail : Tail) (start : ℤ) (outcomes : List Outcome) (job : Job) (ask : Ask)
    → job.setting.walks ≡ walks → job.setting.ends ≡ ends → ask.tail ≡ tail → plan_value job job.start ask.score ≡ start
    → stop_from ends tail start (values_from walks ends place outcomes) enough ≡ stop_of_known job (place, ask) enough outcomes
of_job walks ends place enough tail start outcomes job ask w e t s =
    ap (λ x. stop_from ends tail start (values_from x ends place outcomes) enough) (sym w)
    ∙ ap (λ x. stop_from x tail start (values_from job.setting.walks x place outcomes) enough) (sym e)
    ∙ ap (λ x. stop_from job.setting.ends x start (values_from job.setting.walks job.setting.ends place outcomes) enough) (sym t)
    ∙ ap (λ x. stop_from job.setting.ends ask.tail x (values_from job.setting.walks job.setting.ends place outcomes) enough) (sym s)
