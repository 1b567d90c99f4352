-- The numbers of a run's outcomes and of its pending trajectories.
use Rattle.std.proofs.Common.{◌≡◌, ◌⊎◌, inl, inr, ℕ, zero, suc, ◌+◌, ◌<◌, ◌≤◌, ◌&&◌, ◌||◌, not, Bool, true, false, cond, List, [], ◌∷◌, length, min, take, refl, sym, ap, subst, ◌∙◌, length-append, All, arith}
use Rattle.std.specs.Prelude.{◌==◌}
use Rattle.std.proofs.lemmas.Bool.{and_parts, cases_order, eq-eqb, ne_eqb, eqb-true}
use Rattle.std.proofs.lemmas.List.{length-take, take_all}
use Rattle.audit_model.specs.declared.outcome.Outcome.{Outcome}
use Rattle.audit_model.specs.Below.{filter_below}
use Rattle.audit_model.specs.Graph.{has}
use Rattle.audit_model.specs.Job.{Job}
use Rattle.audit_model.specs.Run.{total, has_id, is_in_part, pending_ids, part_ids, run_ids}
use Rattle.audit_model.proofs.Below.{length-filter_below}
use Rattle.audit_model.proofs.Connected.{filter_below-has}
use Rattle.audit_model.proofs.Parts.{only_part}
use Rattle.outcome_book.specs.Booked.{AreApart}
use Rattle.audit_statement.specs.Endings.{pending}

-- ---- the count of numbers below a bound that pass a test

abbrev pub count : ℕ → (ℕ → Bool) → ℕ
count n test = length (filter_below n test)

abbrev one_if : Bool → ℕ
one_if b = cond {A = ℕ} b 1 0

-- a list of one conditional member has the length of the condition's count
length_if : (b : Bool) (x : ℕ) → length (cond b (x ∷ []) []) ≡ one_if b
length_if true x = refl
length_if false x = refl

-- one more number counts if it passes
count_more : (n : ℕ) (test : ℕ → Bool) → count (suc n) test ≡ count n test + one_if (test n)
count_more n test = omega (arith, length-append (filter_below n test) (cond (test n) (n ∷ []) []), length_if (test n) n)

-- of a test and its opposite, exactly one counts
one_or_none : (b : Bool) → one_if b + one_if (not b) ≡ 1
one_or_none true = refl
one_or_none false = refl

-- each number passes a test or fails it
pub count-not : (n : ℕ) (test : ℕ → Bool) → count n test + count n (λ k. not (test k)) ≡ n
count-not zero test = refl
count-not (suc n) test = omega (arith, count_more n test, count_more n (λ k. not (test k)), count-not n test, one_or_none (test n))

-- two tests that exclude each other count as their sum
one_of_both : (a b : Bool) → (a ≡ true → b ≡ false) → one_if (a || b) ≡ one_if a + one_if b
one_of_both true b f = rw (f refl) refl
one_of_both false b f = omega arith

-- two tests that no number passes both count as their sum
count-or : (n : ℕ) (first second : ℕ → Bool) → ((k : ℕ) → first k ≡ true → second k ≡ false)
    → count n (λ k. first k || second k) ≡ count n first + count n second
count-or zero first second apart = refl
count-or (suc n) first second apart = omega (
  arith,
  count_more n (λ k. first k || second k),
  count_more n first,
  count_more n second,
  count-or n first second apart,
  one_of_both (first n) (second n) (apart n),
)

-- a number past the bound is not counted
count-past : (n x : ℕ) → n ≤ x → count n (λ k. x == k) ≡ 0
count-past zero x past = refl
count-past (suc n) x past =
    let none : one_if (x == n) ≡ 0 = ap (λ b. one_if b) (ne_eqb x n (λ e. absurd (omega (arith, e, past)))) in
    omega (arith, count_more n (λ k. x == k), count-past n x (omega arith), none)

-- a number below the bound is counted once
count-one : (n x : ℕ) → x < n → count n (λ k. x == k) ≡ 1
count-one zero x inside = absurd (omega arith)
count-one (suc n) x inside = by (cases_order x n) (λ l. count-one n x l)
  where
    by : (x ≡ n) ⊎ ((x < n) ⊎ (n < x)) → (x < n → count n (λ k. x == k) ≡ 1) → count (suc n) (λ k. x == k) ≡ 1
    by (inl same) rec =
        let last : one_if (x == n) ≡ 1 = ap (λ b. one_if b) (eq-eqb x n same) in
        omega (arith, count_more n (λ k. x == k), last, count-past n x (omega (arith, same)))
    by (inr (inl before)) rec =
        let none : one_if (x == n) ≡ 0 = ap (λ b. one_if b) (ne_eqb x n (λ e. absurd (omega (arith, e, before)))) in
        omega (arith, count_more n (λ k. x == k), none, rec before)
    by (inr (inr after)) rec = absurd (omega (arith, inside, after))

-- a test that nothing passes counts 0
count-none : (n : ℕ) → count n (λ k. false) ≡ 0
count-none zero = refl
count-none (suc n) = omega (arith, count_more n (λ k. false), count-none n)

-- if no outcome has the id, the list has none of it
no_id : (os : List Outcome) (k : ℕ) → All (λ o. o.id ≡ k → ⊥) os → has_id os k ≡ false
no_id [] k differ = refl
no_id (o ∷ os) k differ = rw (ne_eqb o.id k (differ 0 o (omega arith))) (no_id os k (λ j d inside. differ (suc j) d (omega arith)))

-- the number of ids below the bound that have an outcome is the number of outcomes
pub count-ids : (n : ℕ) (outcomes : List Outcome) → AreApart outcomes → All (λ o. o.id < n) outcomes → count n (has_id outcomes) ≡ length outcomes
count-ids n [] apart below = count-none n
count-ids n (x ∷ xs) apart below =
    omega (
      arith,
      count-or n (λ k. x.id == k) (has_id xs) (λ k e. missing k (eqb-true x.id k e)),
      count-one n x.id (below 0 x (omega arith)),
      count-ids n xs
          (λ i j d before inside. apart (suc i) (suc j) d (omega arith) (omega arith)) (λ k d inside. below (suc k) d (omega arith)),
    )
  where
    missing : (k : ℕ) → x.id ≡ k → has_id xs k ≡ false
    missing k same = no_id xs k (λ j d inside e. apart 0 (suc j) d (omega arith) (omega arith) (same ∙ sym e))

-- the pending and the initial outcomes are all outcomes
pub pending_rest : (job : Job) (outcomes : List Outcome) → AreApart outcomes → All (λ o. o.id < total job) outcomes → pending job outcomes + length outcomes ≡ total job
pending_rest job outcomes apart below =
    omega (arith, count-not (total job) (has_id outcomes), count-ids (total job) outcomes apart below)

-- ---- a stricter test

-- a stricter test counts at most as much for one number
one_fewer : (a b : Bool) → (a ≡ true → b ≡ true) → one_if a ≤ one_if b
one_fewer true b f = subst (λ (c : Bool). 1 ≤ one_if c) (sym (f refl)) (omega arith)
one_fewer false b f = omega arith

-- if a test counts at least as much as one that passes, it passes
one_back : (a b : Bool) → one_if b ≤ one_if a → b ≡ true → a ≡ true
one_back true b few e = refl
one_back false true few e = absurd (omega (arith, few))
one_back false false few e = e

-- a stricter test counts at most as many numbers
count-fewer : (n : ℕ) (first second : ℕ → Bool) → ((k : ℕ) → first k ≡ true → second k ≡ true) → count n first ≤ count n second
count-fewer zero first second each = omega arith
count-fewer (suc n) first second each =
    omega (arith, count_more n first, count_more n second, count-fewer n first second each, one_fewer (first n) (second n) (each n))

-- if a stricter test counts at least as many numbers, each that passes the other passes it
count-all : (n : ℕ) (first second : ℕ → Bool) → ((k : ℕ) → first k ≡ true → second k ≡ true) → count n second ≤ count n first
    → (k : ℕ) → k < n → second k ≡ true → first k ≡ true
count-all zero first second each few k inside passes = absurd (omega (arith, inside))
count-all (suc n) first second each few k inside passes = by (cases_order k n) (λ fewer l. count-all n first second each fewer k l passes)
  where
    counted : (count n second ≤ count n first) × (one_if (second n) ≤ one_if (first n))
    counted =
        let fewer = count-fewer n first second each in
        let one = one_fewer (first n) (second n) (each n) in (
          omega (arith, few, count_more n first, count_more n second, fewer, one),
          omega (arith, few, count_more n first, count_more n second, fewer, one),
        )

    by : (k ≡ n) ⊎ ((k < n) ⊎ (n < k)) → (count n second ≤ count n first → k < n → first k ≡ true) → first k ≡ true
    by (inl same) rec = subst (λ j. first j ≡ true) (sym same) (one_back (first n) (second n) counted.1 (subst (λ j. second j ≡ true) same passes))
    by (inr (inl before)) rec = rec counted.0 before
    by (inr (inr after)) rec = absurd (omega (arith, inside, after))

-- ---- the pending ids, and those in the run's part

module _ (job : Job) (outcomes : List Outcome) where
  abbrev pub is_pending : ℕ → Bool
  is_pending id = not (has_id outcomes id)

  abbrev pub lies : ℕ → Bool
  lies id = is_pending id && is_in_part job.setting.parts job.setting.part id

  -- an id of the part that is to be walked is pending
  pub lies_misses : (k : ℕ) → lies k ≡ true → is_pending k ≡ true
  lies_misses k e = (and_parts (is_pending k) (is_in_part job.setting.parts job.setting.part k) e).0

  length-run_ids : (budget : ℕ) → length (run_ids job outcomes budget) ≡ min budget (count (total job) lies)
  length-run_ids budget = length-take budget (filter_below (total job) lies)

  -- the ids walked are at most the pending ones
  pub few_run_ids : (budget : ℕ) → length (run_ids job outcomes budget) ≤ pending job outcomes
  few_run_ids budget = omega (arith, length-run_ids budget, count-fewer (total job) lies is_pending lies_misses)

  -- if the number of ids walked is that of the pending ones, each pending id is walked
  pub walks_each : (budget : ℕ) → pending job outcomes ≤ length (run_ids job outcomes budget)
      → (id : ℕ) → id < total job → has_id outcomes id ≡ false → has (run_ids job outcomes budget) id ≡ true
  walks_each budget all id below absent =
      let many = length-run_ids budget in
      let fewer = count-fewer (total job) lies is_pending lies_misses in
      let whole : run_ids job outcomes budget ≡ filter_below (total job) lies =
      take_all budget (filter_below (total job) lies) (omega (arith, all, many, fewer)) in
      subst (λ (ids : List ℕ). has ids id ≡ true) (sym whole)
      (filter_below-has (total job) lies id below (count-all (total job) lies is_pending lies_misses (omega (arith, all, many)) id below (ap not absent)))

  -- with one part, the first pending ids are walked
  whole_part : (budget : ℕ) → job.setting.parts ≡ 1 → job.setting.part ≡ 0 → run_ids job outcomes budget ≡ take budget (pending_ids job outcomes)
  whole_part budget one first =
      ap (λ n. part_ids n job.setting.part job outcomes budget) one
      ∙ ap (λ k. part_ids 1 k job outcomes budget) first
      ∙ only_part job outcomes budget

  -- with one part and a budget for all ids, all pending ids are walked
  pub walks_all : (budget : ℕ) → job.setting.parts ≡ 1 → job.setting.part ≡ 0 → total job ≤ budget → pending job outcomes ≤ length (run_ids job outcomes budget)
  walks_all budget one first enough =
      omega (arith, enough, ap length (whole_part budget one first), length-take budget (pending_ids job outcomes), length-filter_below (total job) is_pending)
