-- Counts over the visits of one plan that stays.
use Rattle.std.proofs.Common.{◌≡◌, ℕ, zero, suc, ◌+◌, ◌-◌, ◌*◌, ◌<◌, ◌≤◌, Bool, true, false, cond, eqb, List, Option, Some, None, sym, ap, ◌∙◌, arith}
use Rattle.std.proofs.lemmas.Bool.{cond-true, cond-false}
use Rattle.audit_model.specs.declared.setting.Ask.{Ask}
use Rattle.audit_model.specs.Below.{count_below}
use Rattle.audit_model.specs.Job.{Job}
use Rattle.audit_model.specs.Trajectory.{visit}
use Rattle.walker.specs.Asked.{is_inside, inside, visits_inside}
use Rattle.walker.specs.Binned.{plan_bin, visits_binned}
use Rattle.walker.specs.Trail.{IsStill}
use Rattle.walker.proofs.Stepping.{count_below_more}

module _ (test : ℕ → Bool) (from : ℕ) where
  more_is : (k : ℕ) → count_below (from + suc k) test ≡ count_below (from + k + 1) test
  more_is k = ap (λ (n : ℕ). count_below n test) (let e : from + suc k ≡ from + k + 1 = omega arith in e)

  none_is : count_below (from + 0) test ≡ count_below from test
  none_is = ap (λ (n : ℕ). count_below n test) (let e : from + 0 ≡ from = omega arith in e)

  count_yes : (k : ℕ) → ((i : ℕ) → from ≤ i → i < from + k → test i ≡ true) → count_below (from + k) test ≡ count_below from test + k
  count_yes zero same = omega (arith, none_is)
  count_yes (suc k) same =
      let last : test (from + k) ≡ true = same (from + k) (omega arith) (omega arith) in
      omega (arith, more_is k, count_below_more (from + k) test, cond-true {A = ℕ} (test (from + k)) 1 0 last, count_yes k (λ i a b. same i a (omega (arith, b))))

  count_no : (k : ℕ) → ((i : ℕ) → from ≤ i → i < from + k → test i ≡ false) → count_below (from + k) test ≡ count_below from test
  count_no zero same = none_is
  count_no (suc k) same =
      let last : test (from + k) ≡ false = same (from + k) (omega arith) (omega arith) in
      omega (arith, more_is k, count_below_more (from + k) test, cond-false {A = ℕ} (test (from + k)) 1 0 last, count_no k (λ i a b. same i a (omega (arith, b))))

  count_still : (b : Bool) (k : ℕ) → ((i : ℕ) → from ≤ i → i < from + k → test i ≡ b) → count_below (from + k) test ≡ count_below from test + k * cond b 1 0
  count_still true k same = omega (arith, count_yes k same)
  count_still false k same = omega (arith, count_no k same)

module _ (job : Job) (draws : ℕ → ℕ) (from to : ℕ) (still : IsStill job draws from to) where
  -- a test of the plan at each of these visits is the test of the last one
  count_to : (test : List ℕ → Bool) → count_below (to + 1) (λ i. test (visit job draws job.start i))
      ≡ count_below from (λ i. test (visit job draws job.start i)) + (to + 1 - from) * cond (test (visit job draws job.start to)) 1 0
  count_to test =
      let all : from + (to + 1 - from) ≡ to + 1 = omega (arith, still.order) in
      ap (λ (n : ℕ). count_below n (λ i. test (visit job draws job.start i))) (sym all)
      ∙ count_still (λ i. test (visit job draws job.start i)) from (test (visit job draws job.start to)) (to + 1 - from)
      (λ i a b. ap test (still.same i a (omega (arith, b, all))))

  pub inside_still : (o : Option Ask) → visits_inside job draws (to + 1) o
      ≡ visits_inside job draws from o + (to + 1 - from) * inside job (visit job draws job.start to) o
  unfolding visits_inside inside
  inside_still None = omega arith
  inside_still (Some ask) = count_to (λ plan. is_inside job plan ask)

  pub binned_still : (bin : ℕ) → visits_binned job draws (to + 1) bin
      ≡ visits_binned job draws from bin + (to + 1 - from) * cond (eqb (plan_bin job (visit job draws job.start to)) bin) 1 0
  unfolding visits_binned
  binned_still bin = count_to (λ plan. eqb (plan_bin job plan) bin)
