-- The ids to do differ, are below the total and have no initial outcome. That they lie in the job's part is not needed
-- here.
use Rattle.std.proofs.Common.{◌≡◌, ℕ, zero, suc, ◌+◌, ◌<◌, ◌≤◌, not, Bool, true, false, cond, [], ◌∷◌, length, refl, sym, ap, ◌∙◌, ⊎_elim, arith}
use Rattle.std.specs.Prelude.{◌==◌, ◌&&◌}
use Rattle.std.proofs.lemmas.Bool.{and_parts, not-true, eqb-true, cases_Bool}
use Rattle.std.proofs.lemmas.List.Sums.{sum_by-take-le}
use Rattle.audit_model.specs.Below.{filter_below}
use Rattle.audit_model.specs.Run.{total, has_id, is_in_part}
use Rattle.audit_model.specs.Times.{times, once_below}
use Rattle.audit_model.proofs.Times.{one, times-append, times-cons, length-apart, below_from_once}
use Rattle.tally_desk.specs.Parts.{Parts, IsPlan}

-- a range extended by one number counts it once
once_more : (x n : ℕ) → once_below x n + one x n ≡ once_below x (suc n)
once_more x n = let next : n + 1 ≡ suc n = omega arith in let step : once_below x n + one x n ≡ once_below x (n + 1) = grind arith in step ∙ ap (once_below x) next

-- a number taken on a condition occurs at most once
times_if : (x n : ℕ) (b : Bool) → times x (cond b (n ∷ []) []) ≤ one x n
times_if x n true = omega (arith, times-cons x n [])
times_if x n false = omega arith

-- a filtered range has each number at most once
filter_once : (x n : ℕ) (test : ℕ → Bool) → times x (filter_below n test) ≤ once_below x n
filter_once x zero test = omega arith
filter_once x (suc n) test =
    omega (arith, filter_once x n test, times-append x (filter_below n test) (cond (test n) (n ∷ []) []), times_if x n (test n), once_more x n)

-- a number that counts for x is x
one_equal : (x y : ℕ) → 0 < one x y → y ≡ x
one_equal x y some_one = ⊎_elim (λ same. eqb-true y x same) (λ differ. let none : one x y ≡ 0 = ap (λ (b : Bool). cond b 1 0) differ in absurd (omega arith)) (cases_Bool (y == x))

-- a number taken on a condition passes the test
passes_if : (x n : ℕ) (test : ℕ → Bool) (b : Bool) → test n ≡ b → 0 < times x (cond b (n ∷ []) []) → test x ≡ true
passes_if x n test true is some_here = ap test (sym (one_equal x n (omega (arith, some_here, times-cons x n [])))) ∙ is
passes_if x n test false is some_here = absurd (omega arith)

-- each number of a filtered range passes the test
filter_passes : (x n : ℕ) (test : ℕ → Bool) → 0 < times x (filter_below n test) → test x ≡ true
filter_passes x zero test some_here = absurd (omega arith)
filter_passes x (suc n) test some_here = by (times x (filter_below n test)) refl (filter_passes x n test)
  where
    by : (k : ℕ) → times x (filter_below n test) ≡ k → (0 < times x (filter_below n test) → test x ≡ true) → test x ≡ true
    by zero none before = passes_if x n test (test n) refl (omega (arith, some_here, none, times-append x (filter_below n test) (cond (test n) (n ∷ []) [])))
    by (suc k) more before = before (omega (arith, more))

module _ (parts : Parts) (plan : IsPlan parts) where
  abbrev is_pending : ℕ → Bool
  is_pending id = not (has_id parts.initial_outcomes id) && is_in_part parts.job.setting.parts parts.job.setting.part id

  todo_taken : (x : ℕ) → times x parts.todo ≤ times x (filter_below (total parts.job) is_pending)
  todo_taken x = omega (arith, ap (times x) plan.todo.1, sum_by-take-le (one x) (filter_below (total parts.job) is_pending) plan.todo.0)

  pub todo_below_total : (x : ℕ) → times x parts.todo ≤ once_below x (total parts.job)
  todo_below_total x = omega (arith, todo_taken x, filter_once x (total parts.job) is_pending)

  pub todo_once : (x : ℕ) → times x parts.todo ≤ 1
  todo_once x = let most : once_below x (total parts.job) ≤ 1 = grind arith in omega (arith, todo_below_total x, most)

  pub todo_within : (x : ℕ) → 0 < times x parts.todo → x < total parts.job
  todo_within x some_here = below_from_once x (total parts.job) (omega (arith, some_here, todo_below_total x))

  pub todo_missing : (x : ℕ) → 0 < times x parts.todo → has_id parts.initial_outcomes x ≡ false
  todo_missing x some_here = not-true (has_id parts.initial_outcomes x)
      (and_parts (not (has_id parts.initial_outcomes x)) (is_in_part parts.job.setting.parts parts.job.setting.part x)
      (filter_passes x (total parts.job) is_pending (omega (arith, some_here, todo_taken x)))).0

  pub todo_few : length parts.todo ≤ total parts.job
  todo_few = length-apart (total parts.job) parts.todo todo_below_total

  pub todo_small : length parts.todo ≤ 100000
  todo_small = let most = todo_few in let small = plan.book.small in omega (arith, most, small)
