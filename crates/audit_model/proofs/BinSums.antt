-- Each visited plan is in one bin, so the histogram of a walk adds up to the number of its visits.
use Rattle.std.proofs.Common.{◌≡◌, ℕ, zero, suc, ◌+◌, ◌≤◌, Bool, true, cond, refl, ◌∙◌, arith}
use Rattle.std.specs.Prelude.{◌==◌, sum}
use Rattle.audit_model.specs.Below.{count_below}
use Rattle.audit_model.specs.Job.{Job}
use Rattle.audit_model.specs.Trajectory.{bin_of, histogram_by, plan_seats, visit}

-- 1 for true, 0 for false
one : Bool → ℕ
one b = cond b 1 0

-- a number up to 8 passes exactly one of nine tests
in_one : (k : ℕ) → k ≤ 8
    → 0 + one (k == 0) + one (k == 1) + one (k == 2) + one (k == 3) + one (k == 4) + one (k == 5) + one (k == 6) + one (k == 7) + one (k == 8) ≡ 1
unfolding one
in_one zero few = refl
in_one (suc zero) few = refl
in_one (suc (suc zero)) few = refl
in_one (suc (suc (suc zero))) few = refl
in_one (suc (suc (suc (suc zero)))) few = refl
in_one (suc (suc (suc (suc (suc zero))))) few = refl
in_one (suc (suc (suc (suc (suc (suc zero)))))) few = refl
in_one (suc (suc (suc (suc (suc (suc (suc zero))))))) few = refl
in_one (suc (suc (suc (suc (suc (suc (suc (suc zero)))))))) few = refl
in_one (suc (suc (suc (suc (suc (suc (suc (suc (suc k))))))))) few = absurd (omega arith)

-- the sum of a function's first nine values
nine : (ℕ → ℕ) → ℕ
nine g = 0 + g 0 + g 1 + g 2 + g 3 + g 4 + g 5 + g 6 + g 7 + g 8

-- the sum of nine sums splits into both sums
nine_sum : (g h : ℕ → ℕ) → nine (λ b. g b + h b) ≡ nine g + nine h
unfolding nine
nine_sum g h = omega arith

module _ (f : ℕ → ℕ) (few : (i : ℕ) → f i ≤ 8) where
  counted : (n : ℕ) → nine (λ b. count_below n (λ i. f i == b)) ≡ n
  unfolding nine one count_below
  counted zero = refl
  counted (suc n) =
      let more = nine_sum (λ b. count_below n (λ i. f i == b)) (λ b. one (f n == b)) in
      let next : nine (λ b. one (f n == b)) ≡ 1 = in_one (f n) (few n) in
      more ∙ (let before = counted n in omega (arith, before, next))

-- the bin of a plan is at most 8
pub bin_is_small : (a b : ℕ) → bin_of a b ≤ 8
bin_is_small a b = omega arith

-- the histogram of a walk adds up to the number of its visits, the start plan included
pub histogram_adds_up : (job : Job) (draws : ℕ → ℕ) → sum (histogram_by true job draws) ≡ job.setting.steps + 1
unfolding nine
histogram_adds_up job draws =
    counted (λ i. bin_of (plan_seats job (visit job draws job.start i)) (plan_seats job job.start))
    (λ i. bin_is_small (plan_seats job (visit job draws job.start i)) (plan_seats job job.start)) (job.setting.steps + 1)
