-- Sums of the districts, and districts outside the population bounds.
use Rattle.std.proofs.Common.{◌≡◌, ℕ, ◌+◌, ◌*◌, ◌<◌, ◌≤◌, ◌⊎◌, true, cond, not, ◌&&◌, List, length, get_or, set, Option, Some, None, refl, sym, ap, ◌∙◌, subst, inl, inr, arith, add-one, get_or-set_same, get_or-set_other}
use Rattle.std.specs.Prelude.{◌==◌, nat_le, option_map}
use Rattle.std.specs.List.{All, sum}
use Rattle.std.proofs.lemmas.Bool.{and_parts, and_from, cases_eq, cond-true, cond-false, eq-eqb, ne_eqb, leb-true, le-leb, not_from_false, false_from_ne_true}
use Rattle.std.proofs.lemmas.List.Sums.{sum_by-le}
use Rattle.audit_model.specs.declared.fault.PlanFault.TheVariants.{OutOfBounds}
use Rattle.audit_model.specs.Below.{sum_below}
use Rattle.audit_model.specs.First.{first_below}
use Rattle.audit_model.specs.Job.{Job}
use Rattle.audit_model.specs.JobOf.{is_unbalanced, out_of_bounds, bounds_fault}
use Rattle.audit_model.specs.District.{in_district, district_sum}
use Rattle.audit_model.specs.Plan.{is_balanced, least_population, greatest_population}
use Rattle.audit_model.proofs.Accepted.{balanced_between}
use Rattle.audit_model.proofs.Legal.{balanced_passes, passes_balanced}
use Rattle.audit_model.proofs.Bools.{same_bool}
use Rattle.audit_model.proofs.First.{first_below_same, first_below_some}
use Rattle.plan_core.specs.Outside.{is_outside, outside, first_outside}

-- the sum of 100,000 numbers of at most 10 ^ 9 is at most 10 ^ 14
pub sum_small : (xs : List ℕ) → length xs ≤ 100000 → All (λ n. n ≤ 1000000000) xs → sum xs ≤ 100000000000000
sum_small xs few small = omega (arith, sum_by-le (λ x. x) 1000000000 xs small)

-- ---- the sums of the districts

-- adding one more unit
pub sums_more : (plan column sums : List ℕ) (unit d : ℕ) → length sums ≡ 200 → get_or plan unit 0 < 200
    → get_or sums d 0 ≡ sum_below unit (λ u. cond (in_district plan d u) (get_or column u 0) 0)
    → get_or (set sums (get_or plan unit 0) (get_or sums (get_or plan unit 0) 0 + get_or column unit 0)) d 0
    ≡ sum_below (unit + 1) (λ u. cond (in_district plan d u) (get_or column u 0) 0)
sums_more plan column sums unit d width below so_far =
    let p : ℕ = get_or plan unit 0 in
    let x : ℕ = get_or column unit 0 in
    let f : ℕ → ℕ = λ u. cond (in_district plan d u) (get_or column u 0) 0 in
    let last : sum_below (unit + 1) f ≡ sum_below unit f + f unit = rw add-one refl in
    elim (cases_eq d p) [
      | inl e ↦
          let here : get_or (set sums p (get_or sums p 0 + x)) d 0 ≡ get_or sums p 0 + x =
          subst (λ t. get_or (set sums p (get_or sums p 0 + x)) t 0 ≡ get_or sums p 0 + x) (sym e) (get_or-set_same sums p (get_or sums p 0 + x) 0 (omega (arith, below, width))) in
          let same : get_or sums p 0 ≡ get_or sums d 0 = ap (λ t. get_or sums t 0) (sym e) in
          let counts : f unit ≡ x = cond-true (p == d) x 0 (eq-eqb p d (sym e)) in
          here ∙ ap (λ t. t + x) (same ∙ so_far) ∙ ap (λ t. sum_below unit f + t) (sym counts) ∙ sym last
      | inr off ↦
          let there : get_or (set sums p (get_or sums p 0 + x)) d 0 ≡ get_or sums d 0 = get_or-set_other sums p d (get_or sums p 0 + x) 0 off in
          let none : f unit ≡ 0 = cond-false (p == d) x 0 (ne_eqb p d (λ e. off (sym e))) in
          omega (arith, there, so_far, none, last)
    ]

-- after one more unit, each sum is at most 10 ^ 9 per unit
pub sums_stay_small : (column sums : List ℕ) (unit p d : ℕ) → length sums ≡ 200 → p < 200 → get_or column unit 0 ≤ 1000000000
    → ((e : ℕ) → e < 200 → get_or sums e 0 ≤ 1000000000 * unit) → d < 200
    → get_or (set sums p (get_or sums p 0 + get_or column unit 0)) d 0 ≤ 1000000000 * (unit + 1)
sums_stay_small column sums unit p d width below small so_far l = elim (cases_eq d p) [
  | inl e ↦
      let here : get_or (set sums p (get_or sums p 0 + get_or column unit 0)) d 0 ≡ get_or sums p 0 + get_or column unit 0 =
      subst (λ t. get_or (set sums p (get_or sums p 0 + get_or column unit 0)) t 0 ≡ get_or sums p 0 + get_or column unit 0) (sym e)
      (get_or-set_same sums p (get_or sums p 0 + get_or column unit 0) 0 (omega (arith, below, width))) in
      omega (arith, here, so_far p below, small)
  | inr off ↦
      let there : get_or (set sums p (get_or sums p 0 + get_or column unit 0)) d 0 ≡ get_or sums d 0 =
      get_or-set_other sums p d (get_or sums p 0 + get_or column unit 0) 0 off in
      omega (arith, there, so_far d l)
]

-- ---- the bounds

-- a number below the least or above the greatest is outside the bounds
pub outside_passes : (low high p : ℕ) → (p < low) ⊎ ((low ≤ p) × (high < p)) → not (nat_le low p && nat_le p high) ≡ true
outside_passes low high p h = not_from_false (nat_le low p && nat_le p high) (false_from_ne_true (nat_le low p && nat_le p high) (λ both. elim h [
  | inl l ↦ omega (arith, l, leb-true low p (and_parts (nat_le low p) (nat_le p high) both).0)
  | inr l ↦ omega (arith, l.1, leb-true p high (and_parts (nat_le low p) (nat_le p high) both).1)
]))

-- a population is balanced exactly if it lies between the bounds
balanced_is : (job : Job) (p : ℕ) → 0 < job.districts → is_balanced job p ≡ (nat_le (least_population job) p && nat_le p (greatest_population job))
balanced_is job p above =
    let between = balanced_between job p above in
    same_bool (is_balanced job p) (nat_le (least_population job) p && nat_le p (greatest_population job))
    (λ h. let parts = between.0 (passes_balanced job p h) in and_from _ _ (le-leb (least_population job) p parts.0) (le-leb p (greatest_population job) parts.1))
    (λ h.
    let parts = and_parts (nat_le (least_population job) p) (nat_le p (greatest_population job)) h in
    balanced_passes job p (between.1 (leb-true (least_population job) p parts.0, leb-true p (greatest_population job) parts.1)))

-- mapping functions that agree on the item there gives equal options
option_map_same : {A : Type 0} (o : Option ℕ) (f g : ℕ → A) → ((k : ℕ) → o ≡ Some k → f k ≡ g k) → option_map f o ≡ option_map g o
option_map_same None f g each = refl
option_map_same (Some k) f g each = ap (λ x. Some x) (each k refl)

-- the fault, computed from the sums of the districts
pub outside_is_fault : (job : Job) (populations : List ℕ) → 0 < job.districts
    → ((d : ℕ) → d < job.districts → get_or populations d 0 ≡ district_sum job.counts.population job.start d)
    → first_outside populations job.districts (least_population job) (greatest_population job) ≡ bounds_fault job
outside_is_fault job populations above sums =
    let low : ℕ = least_population job in
    let high : ℕ = greatest_population job in
    let tests : first_below job.districts (is_outside populations low high) ≡ first_below job.districts (is_unbalanced job) =
    first_below_same job.districts (is_outside populations low high) (is_unbalanced job) (λ d l.
    ap (λ (p : ℕ). not (nat_le low p && nat_le p high)) (sums d l)
    ∙ ap not (sym (balanced_is job (district_sum job.counts.population job.start d) above))) in
    ap (option_map (outside populations low high)) tests
    ∙ option_map_same (first_below job.districts (is_unbalanced job)) (outside populations low high) (out_of_bounds job) (λ d some.
    ap (λ (p : ℕ). OutOfBounds d p low high) (sums d (first_below_some job.districts (is_unbalanced job) d some).0))
