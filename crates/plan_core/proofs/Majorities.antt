-- Majorities of a group, counted over the districts' sums.
use Rattle.std.proofs.Common.{◌≡◌, ℕ, zero, suc, ◌*◌, ◌<◌, ◌≤◌, Bool, true, false, cond, List, [], length, refl, ap, ◌∙◌, inl, inr, arith}
use Rattle.std.specs.Prelude.{nat_lt, slice_index}
use Rattle.std.proofs.lemmas.Bool.{cases_lt, cond-false, le-ltb, ltb-true, ne_eqb}
use Rattle.audit_model.specs.declared.rules.Group.{Group}
use Rattle.audit_model.specs.Below.{above_all, count_below, sum_below}
use Rattle.audit_model.specs.District.{in_district, district_sum}
use Rattle.audit_model.specs.Meets.{has_majority, majorities}
use Rattle.audit_model.proofs.Below.{count_below_into, count_below_none, count_below_same}
use Rattle.audit_model.proofs.Meeting.{below_above_all}
use Rattle.plan_core.proofs.Splitting.{above_all_most}

-- a choice between two zeros is zero
nothing : (b : Bool) → ◌≡◌ {A = ℕ} (cond b 0 0) 0
nothing true = refl
nothing false = refl

-- a sum of zeros is zero
sum_of_nothing : (n : ℕ) (f : ℕ → ℕ) → ((u : ℕ) → u < n → f u ≡ 0) → sum_below n f ≡ 0
sum_of_nothing zero f each = refl
sum_of_nothing (suc n) f each = omega (arith, sum_of_nothing n f (λ u l. each u (omega (arith, l))), each n (omega arith))

-- an empty column has the sum 0 in each district
no_sum : (plan : List ℕ) (d : ℕ) → district_sum [] plan d ≡ 0
no_sum plan d = sum_of_nothing (length plan) (λ u. cond (in_district plan d u) (slice_index [] u) 0) (λ u l. nothing (in_district plan d u))

-- districts beyond the plan's have the sum 0
past_sum : (column plan : List ℕ) (d : ℕ) → above_all plan ≤ d → district_sum column plan d ≡ 0
past_sum column plan d past = sum_of_nothing (length plan) (λ u. cond (in_district plan d u) (slice_index column u) 0) (λ u l.
    let below = below_above_all plan u l in
    cond-false (in_district plan d u) (slice_index column u) 0 (ne_eqb (slice_index plan u) d (λ e. omega (arith, e, below, past))))

-- a group without members in a district has no majority there
no_majority : (share : ℕ) (group : Group) (plan : List ℕ) (d : ℕ) → district_sum group.members plan d ≡ 0 → has_majority share group plan d ≡ false
no_majority share group plan d none = le-ltb (share * district_sum group.whole plan d) (10000 * district_sum group.members plan d) (omega (arith, none))

-- a group without members has no majority
pub none_has_majority : (share : ℕ) (group : Group) (plan : List ℕ) → group.members ≡ [] → majorities share group plan ≡ 0
none_has_majority share group plan none = count_below_none (above_all plan) (has_majority share group plan) (λ d l.
    no_majority share group plan d (ap (λ column. district_sum column plan d) none ∙ no_sum plan d))

-- a district with a majority is one of the plan's
majority_is_within : (share : ℕ) (group : Group) (plan : List ℕ) (d : ℕ) → has_majority share group plan d ≡ true → d < above_all plan
majority_is_within share group plan d has = elim (cases_lt d (above_all plan)) [
  | inl l ↦ l
  | inr past ↦
      let more = ltb-true (share * district_sum group.whole plan d) (10000 * district_sum group.members plan d) has in
      omega (arith, more, past_sum group.members plan d past)
]

-- counting over all 200 possible districts finds the plan's majorities
pub majorities_are : (share : ℕ) (group : Group) (plan members whole : List ℕ) → ((u : ℕ) → u < length plan → slice_index plan u < 200)
    → ((d : ℕ) → d < 200 → slice_index members d ≡ district_sum group.members plan d)
    → ((d : ℕ) → d < 200 → slice_index whole d ≡ district_sum group.whole plan d)
    → count_below 200 (λ d. nat_lt (share * slice_index whole d) (10000 * slice_index members d)) ≡ majorities share group plan
majorities_are share group plan members whole below members_are whole_is =
    let test : ℕ → Bool = has_majority share group plan in
    let same : count_below 200 (λ d. nat_lt (share * slice_index whole d) (10000 * slice_index members d)) ≡ count_below 200 test =
    count_below_same 200 (λ d. nat_lt (share * slice_index whole d) (10000 * slice_index members d)) test (λ d l.
    ap (λ (n : ℕ). nat_lt (share * n) (10000 * slice_index members d)) (whole_is d l) ∙ ap (λ (n : ℕ). nat_lt (share * district_sum group.whole plan d) (10000 * n)) (members_are d l)) in
    let more : count_below 200 test ≤ count_below (above_all plan) test = count_below_into 200 (above_all plan) test test (λ k. k)
    (λ k l h. (majority_is_within share group plan k h, h)) (λ j k lj lk hj hk e. e) in
    let fewer : count_below (above_all plan) test ≤ count_below 200 test = count_below_into (above_all plan) 200 test test (λ k. k)
    (λ k l h. (omega (arith, l, above_all_most plan 200 below), h)) (λ j k lj lk hj hk e. e) in
    omega (arith, same, more, fewer)
