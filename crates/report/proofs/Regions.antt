-- The number of regions, counted by marks, and the lines of splits in all, of the share and of frozen units.
use Rattle.std.proofs.Common.{◌≡◌, ℕ, suc, ◌<◌, ◌≤◌, ◌^◌, Bool, true, false, ◌||◌, List, [], ◌∷◌, length, All, refl, sym, ap, subst, inl, inr, arith}
use Rattle.std.specs.Prelude.{◌==◌, codes, decimal, nat_lt}
use Rattle.std.proofs.lemmas.Bool.{cases_Bool, cond-true, cond-false, eqb-true}
use Rattle.audit_model.specs.Below.{above_all, count_below}
use Rattle.audit_model.specs.Graph.{has}
use Rattle.audit_model.specs.Limits.{AreFrozen}
use Rattle.audit_model.specs.Meets.{region_count}
use Rattle.audit_model.proofs.Below.{count_below_into}
use Rattle.audit_statement.specs.Report.{group_line, line, share_line, splits_line}

-- ---- the marks

-- ---- the number of marks

-- ---- every region has a mark

-- each member of a list is below the least number above all
below_above : (xs : List ℕ) (r : ℕ) → has xs r ≡ true → r < above_all xs
below_above [] r h = cc
below_above (x ∷ xs) r h = elim (cases_Bool (x == r)) [
  | inl here ↦ omega (arith, eqb-true x r here)
  | inr there ↦ let later : has xs r ≡ true = subst (λ b. (b || has xs r) ≡ true) there h in omega (arith, below_above xs r later)
]

-- the least number above all is at most any bound on the members
above_most : (xs : List ℕ) (n : ℕ) → All (λ r. r < n) xs → above_all xs ≤ n
above_most [] n each = omega arith
above_most (x ∷ xs) n each =
    let first : x < n = each 0 0 (omega arith) in
    let rest = above_most xs n (λ k d l. each (suc k) d (omega arith)) in
    omega (arith, first, rest)

-- the marks below 5000 count the different regions
pub regions_counted : (regions : List ℕ) → All (λ r. r < 5000) regions → count_below 5000 (has regions) ≡ region_count regions
regions_counted regions few =
    let test : ℕ → Bool = has regions in
    let more : count_below 5000 test ≤ count_below (above_all regions) test =
    count_below_into 5000 (above_all regions) test test (λ k. k) (λ k l h. (below_above regions k h, h)) (λ j k lj lk hj hk e. e) in
    let fewer : count_below (above_all regions) test ≤ count_below 5000 test =
    count_below_into (above_all regions) 5000 test test (λ k. k) (λ k l h. (omega (arith, l, above_most regions 5000 few), h)) (λ j k lj lk hj hk e. e) in
    omega (arith, more, fewer)

-- ---- the line of splits in all

-- the line is written if there are regions and splits are limited
pub splits_are_observed : (splits most : ℕ) (regions : List ℕ) → (length regions == 0) ≡ false → (nat_lt splits 995000 || nat_lt most 5000) ≡ true
    → line (codes "max-splits" ∷ decimal splits ∷ codes "max-split-regions" ∷ decimal most ∷ []) ≡ splits_line splits most regions
splits_are_observed splits most [] some limited = cc
splits_are_observed splits most (r ∷ rest) some limited =
    sym (cond-true (nat_lt splits 995000 || nat_lt most 5000) (line (codes "max-splits" ∷ decimal splits ∷ codes "max-split-regions" ∷ decimal most ∷ [])) [] limited)

-- ---- the line of a group

-- the line is written if there is a group
pub group_is_observed : (least there : ℕ) (members : List ℕ) → (length members == 0) ≡ false
    → line (codes "group-districts" ∷ decimal least ∷ codes "of" ∷ decimal there ∷ []) ≡ group_line least there members
group_is_observed least there [] some = cc
group_is_observed least there (n ∷ rest) some = refl

-- ---- the line of the share

-- the line is written if there is a group and the share is not one half
pub share_is_observed : (share : ℕ) (members : List ℕ) → (length members == 0) ≡ false → (share == 5000) ≡ false
    → line (codes "group-share" ∷ decimal share ∷ []) ≡ share_line share members
share_is_observed share [] some other = cc
share_is_observed share (n ∷ rest) some other = sym (cond-false (share == 5000) [] (line (codes "group-share" ∷ decimal share ∷ [])) other)

-- ---- the frozen units

-- a column of frozen units is as short as the list of units
pub few_frozen : (units : ℕ) (frozen : List ℕ) → AreFrozen units frozen → units ≤ 100000 → length frozen < 2 ^ 32
few_frozen units frozen (inl none) few = omega (arith, ap length none)
few_frozen units frozen (inr each) few = omega (arith, each, few)
