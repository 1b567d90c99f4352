-- Plans that fit the tables before and after a move.
use Rattle.std.proofs.Common.{◌≡◌, ℕ, ◌<◌, ◌≤◌, true, ◌&&◌, ◌==◌, List, length, set, ◌⊎◌, inl, inr, arith}
use Rattle.std.specs.Prelude.{nat_le}
use Rattle.std.proofs.lemmas.Bool.{and_parts, eqb-true, leb-true, or_cases}
use Rattle.audit_model.specs.declared.rules.Rules.{Rules}
use Rattle.audit_model.specs.Below.{above_all}
use Rattle.region_guard.specs.Standing.{IsFitStep, IsStep, is_fitting, is_for}

-- a list for this many units is empty or has one entry per unit
pub for_cases : (units : ℕ) (entries : List ℕ) → is_for units entries ≡ true → (length entries ≡ 0) ⊎ (length entries ≡ units)
for_cases units entries h = elim (or_cases (length entries == 0) (length entries == units) h) [
  | inl none ↦ inl (eqb-true (length entries) 0 none)
  | inr all ↦ inr (eqb-true (length entries) units all)
]

-- there are at most `units` entries
pub no_more : (units : ℕ) (entries : List ℕ) → is_for units entries ≡ true → length entries ≤ units
no_more units entries h = elim (for_cases units entries h) [ inl none ↦ omega (arith, none) | inr all ↦ omega (arith, all) ]

-- the conditions under which a plan fits the tables
pub record IsFit (rules : Rules) (districts units above : ℕ) : Type 0 where
  pub regions : is_for units rules.regions ≡ true
  pub group : is_for units rules.group.members ≡ true
  pub frozen : is_for units rules.frozen ≡ true
  pub below : above ≤ districts

pub fit_parts : (rules : Rules) (districts units above : ℕ) → is_fitting rules districts units above ≡ true → IsFit rules districts units above
fit_parts rules districts units above h =
    let last = and_parts (is_for units rules.regions && is_for units rules.group.members && is_for units rules.frozen) (nat_le above districts) h in
    let third = and_parts (is_for units rules.regions && is_for units rules.group.members) (is_for units rules.frozen) last.0 in
    let parts = and_parts (is_for units rules.regions) (is_for units rules.group.members) third.0 in
    record { regions = parts.0; group = parts.1; frozen = third.1; below = leb-true above districts last.1 }

module _ (rules : Rules) (districts : ℕ) (after : List ℕ) (u from : ℕ) (taken : is_fitting rules districts (length after) (above_all after) ≡ true)
    (inside : u < length after) (taken_before : is_fitting rules districts (length (set after u from)) (above_all (set after u from)) ≡ true) where
  here : IsFit rules districts (length after) (above_all after)
  here = fit_parts rules districts (length after) (above_all after) taken

-- if the list is not empty, each unit has an entry
pub sure_step : (entries : List ℕ) (districts : ℕ) (after : List ℕ) (u from : ℕ) → IsFitStep entries districts after u from → (length entries ≡ 0 → ⊥)
    → IsStep entries districts after u from
sure_step entries districts after u from step some = record {
  long = elim (for_cases (length after) entries step.long) [ inl none ↦ absurd (some none) | inr all ↦ omega (arith, all) ];
  unit_below = step.unit_below;
  after_below = step.after_below;
  before_below = step.before_below;
}
