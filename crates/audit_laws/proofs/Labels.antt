-- The districts of a parsed graph are numbered without gaps.
use Rattle.std.proofs.Common.{◌≡◌, ℕ, zero, suc, ◌<◌, ◌≤◌, true, false, not, ◌&&◌, refl, sym, ap, ◌∙◌, inl, inr, arith, Bool}
use Rattle.std.specs.Prelude.{◌==◌}
use Rattle.std.proofs.lemmas.Bool.{and_parts, both_ways, cases_Bool, cases_lt, eqb-true, false_from_ne_true, not-true, not_from_false}
use Rattle.audit_model.specs.declared.setting.Columns.{Columns}
use Rattle.audit_model.specs.declared.setting.Label.{Label}
use Rattle.audit_model.specs.Below.{any_below, count_below}
use Rattle.audit_model.specs.Label.{label_before, same_label}
use Rattle.audit_statement.specs.Reading.{Document, district_at, is_new_label, label_at, label_count, node_count}
use Rattle.audit_model.proofs.Below.{any_below_from, any_below_some, count_below_into, count_below_without}
use Rattle.audit_model.proofs.Connected.{grows}
use Rattle.audit_model.proofs.Labels.{equal_same}
use Rattle.audit_laws.proofs.Numbering.{IsOnto}
use Rattle.audit_laws.proofs.Reading.{first_with, not_before_itself, rises, three_ways}

-- a test that all numbers pass counts all numbers below the bound
counted_all : (n : ℕ) → count_below n (λ _. true) ≡ n
unfolding count_below
counted_all zero = refl
counted_all (suc n) = omega (arith, counted_all n)

module _ (d : Document) (columns : Columns) where
  abbrev new : ℕ → Bool
  new = is_new_label d columns

  abbrev before : ℕ → ℕ → Bool
  before i j = label_before (label_at d columns i) (label_at d columns j)

  below_all : (u : ℕ) → u < node_count d → district_at d columns u < label_count d columns
  below_all u l =
      let first = first_with d columns (suc u) u (omega arith) in
      let out : before first.0 u ≡ false =
      ap (λ (a : Label). label_before a (label_at d columns u)) first.3 ∙ not_before_itself (label_at d columns u) in
      elim (grows (node_count d) (λ j. new j && before j u) new (λ w under p. (and_parts (new w) (before w u) p).0)) [
        | inl fewer ↦ fewer
        | inr all ↦ absurd (both_ways (before first.0 u) out
            (and_parts (new first.0) (before first.0 u) (all.1 first.0 (omega (arith, first.1, l)) first.2)).1)
      ]

  -- of two nodes with one label, the later is not the first
  no_twins : (u v : ℕ) → u < v → label_at d columns u ≡ label_at d columns v → new v ≡ true → ⊥
  no_twins u v l same first =
      both_ways (any_below v (λ j. same_label (label_at d columns j) (label_at d columns v)))
      (not-true (any_below v (λ j. same_label (label_at d columns j) (label_at d columns v))) first)
      (any_below_from v (λ j. same_label (label_at d columns j) (label_at d columns v)) u l
      (equal_same (label_at d columns u) (label_at d columns v) same))

  apart : (u v : ℕ) → u < node_count d → v < node_count d → new u ≡ true → new v ≡ true → district_at d columns u ≡ district_at d columns v → u ≡ v
  apart u v l m p q e = elim (three_ways (label_at d columns u) (label_at d columns v)) [
    | inl less ↦ absurd (omega (arith, e, rises d columns u v l less))
    | inr (inl same) ↦ elim (cases_lt u v) [
      | inl under ↦ absurd (no_twins u v under same q)
      | inr past ↦ elim (cases_lt v u) [
        | inl under ↦ absurd (no_twins v u under (sym same) p)
        | inr level ↦ omega (arith, past, level)
      ]
    ]
    | inr (inr more) ↦ absurd (omega (arith, e, rises d columns v u m more))
  ]

  -- each number below the count of labels is a district
  each : (k : ℕ) → k < label_count d columns → (u : ℕ) × (u < node_count d) × (district_at d columns u ≡ k)
  each k l = elim (cases_Bool (any_below (node_count d) (λ u. district_at d columns u == k))) [
    | inl some ↦
        let at = any_below_some (node_count d) (λ u. district_at d columns u == k) some in
        (at.0, at.1, eqb-true (district_at d columns at.0) k at.2)
    | inr none ↦
        let fewer : label_count d columns ≤ count_below (label_count d columns) (λ j. true && not (j == k)) =
        count_below_into (node_count d) (label_count d columns) new (λ j. true && not (j == k)) (district_at d columns)
        (λ u m first. (
          below_all u m,
          not_from_false (district_at d columns u == k) (false_from_ne_true (district_at d columns u == k) (λ here.
              both_ways (any_below (node_count d) (λ w. district_at d columns w == k)) none
              (any_below_from (node_count d) (λ w. district_at d columns w == k) u m here))),
        ))
        (λ u v m n p q e. apart u v m n p q e) in
        absurd (omega (arith, fewer, count_below_without (label_count d columns) (λ _. true) k l refl, counted_all (label_count d columns)))
  ]

  pub districts_onto : IsOnto (node_count d) (label_count d columns) (district_at d columns)
  districts_onto = record { within = below_all; each = each }
