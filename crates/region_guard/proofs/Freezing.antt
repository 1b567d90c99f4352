-- Plans that keep the districts of frozen units, before and after a move.
use Rattle.std.proofs.Common.{◌≡◌, ℕ, ◌<◌, true, List, length, sym, ap, ◌∙◌, inl, inr, arith}
use Rattle.std.specs.Prelude.{◌==◌, slice_index}
use Rattle.std.proofs.Math.ListN.{set}
use Rattle.std.proofs.lemmas.Bool.{cases_eq, eq-eqb, ne_eqb}
use Rattle.std.proofs.lemmas.List.{get_or-set_other}
use Rattle.audit_model.specs.Meets.{keeps_frozen}
use Rattle.audit_model.proofs.Meeting.{keeps_passes, passes_keeps, strayed}

module _ (frozen home after : List ℕ) (u from : ℕ) (kept : keeps_frozen frozen home (set after u from) ≡ true) where
  -- if the unit that moved is not frozen or is in its own district, the plan after the move keeps all frozen units
  pub keeps_moved : (u < length frozen → 0 < slice_index frozen u → slice_index after u ≡ slice_index home u) → keeps_frozen frozen home after ≡ true
  keeps_moved here = keeps_passes frozen home after (λ v l some. elim (cases_eq v u) [
    | inl e ↦ ap (slice_index after) e ∙ here (omega (arith, l, e)) (omega (arith, some, ap (slice_index frozen) e)) ∙ ap (slice_index home) (sym e)
    | inr off ↦ sym (get_or-set_other after u v from 0 off) ∙ passes_keeps frozen home (set after u from) kept v l some
  ])

  -- if the unit that moved is frozen, its district decides
  pub keeps_decided : u < length frozen → (slice_index frozen u ≡ 0 → ⊥) → (slice_index after u == slice_index home u) ≡ keeps_frozen frozen home after
  keeps_decided l some = elim (cases_eq (slice_index after u) (slice_index home u)) [
    | inl e ↦ eq-eqb (slice_index after u) (slice_index home u) e ∙ sym (keeps_moved (λ _ _. e))
    | inr off ↦ ne_eqb (slice_index after u) (slice_index home u) off ∙ sym (strayed frozen home after u l some off)
  ]
