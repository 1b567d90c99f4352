-- Open pairs before and after a move.
use Rattle.std.proofs.Common.{◌≡◌, ℕ, ◌<◌, Bool, true, false, not, ◌&&◌, ◌||◌, ◌==◌, List, [], ◌∷◌, length, get_or, set, refl, sym, ap, ◌∙◌, inl, inr}
use Rattle.std.specs.List.{list_any}
use Rattle.std.proofs.lemmas.Bool.{cases_Bool, cases_eq, eq-eqb, eqb-true, eqb-false, ne_eqb, and_left, and_from, and_parts, or_left, or_right, both_ways, not-true, not_from_true, not_from_false}
use Rattle.std.proofs.lemmas.List.{get_or-set_same, get_or-set_other}
use Rattle.std.proofs.lemmas.List.Folds.{list_any_at}
use Rattle.audit_model.specs.Graph.{Graph, IsGraph, has, adjacent}
use Rattle.audit_model.specs.District.{in_district}
use Rattle.audit_model.proofs.ListFacts.{has_at}
use Rattle.audit_model.proofs.Every.{some_from_any}
use Rattle.flip_kernel.specs.OpenPairs.{is_open}

-- tests that agree on the items of a list agree on it
any_same : (p q : ℕ → Bool) (xs : List ℕ) → ((v : ℕ) → has xs v ≡ true → p v ≡ q v) → list_any p xs ≡ list_any q xs
any_same p q [] same = refl
any_same p q (x ∷ xs) same =
    ap (λ b. b || list_any p xs) (same x (or_left (x == x) (has xs x) (eq-eqb x x refl)))
    ∙ ap (λ b. q x || b) (any_same p q xs (λ v h. same v (or_right (x == v) (has xs v) h)))

module _ (g : Graph) (plan : List ℕ) where
  -- a neighbor in the district opens it to a unit of another district
  pub open_from : (u d v : ℕ) → (get_or plan u 0 ≡ d → ⊥) → adjacent g u v ≡ true → get_or plan v 0 ≡ d → is_open g plan u d ≡ true
  open_from u d v off near there =
      let at = has_at (get_or g.neighbours u []) v near in
      and_from (not (in_district plan d u)) (list_any (in_district plan d) (get_or g.neighbours u []))
      (not_from_false (in_district plan d u) (ne_eqb (get_or plan u 0) d off))
      (list_any_at (in_district plan d) (get_or g.neighbours u []) at.0 0 at.1 (ap (in_district plan d) at.2 ∙ eq-eqb (get_or plan v 0) d there))

  -- a unit to which a district is open is in another district
  pub open_elsewhere : (u d : ℕ) → is_open g plan u d ≡ true → get_or plan u 0 ≡ d → ⊥
  open_elsewhere u d h e =
      let parts = and_parts (not (in_district plan d u)) (list_any (in_district plan d) (get_or g.neighbours u [])) h in
      both_ways (in_district plan d u) (not-true (in_district plan d u) parts.0) (eq-eqb (get_or plan u 0) d e)

  -- a unit to which a district is open has a neighbor in it
  pub open_neighbour : (u d : ℕ) → is_open g plan u d ≡ true → (v : ℕ) × (adjacent g u v ≡ true) × (get_or plan v 0 ≡ d)
  open_neighbour u d h =
      let parts = and_parts (not (in_district plan d u)) (list_any (in_district plan d) (get_or g.neighbours u [])) h in
      let found = some_from_any (in_district plan d) (get_or g.neighbours u []) parts.1 in
      (found.0, found.1, eqb-true (get_or plan found.0 0) d found.2)

  -- no district is open to its own units
  pub not_open : (u d : ℕ) → get_or plan u 0 ≡ d → is_open g plan u d ≡ false
  not_open u d e =
      and_left (not (in_district plan d u)) (list_any (in_district plan d) (get_or g.neighbours u []))
      (not_from_true (in_district plan d u) (eq-eqb (get_or plan u 0) d e))

  -- a unit's district is open to each neighbor in another district
  pub open_to_neighbour : (u v d : ℕ) → IsGraph g → adjacent g u v ≡ true → get_or plan u 0 ≡ d → is_open g plan v d ≡ not (get_or plan v 0 == d)
  open_to_neighbour u v d sound near is = elim (cases_Bool (get_or plan v 0 == d)) [
    | inl here ↦ not_open v d (eqb-true (get_or plan v 0) d here) ∙ sym (not_from_true (get_or plan v 0 == d) here)
    | inr off ↦ open_from v d u (eqb-false (get_or plan v 0) d off) (sound.symmetric v u ∙ near) is ∙ sym (not_from_false (get_or plan v 0 == d) off)
  ]

-- plans that agree on a district at a unit and its neighbors agree on the pair
open_same : (g : Graph) (p q : List ℕ) (u d : ℕ) → in_district p d u ≡ in_district q d u
    → ((v : ℕ) → adjacent g u v ≡ true → in_district p d v ≡ in_district q d v) → is_open g p u d ≡ is_open g q u d
open_same g p q u d own each =
    ap (λ b. not b && list_any (in_district p d) (get_or g.neighbours u [])) own
    ∙ ap (λ b. not (in_district q d u) && b) (any_same (in_district p d) (in_district q d) (get_or g.neighbours u []) each)

module _ (g : Graph) (plan : List ℕ) (unit home : ℕ) (l : unit < length plan) where
  pub in_other : (d v : ℕ) → (d ≡ home → ⊥) → (d ≡ get_or plan unit 0 → ⊥) → in_district (set plan unit home) d v ≡ in_district plan d v
  in_other d v off other = elim (cases_eq v unit) [
    | inl e ↦
        ap (in_district (set plan unit home) d) e
        ∙ ap (λ (x : ℕ). x == d) (get_or-set_same plan unit home 0 l)
        ∙ ne_eqb home d (λ x. off (sym x))
        ∙ sym (ne_eqb (get_or plan unit 0) d (λ x. other (sym x)))
        ∙ ap (in_district plan d) (sym e)
    | inr apart ↦ ap (λ (x : ℕ). x == d) (get_or-set_other plan unit v home 0 apart)
  ]

  -- a move does not change pairs with a third district
  pub open_other : (u d : ℕ) → (d ≡ home → ⊥) → (d ≡ get_or plan unit 0 → ⊥) → is_open g (set plan unit home) u d ≡ is_open g plan u d
  open_other u d off other = open_same g (set plan unit home) plan u d (in_other d u off other) (λ v near. in_other d v off other)

  -- a move does not change pairs of units that are not adjacent to the unit that moves
  pub open_far : (u d : ℕ) → IsGraph g → (u ≡ unit → ⊥) → adjacent g unit u ≡ false → is_open g (set plan unit home) u d ≡ is_open g plan u d
  open_far u d sound off far = open_same g (set plan unit home) plan u d
      (ap (λ (x : ℕ). x == d) (get_or-set_other plan unit u home 0 off))
      (λ v near. ap (λ (x : ℕ). x == d) (get_or-set_other plan unit v home 0 (λ e.
      both_ways (adjacent g unit u) far (sound.symmetric unit u ∙ ap (adjacent g u) (sym e) ∙ near))))
