-- Tables of pairs, pair by pair.
use Rattle.std.proofs.Common.{◌≡◌, ℕ, ◌+◌, ◌*◌, ◌<◌, ◌≤◌, Bool, true, false, not, ◌&&◌, ◌||◌, ◌==◌, List, [], length, get_or, set, take, refl, sym, ap, ◌∙◌, subst, inl, inr, arith, length-set}
use Rattle.std.specs.Prelude.{◌⊎◌}
use Rattle.std.specs.List.{list_any}
use Rattle.std.proofs.Math.Nat.{mul_comm}
use Rattle.std.proofs.lemmas.Bool.{cases_Bool, cases_eq, eq-eqb, ne_eqb, or_right}
use Rattle.std.proofs.lemmas.List.{get_or-set_same, get_or-set_other}
use Rattle.std.proofs.lemmas.List.Folds.{list_any_more}
use Rattle.std.proofs.lemmas.Nat.{mul-add-lt, same_from_place}
use Rattle.audit_model.specs.Graph.{Graph, IsGraph, has, adjacent}
use Rattle.audit_model.specs.District.{in_district}
use Rattle.audit_model.proofs.Bools.{and_true}
use Rattle.audit_model.proofs.ListFacts.{has_at}
use Rattle.flip_kernel.specs.OpenPairs.{is_open, flag_of, MarksOpenPairs, HasOpenedPairs}
use Rattle.flip_kernel.proofs.Beside.{not_open, open_other, open_far}

-- ---- one pair

-- the place of a pair is inside the table
pub place_within : (units districts u d width : ℕ) → u < units → d < districts → units * districts ≤ width → u * districts + d < width
place_within units districts u d width lu ld enough = omega (arith, mul-add-lt u districts d units lu ld, mul_comm districts units)

-- reading a written pair gives what was written
flag_same : (table : List Bool) (districts u d : ℕ) (flag : Bool) → u * districts + d < length table → flag_of (set table (u * districts + d) flag) districts u d ≡ flag
flag_same table districts u d flag l = get_or-set_same table (u * districts + d) flag false l

-- writing a pair changes no other pair
flag_other : (table : List Bool) (districts u d v e : ℕ) (flag : Bool) → d < districts → e < districts → (u ≡ v → d ≡ e → ⊥)
    → flag_of (set table (v * districts + e) flag) districts u d ≡ flag_of table districts u d
flag_other table districts u d v e flag ld le off =
    get_or-set_other table (v * districts + e) (u * districts + d) flag false
    (λ same. let parts = same_from_place u d v e districts ld le same in off parts.0 parts.1)

-- ---- the pairs of one unit

-- or-false is the other part
or_without : (b c : Bool) → c ≡ false → (b || c) ≡ b
or_without true c h = refl
or_without false c h = h

-- opening one more neighbor's district
pub opens_more : (plan : List ℕ) (districts unit : ℕ) (row : List ℕ) (i : ℕ) (old new : List Bool) → i < length row → get_or plan (get_or row i 0) 0 < districts
    → unit * districts + get_or plan (get_or row i 0) 0 < length new → HasOpenedPairs plan districts unit (take i row) old new
    → HasOpenedPairs plan districts unit (take (i + 1) row) old
    (set new (unit * districts + get_or plan (get_or row i 0) 0) (not (get_or plan unit 0 == get_or plan (get_or row i 0) 0)))
opens_more plan districts unit row i old new l there inside before = record {
  width = length-set new (unit * districts + e) flag ∙ before.width;
  own = own;
  others = λ u d off ld. flag_other new districts u d unit e flag ld there (λ same _. off same) ∙ before.others u d off ld;
}
  where
    e : ℕ
    e = get_or plan (get_or row i 0) 0

    flag : Bool
    flag = not (get_or plan unit 0 == get_or plan (get_or row i 0) 0)

    more : (d : ℕ) → list_any (in_district plan d) (take (i + 1) row) ≡ (list_any (in_district plan d) (take i row) || (get_or plan (get_or row i 0) 0 == d))
    more d = list_any_more (in_district plan d) row i 0 l

    own : (d : ℕ) → d < districts → flag_of (set new (unit * districts + e) flag) districts unit d ≡ (not (in_district plan d unit) && list_any (in_district plan d) (take (i + 1) row))
    own d ld = elim (cases_eq d (get_or plan (get_or row i 0) 0)) [
      | inl here ↦
          ap (λ (x : ℕ). flag_of (set new (unit * districts + get_or plan (get_or row i 0) 0) (not (get_or plan unit 0 == get_or plan (get_or row i 0) 0))) districts unit x) here
          ∙ flag_same new districts unit (get_or plan (get_or row i 0) 0) (not (get_or plan unit 0 == get_or plan (get_or row i 0) 0)) inside
          ∙ ap (λ (x : ℕ). not (get_or plan unit 0 == x)) (sym here)
          ∙ sym (and_true (not (in_district plan d unit)) (list_any (in_district plan d) (take (i + 1) row))
          (more d ∙ or_right (list_any (in_district plan d) (take i row)) (get_or plan (get_or row i 0) 0 == d) (eq-eqb (get_or plan (get_or row i 0) 0) d (sym here))))
      | inr off ↦
          flag_other new districts unit d unit (get_or plan (get_or row i 0) 0) (not (get_or plan unit 0 == get_or plan (get_or row i 0) 0)) ld there (λ _ same. off same)
          ∙ before.own d ld
          ∙ ap (λ b. not (in_district plan d unit) && b) (sym (more d
          ∙ or_without (list_any (in_district plan d) (take i row)) (get_or plan (get_or row i 0) 0 == d) (ne_eqb (get_or plan (get_or row i 0) 0) d (λ x. off (sym x)))))
    ]

-- ---- unit by unit

-- the table is filled for the units before this one, and closed for the others
pub record IsFilling (g : Graph) (plan : List ℕ) (districts unit : ℕ) (table : List Bool) : Type 0 where
  pub filled : (u d : ℕ) → u < unit → d < districts → flag_of table districts u d ≡ is_open g plan u d
  pub closed : (u d : ℕ) → unit ≤ u → d < districts → flag_of table districts u d ≡ false

-- ---- after a move

-- pairs not yet updated: those of the two districts with the unit, or with a neighbor from this position of its row on
abbrev pub IsStale : List ℕ → ℕ → ℕ → ℕ → ℕ → ℕ → ℕ → Type 0
IsStale row unit home district i u d =
    ((d ≡ home) ⊎ (d ≡ district)) × ((u ≡ unit) ⊎ ((k : ℕ) × (i ≤ k) × (k < length row) × (get_or row k 0 ≡ u)))

-- all other pairs are as after the move
pub record IsUpdating (g : Graph) (plan : List ℕ) (districts : ℕ) (row : List ℕ) (unit home district i : ℕ) (table : List Bool) : Type 0 where
  pub width : g.units * districts ≤ length table
  pub each : (u d : ℕ) → u < g.units → d < districts → (flag_of table districts u d ≡ is_open g plan u d) ⊎ IsStale row unit home district i u d

-- each unit's own district is closed to it, except for the unit that moves
abbrev pub IsClosed : ℕ → List ℕ → ℕ → ℕ → List Bool → Type 0
IsClosed units plan districts unit table = (u d : ℕ) → u < units → d < districts → (u ≡ unit → ⊥) → get_or plan u 0 ≡ d → flag_of table districts u d ≡ false

-- before the first update, own districts are closed
pub closed_none : (g : Graph) (plan : List ℕ) (districts unit home : ℕ) (table : List Bool) → MarksOpenPairs g (set plan unit home) districts table
    → IsClosed g.units plan districts unit table
closed_none g plan districts unit home table before = λ u d lu ld off is.
    before.each u d lu ld ∙ not_open g (set plan unit home) u d (get_or-set_other plan unit u home 0 off ∙ is)

-- updates keep own districts closed
pub closed_more : (units : ℕ) (plan : List ℕ) (districts unit v e : ℕ) (flag : Bool) (table : List Bool) → v * districts + e < length table → e < districts
    → (get_or plan v 0 ≡ e → flag ≡ false) → IsClosed units plan districts unit table → IsClosed units plan districts unit (set table (v * districts + e) flag)
closed_more units plan districts unit v e flag table inside le own closed = λ u d lu ld off is. elim (cases_eq u v) [
  | inl same ↦ elim (cases_eq d e) [
    | inl at ↦
        ap (λ (x : ℕ). flag_of (set table (v * districts + e) flag) districts x d) same
        ∙ ap (λ (x : ℕ). flag_of (set table (v * districts + e) flag) districts v x) at
        ∙ flag_same table districts v e flag inside
        ∙ own (ap (λ (x : ℕ). get_or plan x 0) (sym same) ∙ is ∙ at)
    | inr apart ↦ flag_other table districts u d v e flag ld le (λ _ at. apart at) ∙ closed u d lu ld off is
  ]
  | inr apart ↦ flag_other table districts u d v e flag ld le (λ same _. apart same) ∙ closed u d lu ld off is
]

-- before the first update, only pairs of the two districts near the unit may be wrong
pub renewing_none : (g : Graph) (plan : List ℕ) (districts : ℕ) (row : List ℕ) (unit home : ℕ) (table : List Bool) → IsGraph g → unit < length plan
    → row ≡ get_or g.neighbours unit [] → MarksOpenPairs g (set plan unit home) districts table
    → IsUpdating g plan districts row unit home (get_or plan unit 0) 0 table
renewing_none g plan districts row unit home table sound l is_row before = record { width = before.width; each = each }
  where
    near : (u d : ℕ) → u < g.units → d < districts → ((d ≡ home) ⊎ (d ≡ get_or plan unit 0))
        → (flag_of table districts u d ≡ is_open g plan u d) ⊎ IsStale row unit home (get_or plan unit 0) 0 u d
    near u d lu ld which = elim (cases_eq u unit) [
      | inl e ↦ inr (which, inl e)
      | inr off ↦ elim (cases_Bool (adjacent g unit u)) [
        | inl beside ↦ let at = has_at row u (subst (λ (xs : List ℕ). has xs u ≡ true) (sym is_row) beside) in inr (which, inr (at.0, omega arith, at.1, at.2))
        | inr far ↦ inl (before.each u d lu ld ∙ open_far g plan unit home l u d sound off far)
      ]
    ]

    each : (u d : ℕ) → u < g.units → d < districts → (flag_of table districts u d ≡ is_open g plan u d) ⊎ IsStale row unit home (get_or plan unit 0) 0 u d
    each u d lu ld = elim (cases_eq d home) [
      | inl e ↦ near u d lu ld (inl e)
      | inr off ↦ elim (cases_eq d (get_or plan unit 0)) [
        | inl e ↦ near u d lu ld (inr e)
        | inr other ↦ inl (before.each u d lu ld ∙ open_other g plan unit home l u d off other)
      ]
    ]

-- a right pair stays right after a right write
stays_right : (g : Graph) (plan : List ℕ) (districts v e : ℕ) (flag : Bool) (table : List Bool) → v * districts + e < length table → e < districts → flag ≡ is_open g plan v e
    → (u d : ℕ) → d < districts → flag_of table districts u d ≡ is_open g plan u d → flag_of (set table (v * districts + e) flag) districts u d ≡ is_open g plan u d
stays_right g plan districts v e flag table inside le is u d ld right = elim (cases_eq u v) [
  | inl same ↦ elim (cases_eq d e) [
    | inl at ↦
        ap (λ (x : ℕ). flag_of (set table (v * districts + e) flag) districts x d) same
        ∙ ap (λ (x : ℕ). flag_of (set table (v * districts + e) flag) districts v x) at
        ∙ flag_same table districts v e flag inside ∙ is
        ∙ ap (λ (x : ℕ). is_open g plan v x) (sym at) ∙ ap (λ (x : ℕ). is_open g plan x d) (sym same)
    | inr off ↦ flag_other table districts u d v e flag ld le (λ _ at. off at) ∙ right
  ]
  | inr off ↦ flag_other table districts u d v e flag ld le (λ same _. off same) ∙ right
]

-- a pair is right after a right write
made_right : (g : Graph) (plan : List ℕ) (districts v e : ℕ) (flag : Bool) (table : List Bool) → v * districts + e < length table → flag ≡ is_open g plan v e
    → flag_of (set table (v * districts + e) flag) districts v e ≡ is_open g plan v e
made_right g plan districts v e flag table inside is = flag_same table districts v e flag inside ∙ is

-- both districts' pairs of a unit are updated
module _ (g : Graph) (plan : List ℕ) (districts v district home : ℕ) (one other : Bool) (table : List Bool) (lv : v < g.units) (ld : district < districts) (lh : home < districts)
    (width : g.units * districts ≤ length table) (is_one : one ≡ is_open g plan v district) (is_other : other ≡ is_open g plan v home) where
  pub after : List Bool
  after = set (set table (v * districts + district) one) (v * districts + home) other

  inside : v * districts + district < length table
  inside = place_within g.units districts v district (length table) lv ld width

  inside_next : v * districts + home < length (set table (v * districts + district) one)
  inside_next = omega (arith, place_within g.units districts v home (length table) lv lh width, length-set table (v * districts + district) one)

  after_width : g.units * districts ≤ length after
  unfolding after
  after_width = omega (arith, width, length-set table (v * districts + district) one, length-set (set table (v * districts + district) one) (v * districts + home) other)

  after_right : (u d : ℕ) → d < districts → flag_of table districts u d ≡ is_open g plan u d → flag_of after districts u d ≡ is_open g plan u d
  unfolding after
  after_right u d l right =
      stays_right g plan districts v home other (set table (v * districts + district) one) inside_next lh is_other u d l
      (stays_right g plan districts v district one table inside ld is_one u d l right)

  after_both : (u d : ℕ) → u ≡ v → ((d ≡ home) ⊎ (d ≡ district)) → flag_of after districts u d ≡ is_open g plan u d
  unfolding after
  after_both u d same which = elim which [
    | inl at ↦
        ap (λ (x : ℕ). flag_of (set (set table (v * districts + district) one) (v * districts + home) other) districts x d) same
        ∙ ap (λ (x : ℕ). flag_of (set (set table (v * districts + district) one) (v * districts + home) other) districts v x) at
        ∙ made_right g plan districts v home other (set table (v * districts + district) one) inside_next is_other
        ∙ ap (λ (x : ℕ). is_open g plan v x) (sym at) ∙ ap (λ (x : ℕ). is_open g plan x d) (sym same)
    | inr at ↦
        ap (λ (x : ℕ). flag_of (set (set table (v * districts + district) one) (v * districts + home) other) districts x d) same
        ∙ ap (λ (x : ℕ). flag_of (set (set table (v * districts + district) one) (v * districts + home) other) districts v x) at
        ∙ stays_right g plan districts v home other (set table (v * districts + district) one) inside_next lh is_other v district ld
        (made_right g plan districts v district one table inside is_one)
        ∙ ap (λ (x : ℕ). is_open g plan v x) (sym at) ∙ ap (λ (x : ℕ). is_open g plan x d) (sym same)
  ]

  pub renewing_more : (row : List ℕ) (unit i : ℕ) → v ≡ get_or row i 0 → IsUpdating g plan districts row unit home district i table
      → IsUpdating g plan districts row unit home district (i + 1) (set (set table (v * districts + district) one) (v * districts + home) other)
  unfolding after
  renewing_more row unit i is_v before = record {
    width = after_width;
    each = λ u d lu l. elim (before.each u d lu l) [
      | inl right ↦ inl (after_right u d l right)
      | inr stale ↦ elim stale.1 [
        | inl own ↦ inr (stale.0, inl own)
        | inr later ↦ elim (cases_eq later.0 i) [
          | inl here ↦ inl (after_both u d (sym later.3 ∙ ap (λ (k : ℕ). get_or row k 0) here ∙ sym is_v) stale.0)
          | inr off ↦ inr (stale.0, inr (later.0, omega (arith, later.1, off), later.2, later.3))
        ]
      ]
    ];
  }

  pub renewing_all : (row : List ℕ) (i : ℕ) → length row ≤ i → IsUpdating g plan districts row v home district i table
      → MarksOpenPairs g plan districts (set (set table (v * districts + district) one) (v * districts + home) other)
  unfolding after
  renewing_all row i end before = record {
    width = after_width;
    each = λ u d lu l. elim (before.each u d lu l) [
      | inl right ↦ after_right u d l right
      | inr stale ↦ elim stale.1 [
        | inl own ↦ after_both u d own stale.0
        | inr later ↦ absurd (omega (arith, later.1, later.2, end))
      ]
    ];
  }
