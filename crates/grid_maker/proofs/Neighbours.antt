-- The adjacent units of a unit in a grid, in rising order.
use Rattle.std.proofs.Common.{◌≡◌, ℕ, zero, suc, ◌+◌, ◌-◌, ◌*◌, ◌/◌, ◌%◌, ◌<◌, ◌≤◌, Bool, true, false, cond, ◌&&◌, ◌||◌, List, [], ◌∷◌, ◌++◌, Some, None, refl, sym, ap, ◌∙◌, inl, inr, arith, append-nil}
use Rattle.std.specs.Prelude.{◌==◌, nat_lt, option_to_list}
use Rattle.std.proofs.lemmas.Bool.{cases_lt, eq-eqb, ne_eqb, lt-ltb, le-ltb, le-leb, lt-leb}
use Rattle.std.proofs.lemmas.Nat.{div-add-mod', div-mul-add, mod-mul-add, mod_below}
use Rattle.std.proofs.Math.Nat.{suc-mul}
use Rattle.audit_model.specs.Below.{filter_below}
use Rattle.audit_model.proofs.Below.{filter_below_cut}
use Rattle.audit_model.proofs.Numbers.{one_more_block}
use Rattle.audit_statement.specs.Grid.{grid_side, are_beside}
use Rattle.grid_maker.specs.Beside.{above, left, right, below}

-- ---- filtering step by step

-- filtering below n + 1 adds n to the numbers kept below n if n passes
filter_at : (test : ℕ → Bool) (n : ℕ) (b : Bool) → test n ≡ b → filter_below (n + 1) test ≡ filter_below n test ++ cond b (n ∷ []) []
filter_at test n b is = ap (λ (k : ℕ). filter_below k test) (let e : n + 1 ≡ suc n = omega arith in e) ∙ ap (λ (t : Bool). filter_below n test ++ cond t (n ∷ []) []) is

-- an option that depends on a test is a list of at most one item
listed : (b : Bool) (n : ℕ) → option_to_list (cond b (Some n) None) ≡ cond b (n ∷ []) []
listed true n = refl
listed false n = refl

-- ---- the test

unfoldable pub beside : ℕ → ℕ → ℕ → Bool
beside width u v = (u / width == v / width) && ((u + 1 == v) || (v + 1 == u)) || ((u + width == v) || (v + width == u))

-- and-false is false
and_false : (b : Bool) → (b && false) ≡ false
and_false true = refl
and_false false = refl

-- and-true is the other part
and_true : (b : Bool) → (b && true || false) ≡ b
and_true true = refl
and_true false = refl

-- ---- rows

-- a unit's row is its quotient by the width
row_of : (width u q r : ℕ) → r < width → u ≡ q * width + r → u / width ≡ q
row_of width u q r l e = ap (λ (n : ℕ). n / width) e ∙ div-mul-add q width r l

-- the next unit is in the unit's row exactly if the unit is not the last of it
same_row_next : (width u : ℕ) → 0 < width → (u / width == (u + 1) / width) ≡ nat_lt (u % width + 1) width
same_row_next width u some = elim (cases_lt (u % width + 1) width) [
  | inl l ↦
      let next : (u + 1) / width ≡ u / width = row_of width (u + 1) (u / width) (u % width + 1) l (omega (arith, div-add-mod' u width)) in
      eq-eqb (u / width) ((u + 1) / width) (sym next) ∙ sym (lt-ltb (u % width + 1) width l)
  | inr past ↦
      let next : (u + 1) / width ≡ u / width + 1 = row_of width (u + 1) (u / width + 1) 0 some
      (omega (arith, div-add-mod' u width, mod_below u width some, one_more_block (u / width) width, past)) in
      ne_eqb (u / width) ((u + 1) / width) (λ e. omega (arith, e, next)) ∙ sym (le-ltb (u % width + 1) width past)
]

-- the unit before is in the unit's row exactly if the unit is not the first of it
same_row_before : (width w : ℕ) → 0 < width → (suc w / width == w / width) ≡ nat_lt 0 (suc w % width)
same_row_before width w some = elim (cases_lt 0 (suc w % width)) [
  | inl l ↦
      let before : w / width ≡ suc w / width = row_of width w (suc w / width) (suc w % width - 1) (omega (arith, mod_below (suc w) width some, l))
      (omega (arith, div-add-mod' (suc w) width, l)) in
      eq-eqb (suc w / width) (w / width) (sym before) ∙ sym (lt-ltb 0 (suc w % width) l)
  | inr none ↦
      ne_eqb (suc w / width) (w / width) (λ e.
      omega (arith, div-add-mod' (suc w) width, div-add-mod' w width, mod_below w width some, none, ap (λ (q : ℕ). q * width) e))
      ∙ sym (le-ltb 0 (suc w % width) none)
]

-- ---- one adjacent unit after another

-- or-true in the last part is true
last_true : (x y : Bool) → (x || (y || true)) ≡ true
last_true true y = refl
last_true false true = refl
last_true false false = refl

-- or-true in the third part is true
third_true : (x y : Bool) → (x || (true || y)) ≡ true
third_true true y = refl
third_true false y = refl

-- units that differ by neither 1 nor the width are not adjacent
off_beside : (width u v : ℕ) → (u + 1 ≡ v → ⊥) → (v + 1 ≡ u → ⊥) → (u + width ≡ v → ⊥) → (v + width ≡ u → ⊥) → beside width u v ≡ false
unfolding beside
off_beside width u v a b c d = rw (ne_eqb (u + 1) v a, ne_eqb (v + 1) u b, ne_eqb (u + width) v c, ne_eqb (v + width) u d, and_false) refl

-- the unit above is adjacent
above_is_beside : (width u v : ℕ) → v + width ≡ u → beside width u v ≡ true
unfolding beside
above_is_beside width u v e = rw (eq-eqb (v + width) u e, last_true) refl

-- the unit below is adjacent
pub below_is_beside : (width u v : ℕ) → u + width ≡ v → beside width u v ≡ true
unfolding beside
below_is_beside width u v e = rw (eq-eqb (u + width) v e, third_true) refl

-- the unit before is adjacent exactly if this unit is not the first of its row
left_is_beside : (width w : ℕ) → 2 ≤ width → beside width (suc w) w ≡ nat_lt 0 (suc w % width)
unfolding beside
left_is_beside width w wide =
    rw (ne_eqb (suc w + 1) w (λ e. omega (arith, e)), eq-eqb (w + 1) (suc w) (omega arith), ne_eqb (suc w + width) w (λ e. omega (arith, e)), ne_eqb (w + width) (suc w) (λ e. omega (arith, e)))
    (and_true (suc w / width == w / width) ∙ same_row_before width w (omega arith))

-- the next unit is adjacent exactly if this unit is not the last of its row
pub right_is_beside : (width u : ℕ) → 2 ≤ width → beside width u (u + 1) ≡ nat_lt (u % width + 1) width
unfolding beside
right_is_beside width u wide =
    rw (eq-eqb (u + 1) (u + 1) refl, ne_eqb (u + width) (u + 1) (λ e. omega (arith, e)), ne_eqb (u + 1 + width) u (λ e. omega (arith, e)))
    (and_true (u / width == (u + 1) / width) ∙ same_row_next width u (omega arith))

-- up to the unit before the left one, only the unit above is adjacent
to_above : (width u : ℕ) → 2 ≤ width → filter_below (u - 1) (beside width u) ≡ option_to_list (above width u)
to_above width u wide = elim (cases_lt u width) [
  | inl first ↦
      filter_below_cut (beside width u) 0 (u - 1) (omega arith)
      (λ v la lb. off_beside width u v (λ e. omega (arith, lb, e)) (λ e. omega (arith, lb, e)) (λ e. omega (arith, lb, e)) (λ e. omega (arith, first, e)))
      ∙ sym (ap (λ (b : Bool). option_to_list (cond b (Some (u - width)) None)) (lt-leb width u first))
  | inr l ↦
      let d : ℕ = u - width in
      let between : filter_below (u - 1) (beside width u) ≡ filter_below (d + 1) (beside width u) =
      filter_below_cut (beside width u) (d + 1) (u - 1) (omega (arith, l, wide))
      (λ v la lb. off_beside width u v (λ e. omega (arith, lb, e)) (λ e. omega (arith, lb, e)) (λ e. omega (arith, lb, e)) (λ e. omega (arith, la, l, e))) in
      let here : filter_below (d + 1) (beside width u) ≡ filter_below d (beside width u) ++ d ∷ [] =
      filter_at (beside width u) d true (above_is_beside width u d (omega (arith, l))) in
      let none : filter_below d (beside width u) ≡ [] =
      filter_below_cut (beside width u) 0 d (omega arith)
      (λ v la lb. off_beside width u v (λ e. omega (arith, lb, e)) (λ e. omega (arith, lb, wide, e)) (λ e. omega (arith, lb, e)) (λ e. omega (arith, lb, l, e))) in
      between ∙ here ∙ ap (λ (xs : List ℕ). xs ++ d ∷ []) none
      ∙ sym (ap (λ (b : Bool). option_to_list (cond b (Some d) None)) (le-leb width u l))
]

-- up to the unit itself, the left unit comes last
to_left : (width u : ℕ) → 2 ≤ width → filter_below u (beside width u) ≡ filter_below (u - 1) (beside width u) ++ option_to_list (left width u)
to_left width zero wide =
    let none : 0 % width ≤ 0 = omega (arith, div-add-mod' 0 width) in
    sym (ap (λ (b : Bool). option_to_list (cond b (Some (0 - 1)) None)) (le-ltb 0 (0 % width) none))
to_left width (suc w) wide =
    let back : suc w - 1 ≡ w = omega arith in
    ap (λ (b : Bool). filter_below w (beside width (suc w)) ++ cond b (w ∷ []) []) (left_is_beside width w wide)
    ∙ ap (λ (xs : List ℕ). filter_below w (beside width (suc w)) ++ xs) (sym (listed (nat_lt 0 (suc w % width)) w))
    ∙ ap (λ (n : ℕ). filter_below n (beside width (suc w)) ++ option_to_list (cond (nat_lt 0 (suc w % width)) (Some n) None)) (sym back)

-- up to the next unit, the right unit comes last
to_right : (width u : ℕ) → 2 ≤ width → filter_below (u + 2) (beside width u) ≡ filter_below u (beside width u) ++ option_to_list (right width u)
to_right width u wide =
    let same : beside width u u ≡ false = off_beside width u u (λ e. omega (arith, e)) (λ e. omega (arith, e)) (λ e. omega (arith, e)) (λ e. omega (arith, e)) in
    let self : filter_below (u + 1) (beside width u) ≡ filter_below u (beside width u) = filter_at (beside width u) u false same ∙ append-nil (filter_below u (beside width u)) in
    let next : u + 2 ≡ u + 1 + 1 = omega arith in
    ap (λ (n : ℕ). filter_below n (beside width u)) next
    ∙ filter_at (beside width u) (u + 1) (nat_lt (u % width + 1) width) (right_is_beside width u wide)
    ∙ ap (λ (xs : List ℕ). xs ++ cond (nat_lt (u % width + 1) width) ((u + 1) ∷ []) []) self
    ∙ ap (λ (xs : List ℕ). filter_below u (beside width u) ++ xs) (sym (listed (nat_lt (u % width + 1) width) (u + 1)))

-- the last unit ends its row
pub last_ends : (width u : ℕ) → 0 < width → u + 1 ≡ width * width → nat_lt (u % width + 1) width ≡ false
last_ends width u some e =
    let corner : u ≡ (width - 1) * width + (width - 1) = omega (arith, e, some, corner_of width some) in
    let column : u % width ≡ width - 1 = ap (λ (n : ℕ). n % width) corner ∙ mod-mul-add (width - 1) width (width - 1) (omega (arith, some)) in
    le-ltb (u % width + 1) width (omega (arith, column, some))
  where
    corner_of : (s : ℕ) → 0 < s → (s - 1) * s + s ≡ s * s
    corner_of zero l = absurd (omega arith)
    corner_of (suc k) l = ap (λ (n : ℕ). n * suc k + suc k) (let e : suc k - 1 ≡ k = omega arith in e) ∙ sym (suc-mul k (suc k))

-- a unit of the last row has no adjacent unit beyond the next one
to_last : (width u : ℕ) → 2 ≤ width → u < width * width → width * width ≤ u + width
    → filter_below (width * width) (beside width u) ≡ filter_below (u + 2) (beside width u)
to_last width u wide inside past = elim (cases_lt (u + 1) (width * width)) [
  | inl more ↦
      filter_below_cut (beside width u) (u + 2) (width * width) (omega (arith, more))
      (λ v la lb. off_beside width u v (λ e. omega (arith, la, e)) (λ e. omega (arith, la, e)) (λ e. omega (arith, lb, past, e)) (λ e. omega (arith, la, e)))
  | inr last ↦
      let end : u + 1 ≡ width * width = omega (arith, last, inside) in
      let next : u + 2 ≡ u + 1 + 1 = omega arith in
      let none : beside width u (u + 1) ≡ false = right_is_beside width u wide ∙ last_ends width u (omega (arith, wide)) end in
      ap (λ (n : ℕ). filter_below n (beside width u)) (sym end)
      ∙ sym (append-nil (filter_below (u + 1) (beside width u))) ∙ sym (filter_at (beside width u) (u + 1) false none)
      ∙ ap (λ (n : ℕ). filter_below n (beside width u)) (sym next)
]

-- over all units, the unit below comes last
to_below : (width u : ℕ) → 2 ≤ width → u < width * width
    → filter_below (width * width) (beside width u) ≡ filter_below (u + 2) (beside width u) ++ option_to_list (below width u)
to_below width u wide inside = elim (cases_lt (u + width) (width * width)) [
  | inl l ↦
      let v : ℕ = u + width in
      let rest : filter_below (width * width) (beside width u) ≡ filter_below (v + 1) (beside width u) =
      filter_below_cut (beside width u) (v + 1) (width * width) (omega (arith, l))
      (λ w la lb. off_beside width u w (λ e. omega (arith, la, wide, e)) (λ e. omega (arith, la, e)) (λ e. omega (arith, la, e)) (λ e. omega (arith, la, e))) in
      let here : filter_below (v + 1) (beside width u) ≡ filter_below v (beside width u) ++ v ∷ [] =
      filter_at (beside width u) v true (below_is_beside width u v refl) in
      let between : filter_below v (beside width u) ≡ filter_below (u + 2) (beside width u) =
      filter_below_cut (beside width u) (u + 2) v (omega (arith, wide))
      (λ w la lb. off_beside width u w (λ e. omega (arith, la, e)) (λ e. omega (arith, la, e)) (λ e. omega (arith, lb, e)) (λ e. omega (arith, la, e))) in
      rest ∙ here ∙ ap (λ (xs : List ℕ). xs ++ v ∷ []) between
      ∙ sym (ap (λ (b : Bool). filter_below (u + 2) (beside width u) ++ option_to_list (cond b (Some v) None)) (lt-ltb v (width * width) l))
  | inr past ↦
      to_last width u wide inside past ∙ sym (append-nil (filter_below (u + 2) (beside width u)))
      ∙ sym (ap (λ (b : Bool). filter_below (u + 2) (beside width u) ++ option_to_list (cond b (Some (u + width)) None)) (le-ltb (u + width) (width * width) past))
]

-- the adjacent units are those above, left, right and below
pub four_beside : (size u : ℕ) → 1 ≤ size → u < grid_side size * grid_side size
    → filter_below (grid_side size * grid_side size) (are_beside size u)
    ≡ option_to_list (above (grid_side size) u) ++ option_to_list (left (grid_side size) u) ++ option_to_list (right (grid_side size) u) ++ option_to_list (below (grid_side size) u)
unfolding beside
four_beside size u some inside =
    let wide : 2 ≤ grid_side size = omega (arith, some) in
    let first = to_above (grid_side size) u wide in
    let second = to_left (grid_side size) u wide ∙ ap (λ (xs : List ℕ). xs ++ option_to_list (left (grid_side size) u)) first in
    let third = to_right (grid_side size) u wide ∙ ap (λ (xs : List ℕ). xs ++ option_to_list (right (grid_side size) u)) second in
    to_below (grid_side size) u wide inside ∙ ap (λ (xs : List ℕ). xs ++ option_to_list (below (grid_side size) u)) third
