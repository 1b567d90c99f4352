-- The change of the counts by a move.
use Rattle.std.proofs.Common.{◌≡◌, ℕ, zero, suc, ◌+◌, ◌*◌, ◌-◌, ◌<◌, ◌≤◌, Bool, true, false, not, ◌&&◌, ◌==◌, List, length, get_or, refl, sym, ap, ◌∙◌, subst, inl, inr, arith, add-one}
use Rattle.std.specs.Prelude.{nat_lt, nat_le}
use Rattle.std.proofs.Math.Nat.{mul-le-mul_right}
use Rattle.std.proofs.Math.ListN.{set, length-set}
use Rattle.std.proofs.lemmas.Bool.{cases_eq, cond-true, cond-false, eq-eqb, ne_eqb, eqb-true, le-leb, lt-ltb, and_from, and_left, and_right, and_parts, not_from_false, false_from_ne_true}
use Rattle.std.proofs.lemmas.List.{get_or-set_same, get_or-set_other, set-get_or, nil_from_length}
use Rattle.audit_model.specs.Below.{above_all, all_below, count_below}
use Rattle.audit_model.specs.declared.rules.Rules.{Rules}
use Rattle.audit_model.specs.Meets.{are_whole, split_of, split_regions, splits_in_all}
use Rattle.audit_model.proofs.Below.{count_below_same, count_below_le, count_below_zero}
use Rattle.audit_model.proofs.Meeting.{below_above_all}
use Rattle.audit_model.proofs.Numbers.{place_below}
use Rattle.region_guard.specs.declared.splits.SplitCounts.{SplitCounts}
use Rattle.region_guard.specs.declared.splits.Totals.{Totals}
use Rattle.region_guard.specs.Standing.{AreSplits, IsStep, IsTable, broken_in, cell, permits_splits, totals_from, totals_of, units_among}
use Rattle.region_guard.proofs.Cells.{sum_but_one, sum_same, sum_small, one_if, all_is_none, count_more, count_but_one, count_but_two, some_counted, split_is_counted, row_of_cell, place_of_cell}

-- totals with equal fields are equal
pub totals_same : (t s : Totals) → t.broken ≡ s.broken → t.in_all ≡ s.in_all → t.split ≡ s.split → t ≡ s
totals_same t s broken in_all split =
    ap (λ (b : ℕ). (let r : Totals = record { broken = b; in_all = t.in_all; split = t.split } in r)) broken
    ∙ ap (λ (a : ℕ). (let r : Totals = record { broken = s.broken; in_all = a; split = t.split } in r)) in_all
    ∙ ap (λ (n : ℕ). (let r : Totals = record { broken = s.broken; in_all = s.in_all; split = n } in r)) split

module _ (regions after : List ℕ) (most districts u from : ℕ) (step : IsStep regions districts after u from) where
  abbrev pub before : List ℕ
  before = set after u from

  abbrev pub region : ℕ
  region = get_or regions u 0

  abbrev pub to : ℕ
  to = get_or after u 0

  abbrev pub units_before : ℕ → ℕ → ℕ
  units_before r d = units_among (length regions) regions before r d

  abbrev pub units_after : ℕ → ℕ → ℕ
  units_after r d = units_among (length regions) regions after r d

  was : get_or before u 0 ≡ from
  was = get_or-set_same after u from 0 step.unit_below

  pub from_below : from < districts
  from_below =
      let long = length-set after u from in
      let below = below_above_all before u (omega (arith, long, step.unit_below)) in omega (arith, below, was, step.before_below)

  pub to_below : to < districts
  to_below = omega (arith, below_above_all after u step.unit_below, step.after_below)

  pub region_below : region < above_all regions
  region_below = below_above_all regions u (omega (arith, step.unit_below, step.long))

  pub same_plan : to ≡ from → before ≡ after
  same_plan e = ap (λ d. set after u d) (sym e) ∙ set-get_or after u 0

  moved_units : (r d : ℕ) → units_before r d + one_if ((region == r) && (to == d)) ≡ units_after r d + one_if ((region == r) && (from == d))
  moved_units r d =
      let but = count_but_one (length regions) u (λ v. (get_or regions v 0 == r) && (get_or before v 0 == d))
      (λ v. (get_or regions v 0 == r) && (get_or after v 0 == d)) (omega (arith, step.unit_below, step.long))
      (λ v l off. ap (λ x. (get_or regions v 0 == r) && (x == d)) (get_or-set_other after u v from 0 off)) in
      but ∙ ap (λ x. units_after r d + one_if ((region == r) && (x == d))) was

  split_before : (r : ℕ) → split_of regions before r ≡ count_below districts (λ d. nat_lt 0 (units_before r d))
  split_before r = split_is_counted regions before districts r (length-set after u from ∙ step.long) step.before_below

  split_after : (r : ℕ) → split_of regions after r ≡ count_below districts (λ d. nat_lt 0 (units_after r d))
  split_after r = split_is_counted regions after districts r step.long step.after_below

  none_if : (a b : Bool) → (a ≡ false) → one_if (a && b) ≡ 0
  none_if a b h = cond-false {A = ℕ} (a && b) 1 0 (and_left a b h)

  none_if_right : (a b : Bool) → (b ≡ false) → one_if (a && b) ≡ 0
  none_if_right a b h = cond-false {A = ℕ} (a && b) 1 0 (and_right a b h)

  both_if : (a b : Bool) → a ≡ true → b ≡ true → one_if (a && b) ≡ 1
  both_if a b h k = cond-true {A = ℕ} (a && b) 1 0 (and_from a b h k)

  -- the counts of other regions stay
  other_region : (r d : ℕ) → (r ≡ region → ⊥) → units_after r d ≡ units_before r d
  other_region r d off =
      let no : (region == r) ≡ false = ne_eqb region r (λ e. off (sym e)) in
      omega (arith, moved_units r d, none_if (region == r) (to == d) no, none_if (region == r) (from == d) no)

  -- the counts of other districts stay
  other_district : (r d : ℕ) → (d ≡ from → ⊥) → (d ≡ to → ⊥) → units_after r d ≡ units_before r d
  other_district r d off_from off_to =
      omega (
        arith,
        moved_units r d,
        none_if_right (region == r) (to == d) (ne_eqb to d (λ e. off_to (sym e))),
        none_if_right (region == r) (from == d) (ne_eqb from d (λ e. off_from (sym e))),
      )

  split_other : (r : ℕ) → (r ≡ region → ⊥) → split_of regions after r ≡ split_of regions before r
  split_other r off = split_after r
      ∙ count_below_same districts (λ d. nat_lt 0 (units_after r d)) (λ d. nat_lt 0 (units_before r d)) (λ d l. ap (nat_lt 0) (other_region r d off))
      ∙ sym (split_before r)

  pub broken_moved : broken_in regions most after + one_if (not (nat_le (split_of regions before region) most))
      ≡ broken_in regions most before + one_if (not (nat_le (split_of regions after region) most))
  broken_moved = count_but_one (above_all regions) region (λ r. not (nat_le (split_of regions after r) most)) (λ r. not (nat_le (split_of regions before r) most))
      region_below (λ r l off. ap (λ x. not (nat_le x most)) (split_other r off))

  in_all_moved : splits_in_all regions after + (split_of regions before region - 1) ≡ splits_in_all regions before + (split_of regions after region - 1)
  in_all_moved = sum_but_one (above_all regions) region (λ r. split_of regions after r - 1) (λ r. split_of regions before r - 1)
      region_below (λ r l off. ap (λ (x : ℕ). x - 1) (split_other r off))

  split_moved : split_regions regions after + one_if (nat_lt 1 (split_of regions before region))
      ≡ split_regions regions before + one_if (nat_lt 1 (split_of regions after region))
  split_moved = count_but_one (above_all regions) region (λ r. nat_lt 1 (split_of regions after r)) (λ r. nat_lt 1 (split_of regions before r))
      region_below (λ r l off. ap (nat_lt 1) (split_other r off))

  module _ (apart : to ≡ from → ⊥) where
    pub taken : units_before region from ≡ units_after region from + 1
    taken = omega (
      arith,
      moved_units region from,
      none_if_right (region == region) (to == from) (ne_eqb to from apart),
      both_if (region == region) (from == from) (eq-eqb region region refl) (eq-eqb from from refl),
    )

    pub put : units_after region to ≡ units_before region to + 1
    put = omega (
      arith,
      moved_units region to,
      none_if_right (region == region) (from == to) (ne_eqb from to (λ e. apart (sym e))),
      both_if (region == region) (to == to) (eq-eqb region region refl) (eq-eqb to to refl),
    )

    some_of : (n : ℕ) → one_if (nat_lt 0 n) + one_if (n == 0) ≡ 1
    some_of zero = refl
    some_of (suc n) =
        let some : one_if (nat_lt 0 (suc n)) ≡ 1 = cond-true {A = ℕ} (nat_lt 0 (suc n)) 1 0 (lt-ltb 0 (suc n) (omega arith)) in
        let off : one_if (suc n == 0) ≡ 0 = cond-false {A = ℕ} (suc n == 0) 1 0 (ne_eqb (suc n) 0 (λ e. omega (arith, e))) in
        omega (arith, some, off)

    one_of : (n m : ℕ) → m ≡ n + 1 → (n == 0) ≡ (m == 1)
    one_of n m e = elim (cases_eq n 0) [
      | inl none ↦ eq-eqb n 0 none ∙ sym (eq-eqb m 1 (omega (arith, e, none)))
      | inr off ↦ ne_eqb n 0 off ∙ sym (ne_eqb m 1 (λ one. off (omega (arith, one, e))))
    ]

    -- the region loses a district if its last unit leaves it, and gains one if its first unit joins it
    pub split_here : split_of regions after region + one_if (units_before region from == 1) ≡ split_of regions before region + one_if (units_before region to == 0)
    split_here =
        let two = count_but_two districts from to (λ d. nat_lt 0 (units_after region d)) (λ d. nat_lt 0 (units_before region d)) from_below to_below
        (λ e. apart (sym e)) (λ d l off_from off_to. ap (nat_lt 0) (other_district region d off_from off_to)) in
        let from_before : one_if (nat_lt 0 (units_before region from)) ≡ 1 =
        cond-true {A = ℕ} (nat_lt 0 (units_before region from)) 1 0 (lt-ltb 0 (units_before region from) (omega (arith, taken))) in
        let to_after : one_if (nat_lt 0 (units_after region to)) ≡ 1 =
        cond-true {A = ℕ} (nat_lt 0 (units_after region to)) 1 0 (lt-ltb 0 (units_after region to) (omega (arith, put))) in
        let last = some_of (units_after region from) in
        let same = ap one_if (one_of (units_after region from) (units_before region from) taken) in
        let first = some_of (units_before region to) in
        omega (arith, two, from_before, to_after, last, same, first, split_before region, split_after region)

    pub some_split : 1 ≤ split_of regions before region
    some_split =
        let some = some_counted districts from (λ d. nat_lt 0 (units_before region d)) from_below (lt-ltb 0 (units_before region from) (omega (arith, taken))) in
        omega (arith, some, split_before region)

    some_split_after : 1 ≤ split_of regions after region
    some_split_after =
        let some = some_counted districts to (λ d. nat_lt 0 (units_after region d)) to_below (lt-ltb 0 (units_after region to) (omega (arith, put))) in
        omega (arith, some, split_after region)

    pub few_split_after : split_of regions after region ≤ districts
    few_split_after = omega (arith, split_after region, count_below_le districts (λ d. nat_lt 0 (units_after region d)))

    -- the splits in all change by as much as the region's districts
    pub in_all_here : splits_in_all regions after + split_of regions before region ≡ splits_in_all regions before + split_of regions after region
    in_all_here = omega (arith, in_all_moved, some_split, some_split_after)

    pub few_put : units_before region to + 1 ≤ length regions
    few_put = omega (arith, put, count_below_le (length regions) (λ v. (get_or regions v 0 == region) && (get_or after v 0 == to)))

    pub kept_units : (r d : ℕ) → (r ≡ region → ⊥) → units_after r d ≡ units_before r d
    kept_units r d off = other_region r d off

    pub kept_districts : (r d : ℕ) → (d ≡ from → ⊥) → (d ≡ to → ⊥) → units_after r d ≡ units_before r d
    kept_districts r d off_from off_to = other_district r d off_from off_to

  pub kept_splits : (r : ℕ) → (r ≡ region → ⊥) → split_of regions after r ≡ split_of regions before r
  kept_splits r off = split_other r off

  few_split : (r : ℕ) → split_of regions before r ≤ districts
  few_split r = omega (arith, split_before r, count_below_le districts (λ d. nat_lt 0 (units_before r d)))

  in_all_few : districts ≤ 200 → above_all regions ≤ 5000 → splits_in_all regions before ≤ 995000
  in_all_few few rows =
      let each = sum_small (above_all regions) 199 (λ r. split_of regions before r - 1) (λ r l. omega (arith, few_split r, few)) in omega (arith, each, rows)

  split_few : split_regions regions before ≤ above_all regions
  split_few = count_below_le (above_all regions) (λ r. nat_lt 1 (split_of regions before r))

  pub broken_few : broken_in regions most before ≤ above_all regions
  broken_few = count_below_le (above_all regions) (λ r. not (nat_le (split_of regions before r) most))

  pub broken_some : nat_le (split_of regions before region) most ≡ false → 1 ≤ broken_in regions most before
  broken_some h = some_counted (above_all regions) region (λ r. not (nat_le (split_of regions before r) most)) region_below
      (not_from_false (nat_le (split_of regions before region) most) h)

  -- if the unit stays, so do the totals
  pub stayed : (splits : SplitCounts) → AreSplits regions most districts splits before → to ≡ from → splits.totals ≡ totals_of regions most after
  stayed splits stood e = stood.totals ∙ ap (totals_of regions most) (same_plan e)

  module _ (splits : SplitCounts) (r : ℕ) (table : IsTable regions districts splits) (stood : AreSplits regions most districts splits before)
      (e : r ≡ region) where
    abbrev pub cells : List ℕ
    cells = splits.cells

    abbrev pub widths : List ℕ
    widths = splits.widths

    abbrev pub totals : Totals
    totals = splits.totals

    pub row_below : r < length widths
    row_below = omega (arith, e, region_below, table.rows)

    inside : r < above_all regions
    inside = omega (arith, e, region_below)

    at_from : cell districts cells r from ≡ units_before region from
    at_from = stood.units r from inside from_below ∙ ap (λ k. units_before k from) e

    at_to : cell districts cells r to ≡ units_before region to
    at_to = stood.units r to inside to_below ∙ ap (λ k. units_before k to) e

    width_at : get_or widths r 0 ≡ split_of regions before region
    width_at = stood.widths r inside ∙ ap (split_of regions before) e

    pub some_width : (to ≡ from → ⊥) → 1 ≤ get_or widths r 0
    some_width apart = omega (arith, width_at, some_split apart)

    pub few_width : (to ≡ from → ⊥) → get_or widths r 0 ≤ 200
    few_width apart = omega (arith, width_at, few_split region, table.few)

    pub split_found : (to ≡ from → ⊥) → (wide : ℕ)
        → wide + one_if (cell districts cells r from == 1) ≡ get_or widths r 0 + one_if (cell districts cells r to == 0)
        → wide ≡ split_of regions after region
    split_found apart wide h = omega (arith, h, split_here apart, width_at, ap (λ x. one_if (x == 1)) at_from, ap (λ x. one_if (x == 0)) at_to)

    broken_is : totals.broken ≡ broken_in regions most before
    broken_is = ap (λ (t : Totals). t.broken) stood.totals

    in_all_is : totals.in_all ≡ splits_in_all regions before
    in_all_is = ap (λ (t : Totals). t.in_all) stood.totals

    split_is : totals.split ≡ split_regions regions before
    split_is = ap (λ (t : Totals). t.split) stood.totals

    pub some_broken : nat_le (get_or widths r 0) most ≡ false → 1 ≤ totals.broken
    some_broken h = omega (arith, broken_is, broken_some (ap (λ x. nat_le x most) (sym width_at) ∙ h))

    pub few_broken : totals.broken ≤ 5000
    few_broken = omega (arith, broken_is, broken_few, table.few_rows)

    pub few_in_all : totals.in_all ≤ 995000
    few_in_all = omega (arith, in_all_is, in_all_few table.few table.few_rows)

    pub few_split_regions : totals.split ≤ 5000
    few_split_regions = omega (arith, split_is, split_few, table.few_rows)

    pub broken_found : (wide b : ℕ) → wide ≡ split_of regions after region
        → b + one_if (not (nat_le (get_or widths r 0) most)) ≡ totals.broken + one_if (not (nat_le wide most)) → b ≡ broken_in regions most after
    broken_found wide b is h = omega (arith, h, broken_moved, broken_is, ap (λ x. one_if (not (nat_le x most))) width_at, ap (λ x. one_if (not (nat_le x most))) is)

    module _ (apart : to ≡ from → ⊥) (wide : ℕ) (is : wide ≡ split_of regions after region) where
      pub few_wide : wide ≤ 200
      few_wide = omega (arith, is, few_split_after apart, table.few)

      pub some_in_all : get_or widths r 0 ≤ totals.in_all + wide
      some_in_all = omega (arith, in_all_here apart, in_all_is, is, width_at)

      pub some_split_regions : one_if (nat_lt 1 (get_or widths r 0)) ≤ totals.split + one_if (nat_lt 1 wide)
      some_split_regions = omega (arith, split_moved, split_is, ap (λ x. one_if (nat_lt 1 x)) width_at, ap (λ x. one_if (nat_lt 1 x)) is)

      -- the totals after the move
      pub totals_found : (b : ℕ) → b ≡ broken_in regions most after → (t : Totals)
          → t ≡ record {
            broken = b;
            in_all = totals.in_all + wide - get_or widths r 0;
            split = totals.split + one_if (nat_lt 1 wide) - one_if (nat_lt 1 (get_or widths r 0));
          } → t ≡ totals_of regions most after
      totals_found b is_broken t h =
          let in_all : t.in_all ≡ splits_in_all regions after = ap (λ (t : Totals). t.in_all) h ∙ omega (arith, in_all_here apart, in_all_is, is, width_at) in
          let split : t.split ≡ split_regions regions after = ap (λ (t : Totals). t.split) h
          ∙ omega (arith, split_moved, split_is, ap (λ x. one_if (nat_lt 1 x)) width_at, ap (λ x. one_if (nat_lt 1 x)) is) in
          totals_same t (totals_of regions most after) (ap (λ (t : Totals). t.broken) h ∙ is_broken) in_all split

    -- ---- the counts after the move

    abbrev pub place_from : ℕ
    place_from = r * districts + from

    abbrev pub place_to : ℕ
    place_to = r * districts + to

    abbrev pub less : List ℕ
    less = set cells place_from (get_or cells place_from 0 - 1)

    abbrev pub moved : List ℕ
    moved = set less place_to (get_or less place_to 0 + 1)

    pub from_inside : place_from < length cells
    from_inside = omega (arith, place_below r from (length widths) districts row_below from_below, table.places)

    pub to_inside : place_to < length cells
    to_inside = omega (arith, place_below r to (length widths) districts row_below to_below, table.places)

    module _ (apart : to ≡ from → ⊥) where
      pub some_there : 1 ≤ get_or cells place_from 0
      some_there = omega (arith, at_from, taken apart)

      still : get_or less place_to 0 ≡ units_before region to
      still = get_or-set_other cells place_from place_to (get_or cells place_from 0 - 1) 0
          (λ h. apart (place_of_cell districts r to r from to_below from_below h)) ∙ at_to

      pub room_there : get_or less place_to 0 + 1 ≤ length after
      room_there = omega (arith, still, few_put apart, step.long)

      pub units_moved : (q d : ℕ) → q < above_all regions → d < districts → cell districts moved q d ≡ units_after q d
      units_moved q d lq ld = elim (cases_eq (q * districts + d) place_to) [
        | inl at ↦
            let same_row : q ≡ region = row_of_cell districts q d r to ld to_below at ∙ e in
            let same_place : d ≡ to = place_of_cell districts q d r to ld to_below at in
            ap (λ k. get_or moved k 0) at
            ∙ get_or-set_same less place_to (get_or less place_to 0 + 1) 0 (omega (arith, to_inside, length-set cells place_from (get_or cells place_from 0 - 1)))
            ∙ ap (λ k. k + 1) still ∙ sym (put apart)
            ∙ ap (λ k. units_after k to) (sym same_row) ∙ ap (units_after q) (sym same_place)
        | inr off_to ↦
            get_or-set_other less place_to (q * districts + d) (get_or less place_to 0 + 1) 0 off_to
            ∙ elim (cases_eq (q * districts + d) place_from) [
              | inl at ↦
                  let same_row : q ≡ region = row_of_cell districts q d r from ld from_below at ∙ e in
                  let same_place : d ≡ from = place_of_cell districts q d r from ld from_below at in
                  let left : get_or cells place_from 0 - 1 ≡ units_after region from = omega (arith, at_from, taken apart) in
                  ap (λ k. get_or less k 0) at
                  ∙ get_or-set_same cells place_from (get_or cells place_from 0 - 1) 0 from_inside
                  ∙ left ∙ ap (λ k. units_after k from) (sym same_row) ∙ ap (units_after q) (sym same_place)
              | inr off_from ↦
                  get_or-set_other cells place_from (q * districts + d) (get_or cells place_from 0 - 1) 0 off_from
                  ∙ stood.units q d lq ld ∙ sym (kept q d off_from off_to)
            ]
      ]
        where
          kept : (q d : ℕ) → (q * districts + d ≡ place_from → ⊥) → (q * districts + d ≡ place_to → ⊥) → units_after q d ≡ units_before q d
          kept q d off_from off_to = elim (cases_eq q region) [
            | inl same ↦
                let row : q * districts ≡ r * districts = ap (λ k. k * districts) (same ∙ sym e) in
                kept_districts apart q d (λ h. off_from (omega (arith, row, h))) (λ h. off_to (omega (arith, row, h)))
            | inr other ↦ kept_units apart q d other
          ]

      pub stands_after : (wide : ℕ) (t : Totals) → wide ≡ split_of regions after region → t ≡ totals_of regions most after
          → AreSplits regions most districts (record { cells = moved; widths = set widths r wide; totals = t }) after
      stands_after wide t is_wide is_totals = record {
        units = units_moved;
        widths = λ q lq. elim (cases_eq q r) [
          | inl at ↦
              ap (λ k. get_or (set widths r wide) k 0) at ∙ get_or-set_same widths r wide 0 row_below ∙ is_wide ∙ ap (split_of regions after) (sym (at ∙ e))
          | inr off ↦
              get_or-set_other widths r q wide 0 off ∙ stood.widths q lq ∙ sym (kept_splits q (λ h. off (h ∙ sym e)))
        ];
        totals = is_totals;
      }

-- ---- counting unit by unit

-- a count over one more number
pub next_counted : (n : ℕ) (f : ℕ → Bool) → count_below (n + 1) f ≡ count_below n f + one_if (f n)
next_counted n f = ap (λ k. count_below k f) (add-one n) ∙ count_more n f

-- adding one more unit to the table
pub counted_on : (regions plan cells : List ℕ) (districts unit : ℕ) → (rows : ℕ) → length cells ≡ rows * districts
    → get_or regions unit 0 < rows → get_or plan unit 0 < districts
    → ((q d : ℕ) → q < rows → d < districts → cell districts cells q d ≡ units_among unit regions plan q d)
    → let place : ℕ = get_or regions unit 0 * districts + get_or plan unit 0 in
    (q d : ℕ) → q < rows → d < districts → cell districts (set cells place (get_or cells place 0 + 1)) q d ≡ units_among (unit + 1) regions plan q d
counted_on regions plan cells districts unit rows places lr lp before q d lq ld =
    let r : ℕ = get_or regions unit 0 in
    let p : ℕ = get_or plan unit 0 in
    let place : ℕ = r * districts + p in
    let next = next_counted unit (λ v. (get_or regions v 0 == q) && (get_or plan v 0 == d)) in
    elim (cases_eq (q * districts + d) place) [
      | inl at ↦
          let row : q ≡ r = row_of_cell districts q d r p ld lp at in
          let spot : d ≡ p = place_of_cell districts q d r p ld lp at in
          let one : one_if ((r == q) && (p == d)) ≡ 1 = cond-true {A = ℕ} ((r == q) && (p == d)) 1 0
          (and_from (r == q) (p == d) (eq-eqb r q (sym row)) (eq-eqb p d (sym spot))) in
          let written = ap (λ k. get_or (set cells place (get_or cells place 0 + 1)) k 0) at
          ∙ get_or-set_same cells place (get_or cells place 0 + 1) 0 (omega (arith, place_below r p rows districts lr lp, places)) in
          let was = ap (λ k. get_or cells k 0) at in
          omega (arith, next, one, written, was, before q d lq ld)
      | inr off ↦
          let none : one_if ((r == q) && (p == d)) ≡ 0 = cond-false {A = ℕ} ((r == q) && (p == d)) 1 0 (false_from_ne_true ((r == q) && (p == d)) (λ h.
          let parts = and_parts (r == q) (p == d) h in
          off (ap (λ k. k * districts + d) (sym (eqb-true r q parts.0)) ∙ ap (λ k. r * districts + k) (sym (eqb-true p d parts.1))))) in
          let kept = get_or-set_other cells place (q * districts + d) (get_or cells place 0 + 1) 0 off in
          omega (arith, next, none, kept, before q d lq ld)
    ]

-- the position of a region and a district does not overflow
pub small_place : (regions : List ℕ) (districts : ℕ) (splits : SplitCounts) (r d : ℕ) → IsTable regions districts splits → r < length splits.widths → d < districts
    → r * districts + d < 1000000
small_place regions districts splits r d table lr ld =
    let inside = place_below r d (length splits.widths) districts lr ld in
    let few : length splits.widths * districts ≤ 5000 * districts = mul-le-mul_right districts (omega (arith, table.rows, table.few_rows)) in
    omega (arith, inside, few, table.few)

-- the totals decide the rules on regions
pub within : (rules : Rules) (after : List ℕ) (t : Totals) → t ≡ totals_of rules.regions rules.max_split after
    → ((t.broken == 0) && nat_le t.in_all rules.max_splits && nat_le t.split rules.max_split_regions) ≡ permits_splits rules after
within rules after t h =
    ap (λ (t : Totals). (t.broken == 0) && nat_le t.in_all rules.max_splits && nat_le t.split rules.max_split_regions) h
    ∙ ap (λ b. b && nat_le (splits_in_all rules.regions after) rules.max_splits && nat_le (split_regions rules.regions after) rules.max_split_regions)
    (all_is_none (above_all rules.regions) (λ q. nat_le (split_of rules.regions after q) rules.max_split))

-- recomputed counts are the plan's
pub stands_anew : (regions : List ℕ) (most districts : ℕ) (splits : SplitCounts) (plan : List ℕ)
    → (0 < above_all regions → length plan ≡ length regions) → above_all plan ≤ districts → length splits.widths ≡ above_all regions
    → ((q d : ℕ) → q < length splits.widths → d < districts → cell districts splits.cells q d ≡ units_among (length regions) regions plan q d)
    → ((q : ℕ) → q < length splits.widths → get_or splits.widths q 0 ≡ count_below districts (λ d. nat_lt 0 (cell districts splits.cells q d)))
    → splits.totals ≡ totals_from (length splits.widths) most (λ q. get_or splits.widths q 0)
    → AreSplits regions most districts splits plan
stands_anew regions most districts splits plan long below rows units widths h =
    let split : (q : ℕ) → q < length splits.widths → get_or splits.widths q 0 ≡ split_of regions plan q = λ q l.
    widths q l ∙ count_below_same districts (λ d. nat_lt 0 (cell districts splits.cells q d)) (λ d. nat_lt 0 (units_among (length regions) regions plan q d))
    (λ d ld. ap (nat_lt 0) (units q d l ld)) ∙ sym (split_is_counted regions plan districts q (long (omega (arith, l, rows))) below) in
    record {
      units = λ q d lq ld. units q d (omega (arith, lq, rows)) ld;
      widths = λ q lq. split q (omega (arith, lq, rows));
      totals = h ∙ totals_same (totals_from (length splits.widths) most (λ q. get_or splits.widths q 0)) (totals_from (length splits.widths) most (split_of regions plan))
          (count_below_same (length splits.widths) (λ q. not (nat_le (get_or splits.widths q 0) most)) (λ q. not (nat_le (split_of regions plan q) most))
          (λ q l. ap (λ x. not (nat_le x most)) (split q l)))
          (sum_same (length splits.widths) (λ q. get_or splits.widths q 0 - 1) (λ q. split_of regions plan q - 1) (λ q l. ap (λ (x : ℕ). x - 1) (split q l)))
          (count_below_same (length splits.widths) (λ q. nat_lt 1 (get_or splits.widths q 0)) (λ q. nat_lt 1 (split_of regions plan q))
          (λ q l. ap (nat_lt 1) (split q l)))
          ∙ ap (λ (n : ℕ). totals_from n most (split_of regions plan)) rows;
    }

-- counts written as a plan's are its counts
pub stands_as : (regions : List ℕ) (most districts : ℕ) (cells written widths written_widths : List ℕ) (t : Totals) (plan : List ℕ)
    → written ≡ cells → written_widths ≡ widths → AreSplits regions most districts (record { cells = cells; widths = widths; totals = t }) plan
    → AreSplits regions most districts (record { cells = written; widths = written_widths; totals = t }) plan
stands_as regions most districts cells written widths written_widths t plan e f h =
    subst (λ (xs : List ℕ). AreSplits regions most districts (record { cells = xs; widths = written_widths; totals = t }) plan) (sym e)
    (subst (λ (ys : List ℕ). AreSplits regions most districts (record { cells = cells; widths = ys; totals = t }) plan) (sym f) h)

-- ---- no regions

-- the bound of an empty list is 0
pub none_above : (xs : List ℕ) → length xs ≡ 0 → above_all xs ≡ 0
none_above xs none = ap above_all (nil_from_length xs none)

-- the totals without regions are 0
no_totals : (regions : List ℕ) (most : ℕ) (plan : List ℕ) → above_all regions ≡ 0 → totals_of regions most plan ≡ record { broken = 0; in_all = 0; split = 0 }
no_totals regions most plan none =
    ap (λ (n : ℕ). totals_from n most (split_of regions plan)) none
    ∙ totals_same (totals_from 0 most (split_of regions plan)) (record { broken = 0; in_all = 0; split = 0 })
    (count_below_zero (λ q. not (nat_le (split_of regions plan q) most))) refl (count_below_zero (λ q. nat_lt 1 (split_of regions plan q)))

-- without regions, the rules on regions are met
pub none_permitted : (rules : Rules) (plan : List ℕ) → length rules.regions ≡ 0 → true ≡ permits_splits rules plan
none_permitted rules plan none =
    let zero_above = none_above rules.regions none in
    let totals = no_totals rules.regions rules.max_split plan zero_above in
    let in_all : splits_in_all rules.regions plan ≡ 0 = ap (λ (t : Totals). t.in_all) totals in
    let split : split_regions rules.regions plan ≡ 0 = ap (λ (t : Totals). t.split) totals in
    sym (and_from (are_whole rules.regions rules.max_split plan && nat_le (splits_in_all rules.regions plan) rules.max_splits)
    (nat_le (split_regions rules.regions plan) rules.max_split_regions)
    (and_from (are_whole rules.regions rules.max_split plan) (nat_le (splits_in_all rules.regions plan) rules.max_splits)
    (ap (λ (n : ℕ). all_below n (λ q. nat_le (split_of rules.regions plan q) rules.max_split)) zero_above)
    (le-leb (splits_in_all rules.regions plan) rules.max_splits (omega (arith, in_all))))
    (le-leb (split_regions rules.regions plan) rules.max_split_regions (omega (arith, split))))

-- without regions, the counts are those of every plan
pub none_stand : (regions : List ℕ) (most districts : ℕ) (splits : SplitCounts) (plan other : List ℕ) → length regions ≡ 0
    → AreSplits regions most districts splits plan → AreSplits regions most districts splits other
none_stand regions most districts splits plan other none stood =
    let zero_above = none_above regions none in
    record {
      units = λ q d lq ld. absurd (omega (arith, lq, zero_above));
      widths = λ q lq. absurd (omega (arith, lq, zero_above));
      totals = stood.totals ∙ no_totals regions most plan zero_above ∙ sym (no_totals regions most other zero_above);
    }
