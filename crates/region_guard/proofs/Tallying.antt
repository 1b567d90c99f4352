-- Sums of a group by district, and its majorities.
use Rattle.std.proofs.Common.{◌≡◌, ℕ, ◌+◌, ◌*◌, ◌-◌, ◌^◌, ◌<◌, ◌≤◌, cond, ◌==◌, List, length, get_or, refl, sym, ap, ◌∙◌, inl, inr, arith}
use Rattle.std.specs.Prelude.{nat_lt}
use Rattle.std.proofs.Math.ListN.{set, length-set}
use Rattle.std.proofs.lemmas.Bool.{cases_eq, cond-true, cond-false, eq-eqb, ne_eqb, false_from_ne_true, ltb-true}
use Rattle.std.proofs.lemmas.Nat.{mul-le}
use Rattle.std.proofs.lemmas.List.{get_or-set_same, get_or-set_other, get_or_past, set-get_or}
use Rattle.audit_model.specs.declared.rules.Group.{Group}
use Rattle.audit_model.specs.Below.{above_all, count_below, sum_below}
use Rattle.audit_model.specs.District.{district_sum, in_district}
use Rattle.audit_model.specs.Limits.{IsColumn, IsGroup}
use Rattle.audit_model.specs.Meets.{has_majority, majorities}
use Rattle.audit_model.proofs.Below.{count_below_le, count_below_none, count_below_same}
use Rattle.audit_model.proofs.ColumnFacts.{part_of, part_small}
use Rattle.audit_model.proofs.Meeting.{below_above_all}
use Rattle.region_guard.specs.declared.majority.GroupTally.{GroupTally}
use Rattle.region_guard.specs.Standing.{IsGroupTable, IsStep, IsTallied}
use Rattle.region_guard.proofs.Cells.{one_if, count_but_two, count_longer, sum_but_one, sum_longer, sum_more, sum_none}

-- ---- one column

-- the term of a unit in a district's sum
abbrev pub term : List ℕ → List ℕ → ℕ → ℕ → ℕ
term column plan d u = cond (in_district plan d u) (get_or column u 0) 0

-- a unit adds its number to its own district
pub own_term : (column plan : List ℕ) (d u : ℕ) → get_or plan u 0 ≡ d → term column plan d u ≡ get_or column u 0
own_term column plan d u e = cond-true {A = ℕ} (get_or plan u 0 == d) (get_or column u 0) 0 (eq-eqb (get_or plan u 0) d e)

-- a unit adds nothing to other districts
pub no_term : (column plan : List ℕ) (d u : ℕ) → (get_or plan u 0 ≡ d → ⊥) → term column plan d u ≡ 0
no_term column plan d u off = cond-false {A = ℕ} (get_or plan u 0 == d) (get_or column u 0) 0 (ne_eqb (get_or plan u 0) d off)

-- a unit with number 0 adds nothing
pub zero_term : (column plan : List ℕ) (d u : ℕ) → get_or column u 0 ≡ 0 → term column plan d u ≡ 0
zero_term column plan d u none = elim (cases_eq (get_or plan u 0) d) [
  | inl e ↦ own_term column plan d u e ∙ none
  | inr off ↦ no_term column plan d u off
]

-- a district without units has the sum 0
pub no_sum : (column plan : List ℕ) (d : ℕ) → above_all plan ≤ d → district_sum column plan d ≡ 0
no_sum column plan d past = sum_none (length plan) (term column plan d) (λ u l.
    no_term column plan d u (λ e. let under = below_above_all plan u l in omega (arith, e, past, under)))

-- without a column, each district has the sum 0
pub zero_sum : (column plan : List ℕ) (d : ℕ) → length column ≡ 0 → district_sum column plan d ≡ 0
zero_sum column plan d none = sum_none (length plan) (term column plan d) (λ u l.
    zero_term column plan d u (get_or_past column u 0 (omega (arith, none))))

-- the sum over the column's units is the district's sum
pub whole_sum : (column plan : List ℕ) (d : ℕ) → length column ≤ length plan → part_of column plan (length column) d ≡ district_sum column plan d
whole_sum column plan d l = sum_longer (length plan) (length column) (term column plan d) l (λ u past.
    zero_term column plan d u (get_or_past column u 0 past))

-- adding one more unit's number
pub added_on : (column plan sums : List ℕ) (unit : ℕ) → get_or plan unit 0 < length sums
    → ((d : ℕ) → d < length sums → get_or sums d 0 ≡ part_of column plan unit d)
    → let home : ℕ = get_or plan unit 0 in
    let more : List ℕ = set sums home (get_or sums home 0 + get_or column unit 0) in
    (d : ℕ) → d < length more → get_or more d 0 ≡ part_of column plan (unit + 1) d
added_on column plan sums unit inside before d l =
    let home : ℕ = get_or plan unit 0 in
    let amount : ℕ = get_or sums home 0 + get_or column unit 0 in
    let width = length-set sums home amount in
    let next = sum_more unit (term column plan d) in
    elim (cases_eq d home) [
      | inl e ↦
          let written = ap (λ (k : ℕ). get_or (set sums home amount) k 0) e ∙ get_or-set_same sums home amount 0 inside in
          let was = before home inside in
          let same = ap (part_of column plan unit) e in
          omega (arith, next, written, was, same, own_term column plan d unit (sym e))
      | inr off ↦
          let kept = get_or-set_other sums home d amount 0 off in
          omega (arith, next, kept, before d (omega (arith, l, width)), no_term column plan d unit (λ e. off (sym e)))
    ]

-- a district's sum is at most 10 ^ 14
pub small_sum : (column plan : List ℕ) (d : ℕ) → ((u : ℕ) → u < length column → get_or column u 0 ≤ 10 ^ 9) → length column ≤ length plan → length column ≤ 100000
    → district_sum column plan d ≤ 10 ^ 14
small_sum column plan d small l few =
    let part = part_small column plan (10 ^ 9) (length column) d small (omega arith) in omega (arith, part, whole_sum column plan d l, few)

module _ (column after : List ℕ) (u from : ℕ) (inside : u < length after) where
  abbrev pub before : List ℕ
  before = set after u from

  abbrev pub to : ℕ
  to = get_or after u 0

  abbrev pub amount : ℕ
  amount = get_or column u 0

  was : get_or before u 0 ≡ from
  was = get_or-set_same after u from 0 inside

  moved_sum : (d : ℕ) → district_sum column before d + term column after d u ≡ district_sum column after d + term column before d u
  moved_sum d =
      let but = sum_but_one (length after) u (term column before d) (term column after d) inside
      (λ v l off. ap (λ (x : ℕ). cond {A = ℕ} (x == d) (get_or column v 0) 0) (get_or-set_other after u v from 0 off)) in
      let width : district_sum column before d ≡ sum_below (length after) (term column before d) =
      ap (λ (n : ℕ). sum_below n (term column before d)) (length-set after u from) in
      omega (arith, but, width)

  -- districts not involved in the move keep their sums
  pub kept_sum : (d : ℕ) → (d ≡ from → ⊥) → (d ≡ to → ⊥) → district_sum column after d ≡ district_sum column before d
  kept_sum d off_from off_to =
      omega (
        arith,
        moved_sum d,
        no_term column after d u (λ e. off_to (sym e)),
        no_term column before d u (λ e. off_from (sym e ∙ was)),
      )

  module _ (apart : to ≡ from → ⊥) where
    -- the old district had the unit's number
    pub left_sum : district_sum column before from ≡ district_sum column after from + amount
    left_sum = omega (arith, moved_sum from, no_term column after from u apart, own_term column before from u was)

    -- the new district has the unit's number
    pub come_sum : district_sum column after to ≡ district_sum column before to + amount
    come_sum = omega (arith, moved_sum to, own_term column after to u refl, no_term column before to u (λ e. apart (sym e ∙ was)))

    -- the list of sums after the move
    pub shifted_sums : (districts : ℕ) (sums : List ℕ) → from < districts → to < districts → length sums ≡ districts
        → ((d : ℕ) → d < districts → get_or sums d 0 ≡ district_sum column before d)
        → let less : List ℕ = set sums from (get_or sums from 0 - amount) in
        (d : ℕ) → d < districts → get_or (set less to (get_or less to 0 + amount)) d 0 ≡ district_sum column after d
    shifted_sums districts sums lf lt long each d l =
        let less : List ℕ = set sums from (get_or sums from 0 - amount) in
        let still : get_or less to 0 ≡ get_or sums to 0 = get_or-set_other sums from to (get_or sums from 0 - amount) 0 apart in
        elim (cases_eq d to) [
          | inl at ↦
              let written : get_or (set less to (get_or less to 0 + amount)) d 0 ≡ get_or less to 0 + amount =
              ap (λ (k : ℕ). get_or (set less to (get_or less to 0 + amount)) k 0) at
              ∙ get_or-set_same less to (get_or less to 0 + amount) 0 (omega (arith, lt, long, length-set sums from (get_or sums from 0 - amount))) in
              omega (arith, written, still, each to lt, come_sum, ap (district_sum column after) at)
          | inr off_to ↦
              let other : get_or (set less to (get_or less to 0 + amount)) d 0 ≡ get_or less d 0 =
              get_or-set_other less to d (get_or less to 0 + amount) 0 off_to in
              elim (cases_eq d from) [
                | inl at ↦
                    let written : get_or less d 0 ≡ get_or sums from 0 - amount =
                    ap (λ (k : ℕ). get_or less k 0) at ∙ get_or-set_same sums from (get_or sums from 0 - amount) 0 (omega (arith, lf, long)) in
                    omega (arith, other, written, each from lf, left_sum, ap (district_sum column after) at)
                | inr off_from ↦
                    let kept : get_or less d 0 ≡ get_or sums d 0 = get_or-set_other sums from d (get_or sums from 0 - amount) 0 off_from in
                    omega (arith, other, kept, each d l, kept_sum d off_from off_to)
              ]
        ]

-- ---- the group

-- both columns of the group have a number per unit
pub own_columns : (group : Group) → IsGroup (length group.members) group → IsColumn (length group.members) group.members × IsColumn (length group.members) group.whole
own_columns group is = elim is [
  | inl none ↦ (empty_column group.members (ap length none.0) (ap length none.0), empty_column group.whole (ap length none.1) (ap length none.0))
  | inr both ↦ both
]
  where
    empty_column : (xs : List ℕ) → length xs ≡ 0 → length group.members ≡ 0 → IsColumn (length group.members) xs
    empty_column xs none no_members = record { width = omega (arith, none, no_members); small = λ k d l. absurd (omega (arith, none, l)) }

-- districts beyond the plan's have no majority
pub majorities_within : (share : ℕ) (group : Group) (plan : List ℕ) (districts : ℕ) → above_all plan ≤ districts
    → majorities share group plan ≡ count_below districts (has_majority share group plan)
majorities_within share group plan districts l =
    count_longer districts (above_all plan) (has_majority share group plan) l (λ d past.
    let members = no_sum group.members plan d past in
    false_from_ne_true (has_majority share group plan d) (λ h.
    let less = ltb-true (share * district_sum group.whole plan d) (10000 * district_sum group.members plan d) h in omega (arith, members, less)))

-- without a group, there are no majorities
pub no_majority : (share : ℕ) (group : Group) (plan : List ℕ) → length group.members ≡ 0 → majorities share group plan ≡ 0
no_majority share group plan none = count_below_none (above_all plan) (has_majority share group plan) (λ d l.
    let members = zero_sum group.members plan d none in
    false_from_ne_true (has_majority share group plan d) (λ h.
    let less = ltb-true (share * district_sum group.whole plan d) (10000 * district_sum group.members plan d) h in omega (arith, members, less)))

-- without a group, the sums are those of every plan
pub none_tallied : (group : Group) (districts : ℕ) (tally : GroupTally) (plan other : List ℕ) → length group.members ≡ 0 → length group.whole ≡ 0
    → IsTallied group districts tally plan → IsTallied group districts tally other
none_tallied group districts tally plan other none no_whole stood = record {
  members = λ d l. stood.members d l ∙ zero_sum group.members plan d none ∙ sym (zero_sum group.members other d none);
  whole = λ d l. stood.whole d l ∙ zero_sum group.whole plan d no_whole ∙ sym (zero_sum group.whole other d no_whole);
  majorities = stood.majorities ∙ no_majority tally.share group plan none ∙ sym (no_majority tally.share group other none);
}

-- recomputed sums are the plan's
pub tallied_anew : (share : ℕ) (group : Group) (districts : ℕ) (members whole : List ℕ) (n : ℕ) (plan : List ℕ) → above_all plan ≤ districts → length members ≡ districts
    → ((d : ℕ) → d < districts → get_or members d 0 ≡ district_sum group.members plan d)
    → ((d : ℕ) → d < districts → get_or whole d 0 ≡ district_sum group.whole plan d)
    → n ≡ count_below (length members) (λ d. nat_lt (share * get_or whole d 0) (10000 * get_or members d 0))
    → IsTallied group districts (record { members = members; whole = whole; share = share; majorities = n }) plan
tallied_anew share group districts members whole n plan below long each each_whole is = record {
  members = each;
  whole = each_whole;
  majorities =
      is ∙ ap (λ (k : ℕ). count_below k (λ d. nat_lt (share * get_or whole d 0) (10000 * get_or members d 0))) long
      ∙ count_below_same districts (λ d. nat_lt (share * get_or whole d 0) (10000 * get_or members d 0)) (has_majority share group plan) (λ d l.
      ap (λ (m : ℕ). nat_lt (share * get_or whole d 0) (10000 * m)) (each d l) ∙ ap (λ (w : ℕ). nat_lt (share * w) (10000 * district_sum group.members plan d)) (each_whole d l))
      ∙ sym (majorities_within share group plan districts below);
}

module _ (group : Group) (districts : ℕ) (tally : GroupTally) (after : List ℕ) (u from : ℕ) (table : IsGroupTable group districts tally)
    (step : IsStep group.members districts after u from) (stood : IsTallied group districts tally (set after u from)) where
  abbrev pub share : ℕ
  share = tally.share

  abbrev pub plan_before : List ℕ
  plan_before = set after u from

  abbrev pub target : ℕ
  target = get_or after u 0

  columns : IsColumn (length group.members) group.members × IsColumn (length group.members) group.whole
  columns = own_columns group table.columns

  pub has_members : u < length group.members
  has_members = omega (arith, step.unit_below, step.long)

  pub has_whole : u < length group.whole
  has_whole = omega (arith, step.unit_below, step.long, columns.1.width)

  pub home_below : from < districts
  home_below =
      let same : get_or plan_before u 0 ≡ from = get_or-set_same after u from 0 step.unit_below in
      let inside : u < length plan_before = omega (arith, length-set after u from, step.unit_below) in
      omega (arith, below_above_all plan_before u inside, same, step.before_below)

  pub target_below : target < districts
  target_below = omega (arith, below_above_all after u step.unit_below, step.after_below)

  small_members : (v : ℕ) → v < length group.members → get_or group.members v 0 ≤ 10 ^ 9
  small_members v l = columns.0.small v 0 l

  small_whole : (v : ℕ) → v < length group.whole → get_or group.whole v 0 ≤ 10 ^ 9
  small_whole v l = columns.1.small v 0 l

  -- the sums and the unit's numbers do not overflow
  pub few_members : (d : ℕ) → d < districts → get_or tally.members d 0 ≤ 10 ^ 14
  few_members d l =
      let sum = small_sum group.members plan_before d small_members (omega (arith, length-set after u from, step.long)) table.few_units in
      omega (arith, stood.members d l, sum)

  pub few_whole : (d : ℕ) → d < districts → get_or tally.whole d 0 ≤ 10 ^ 14
  few_whole d l =
      let sum = small_sum group.whole plan_before d small_whole (omega (arith, length-set after u from, step.long, columns.1.width))
      (omega (arith, columns.1.width, table.few_units)) in
      omega (arith, stood.whole d l, sum)

  -- the shares of the sums do not overflow either
  pub few_share : (d : ℕ) → d < districts → share * get_or tally.whole d 0 < 2 ^ 64
  few_share d l = omega (arith, mul-le share (get_or tally.whole d 0) 10000 (10 ^ 14) table.few_share (few_whole d l))

  pub few_share_less : (d amount : ℕ) → d < districts → share * (get_or tally.whole d 0 - amount) < 2 ^ 64
  few_share_less d amount l =
      omega (arith, mul-le share (get_or tally.whole d 0 - amount) 10000 (10 ^ 14) table.few_share (omega (arith, few_whole d l)))

  pub few_share_more : (d amount : ℕ) → d < districts → amount ≤ 10 ^ 9 → share * (get_or tally.whole d 0 + amount) < 2 ^ 64
  few_share_more d amount l small =
      omega (arith, mul-le share (get_or tally.whole d 0 + amount) 10000 (10 ^ 14 + 10 ^ 9) table.few_share (omega (arith, few_whole d l, small)))

  pub unit_members : get_or group.members u 0 ≤ 10 ^ 9
  unit_members = small_members u has_members

  pub unit_whole : get_or group.whole u 0 ≤ 10 ^ 9
  unit_whole = small_whole u has_whole

  -- if the unit stays, so do the majorities
  pub stayed : target ≡ from → tally.majorities ≡ majorities share group after
  stayed e = stood.majorities ∙ ap (majorities share group) (ap (λ d. set after u d) (sym e) ∙ set-get_or after u 0)

  module _ (apart : target ≡ from → ⊥) where
    left_members : district_sum group.members plan_before from ≡ district_sum group.members after from + get_or group.members u 0
    left_members = left_sum group.members after u from step.unit_below apart

    left_whole : district_sum group.whole plan_before from ≡ district_sum group.whole after from + get_or group.whole u 0
    left_whole = left_sum group.whole after u from step.unit_below apart

    -- the old district's sum has the unit's numbers
    pub some_members : get_or group.members u 0 ≤ get_or tally.members from 0
    some_members = omega (arith, left_members, stood.members from home_below)

    pub some_whole : get_or group.whole u 0 ≤ get_or tally.whole from 0
    some_whole = omega (arith, left_whole, stood.whole from home_below)

    majority_at : (d : ℕ) → d < districts → one_if (nat_lt (share * get_or tally.whole d 0) (10000 * get_or tally.members d 0)) ≡ one_if (has_majority share group plan_before d)
    majority_at d l = ap (λ (m : ℕ). one_if (nat_lt (share * get_or tally.whole d 0) (10000 * m))) (stood.members d l)
        ∙ ap (λ (w : ℕ). one_if (nat_lt (share * w) (10000 * district_sum group.members plan_before d))) (stood.whole d l)

    majority_left : one_if (nat_lt (share * (get_or tally.whole from 0 - get_or group.whole u 0)) (10000 * (get_or tally.members from 0 - get_or group.members u 0)))
        ≡ one_if (has_majority share group after from)
    majority_left =
        let members : get_or tally.members from 0 - get_or group.members u 0 ≡ district_sum group.members after from = omega (arith, stood.members from home_below, left_members) in
        let whole : get_or tally.whole from 0 - get_or group.whole u 0 ≡ district_sum group.whole after from = omega (arith, stood.whole from home_below, left_whole) in
        ap (λ (m : ℕ). one_if (nat_lt (share * (get_or tally.whole from 0 - get_or group.whole u 0)) (10000 * m))) members
        ∙ ap (λ (w : ℕ). one_if (nat_lt (share * w) (10000 * district_sum group.members after from))) whole

    majority_come : one_if (nat_lt (share * (get_or tally.whole target 0 + get_or group.whole u 0)) (10000 * (get_or tally.members target 0 + get_or group.members u 0)))
        ≡ one_if (has_majority share group after target)
    majority_come =
        let members : get_or tally.members target 0 + get_or group.members u 0 ≡ district_sum group.members after target =
        omega (arith, stood.members target target_below, come_sum group.members after u from step.unit_below apart) in
        let whole : get_or tally.whole target 0 + get_or group.whole u 0 ≡ district_sum group.whole after target =
        omega (arith, stood.whole target target_below, come_sum group.whole after u from step.unit_below apart) in
        ap (λ (m : ℕ). one_if (nat_lt (share * (get_or tally.whole target 0 + get_or group.whole u 0)) (10000 * m))) members
        ∙ ap (λ (w : ℕ). one_if (nat_lt (share * w) (10000 * district_sum group.members after target))) whole

    -- the majorities change as those of the two districts do
    majorities_moved : majorities share group after + one_if (has_majority share group plan_before from) + one_if (has_majority share group plan_before target)
        ≡ majorities share group plan_before + one_if (has_majority share group after from) + one_if (has_majority share group after target)
    majorities_moved =
        let two = count_but_two districts from target (has_majority share group after) (has_majority share group plan_before) home_below target_below (λ e. apart (sym e))
        (λ d l off_from off_to.
        ap (λ (m : ℕ). nat_lt (share * district_sum group.whole after d) (10000 * m)) (kept_sum group.members after u from step.unit_below d off_from off_to)
        ∙ ap (λ (w : ℕ). nat_lt (share * w) (10000 * district_sum group.members plan_before d)) (kept_sum group.whole after u from step.unit_below d off_from off_to)) in
        omega (arith, two, majorities_within share group after districts step.after_below, majorities_within share group plan_before districts step.before_below)

    pub few_majorities : tally.majorities ≤ 200
    few_majorities =
        omega (arith, stood.majorities, majorities_within share group plan_before districts step.before_below, count_below_le districts (has_majority share group plan_before), table.few)

    -- the number of majorities, from those of the two districts before and after the move
    module _ (left come home there : ℕ)
        (left_is : left ≡ one_if (nat_lt (share * (get_or tally.whole from 0 - get_or group.whole u 0)) (10000 * (get_or tally.members from 0 - get_or group.members u 0))))
        (come_is : come ≡ one_if (nat_lt (share * (get_or tally.whole target 0 + get_or group.whole u 0)) (10000 * (get_or tally.members target 0 + get_or group.members u 0))))
        (home_is : home ≡ one_if (nat_lt (share * get_or tally.whole from 0) (10000 * get_or tally.members from 0)))
        (there_is : there ≡ one_if (nat_lt (share * get_or tally.whole target 0) (10000 * get_or tally.members target 0))) where
      summed : majorities share group after + home + there ≡ tally.majorities + left + come
      summed = omega (
        arith,
        majorities_moved,
        stood.majorities,
        left_is,
        majority_left,
        come_is,
        majority_come,
        home_is,
        majority_at from home_below,
        there_is,
        majority_at target target_below,
      )

      pub enough_for_home : home ≤ tally.majorities + left + come
      enough_for_home = omega (arith, summed)

      pub enough_for_both : home + there ≤ tally.majorities + left + come
      enough_for_both = omega (arith, summed)

      pub majorities_found : tally.majorities + left + come - home - there ≡ majorities share group after
      majorities_found = omega (arith, summed)

    -- the sums after the move
    pub tallied_after : (members whole : List ℕ) (n : ℕ)
        → let less : List ℕ = set tally.members from (get_or tally.members from 0 - get_or group.members u 0) in
        members ≡ set less target (get_or less target 0 + get_or group.members u 0)
        → let less : List ℕ = set tally.whole from (get_or tally.whole from 0 - get_or group.whole u 0) in
        whole ≡ set less target (get_or less target 0 + get_or group.whole u 0)
        → n ≡ majorities share group after → IsTallied group districts (record { members = members; whole = whole; share = share; majorities = n }) after
    tallied_after members whole n is_members is_whole is_n = record {
      members = λ d l. ap (λ (xs : List ℕ). get_or xs d 0) is_members
          ∙ shifted_sums group.members after u from step.unit_below apart districts tally.members home_below target_below table.members stood.members d l;
      whole = λ d l. ap (λ (xs : List ℕ). get_or xs d 0) is_whole
          ∙ shifted_sums group.whole after u from step.unit_below apart districts tally.whole home_below target_below table.whole stood.whole d l;
      majorities = is_n;
    }
