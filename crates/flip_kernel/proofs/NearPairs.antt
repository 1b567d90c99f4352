-- Tables of neighbor counts, pair by pair.
use Rattle.std.proofs.Common.{◌≡◌, ℕ, ◌+◌, ◌*◌, ◌<◌, ◌≤◌, Bool, true, false, cond, not, ◌&&◌, ◌||◌, ◌==◌, List, [], ◌∷◌, ◌++◌, length, get_or, set, take, refl, sym, ap, ◌∙◌, subst, inl, inr, arith, length-set, length-take}
use Rattle.std.specs.Prelude.{count_by, nat_lt}
use Rattle.std.specs.List.{list_any}
use Rattle.std.proofs.lemmas.Bool.{cases_Bool, cases_eq, eq-eqb, ne_eqb, lt-ltb, le-ltb, and_left, and_right, and_from}
use Rattle.std.proofs.lemmas.List.{get_or-set_same, get_or-set_other}
use Rattle.std.proofs.lemmas.List.Sums.{sum_by-cons, count_by-le-length}
use Rattle.std.proofs.lemmas.Nat.{same_from_place}
use Rattle.audit_model.specs.Graph.{Graph, IsGraph, has, adjacent}
use Rattle.audit_model.specs.District.{in_district}
use Rattle.audit_model.specs.Length.{degree}
use Rattle.audit_model.proofs.Below.{count_below_without}
use Rattle.audit_model.proofs.ListFacts.{at_has}
use Rattle.audit_model.proofs.Rows.{IsRising, row_counted, row_rises, counted_more}
use Rattle.district_sums.proofs.Moving.{count_below_but_one}
use Rattle.district_sums.proofs.Walking.{has_last, has_others, is_new}
use Rattle.district_sums.specs.Following.{count_near}
use Rattle.flip_kernel.specs.Nearby.{near_of, entry, shows_open, AreNear, HasShortRows, HasCounted, HasMoved, HasPassed}
use Rattle.flip_kernel.specs.OpenPairs.{is_open}
use Rattle.flip_kernel.proofs.Beside.{not_open}

-- ---- one pair

-- two places are equal exactly if both parts are
place_parts : (u d v e n : ℕ) → d < n → e < n → (v * n + e == u * n + d) ≡ ((v == u) && (e == d))
place_parts u d v e n ld le = elim (cases_eq v u) [
  | inl same ↦ elim (cases_eq e d) [
    | inl at ↦
        eq-eqb (v * n + e) (u * n + d) (ap (λ (x : ℕ). x * n + e) same ∙ ap (λ (x : ℕ). u * n + x) at)
        ∙ sym (and_from (v == u) (e == d) (eq-eqb v u same) (eq-eqb e d at))
    | inr off ↦
        ne_eqb (v * n + e) (u * n + d) (λ x. off (same_from_place v e u d n le ld x).1)
        ∙ sym (and_right (v == u) (e == d) (ne_eqb e d off))
  ]
  | inr off ↦
      ne_eqb (v * n + e) (u * n + d) (λ x. off (same_from_place v e u d n le ld x).0)
      ∙ sym (and_left (v == u) (e == d) (ne_eqb v u off))
]

-- a pair is in another district's or another unit's place
pub near_other : (table : List ℕ) (districts u d v e x : ℕ) → d < districts → e < districts → (u ≡ v → d ≡ e → ⊥)
    → near_of (set table (v * districts + e) x) districts u d ≡ near_of table districts u d
near_other table districts u d v e x ld le off =
    get_or-set_other table (v * districts + e) (u * districts + d) x 0
    (λ same. let parts = same_from_place u d v e districts ld le same in off parts.0 parts.1)

-- a unit has at most as many neighbors in a district as it has in all
pub near_few : (g : Graph) (plan : List ℕ) (u d : ℕ) → IsGraph g → count_near g plan u d ≤ degree g u
near_few g plan u d sound = omega (arith, row_counted g u (in_district plan d) sound, count_by-le-length (in_district plan d) (get_or g.neighbours u []))

-- the entry of a unit's own district has 128 in addition
pub entry_own : (g : Graph) (plan : List ℕ) (u d : ℕ) → get_or plan u 0 ≡ d → entry g plan u d ≡ count_near g plan u d + 128
entry_own g plan u d here = ap (λ b. count_near g plan u d + cond {A = ℕ} b 128 0) (eq-eqb (get_or plan u 0) d here)

-- the entry of another district is the number of neighbors
pub entry_other : (g : Graph) (plan : List ℕ) (u d : ℕ) → (get_or plan u 0 ≡ d → ⊥) → entry g plan u d ≡ count_near g plan u d
entry_other g plan u d off =
    let none : cond {A = ℕ} (in_district plan d u) 128 0 ≡ 0 = ap (λ b. cond {A = ℕ} b 128 0) (ne_eqb (get_or plan u 0) d off) in
    omega (arith, none)

-- a unit with a neighbor has a neighbor in that one's district
pub near_some : (g : Graph) (plan : List ℕ) (u v : ℕ) → IsGraph g → u < g.units → adjacent g u v ≡ true → 0 < count_near g plan v (get_or plan u 0)
near_some g plan u v sound l near =
    let test : ℕ → Bool = λ w. adjacent g v w && in_district plan (get_or plan u 0) w in
    let passes : test u ≡ true = and_from (adjacent g v u) (in_district plan (get_or plan u 0) u) (sound.symmetric v u ∙ near) (eq-eqb (get_or plan u 0) (get_or plan u 0) refl) in
    omega (arith, count_below_without g.units test u l passes)

-- some item passes a test exactly if the count of those that do is not 0
any_counted : (test : ℕ → Bool) (xs : List ℕ) → list_any test xs ≡ not (count_by test xs == 0)
any_counted test [] = refl
any_counted test (x ∷ xs) =
    let counted : count_by test (x ∷ xs) ≡ cond {A = ℕ} (test x) 1 0 + count_by test xs = sum_by-cons (λ u. cond {A = ℕ} (test u) 1 0) x xs in
    elim (cases_Bool (test x)) [
      | inl passes ↦
          let one : cond {A = ℕ} (test x) 1 0 ≡ 1 = ap (λ b. cond {A = ℕ} b 1 0) passes in
          ap (λ b. b || list_any test xs) passes
          ∙ sym (ap not (ne_eqb (count_by test (x ∷ xs)) 0 (λ e. omega (arith, counted, one, e))))
      | inr fails ↦
          let none : cond {A = ℕ} (test x) 1 0 ≡ 0 = ap (λ b. cond {A = ℕ} b 1 0) fails in
          let same : count_by test (x ∷ xs) ≡ count_by test xs = omega (arith, counted, none) in
          ap (λ b. b || list_any test xs) fails ∙ any_counted test xs ∙ ap (λ (m : ℕ). not (m == 0)) (sym same)
    ]

-- a unit has a neighbor in a district exactly if their number is not 0
pub any_near : (g : Graph) (plan : List ℕ) (u d : ℕ) → IsGraph g → list_any (in_district plan d) (get_or g.neighbours u []) ≡ not (count_near g plan u d == 0)
any_near g plan u d sound =
    any_counted (in_district plan d) (get_or g.neighbours u []) ∙ ap (λ (m : ℕ). not (m == 0)) (row_counted g u (in_district plan d) sound)

-- an entry shows if its pair is open
pub shows_is_open : (g : Graph) (plan : List ℕ) (u d n : ℕ) → IsGraph g → degree g u ≤ 127 → n ≡ entry g plan u d → shows_open n ≡ is_open g plan u d
shows_is_open g plan u d n sound short is = elim (cases_eq (get_or plan u 0) d) [
  | inl here ↦
      let own = entry_own g plan u d here in
      and_right (not (n == 0)) (nat_lt n 128) (le-ltb n 128 (omega (arith, is, own))) ∙ sym (not_open g plan u d here)
  | inr off ↦
      let few = near_few g plan u d sound in
      let same : n ≡ count_near g plan u d = is ∙ entry_other g plan u d off in
      and_true_right (not (n == 0)) (nat_lt n 128) (lt-ltb n 128 (omega (arith, same, few, short)))
      ∙ ap (λ (m : ℕ). not (m == 0)) same
      ∙ sym (any_near g plan u d sound)
      ∙ sym (ap (λ b. not b && list_any (in_district plan d) (get_or g.neighbours u [])) (ne_eqb (get_or plan u 0) d off))
]
  where
    and_true_right : (a b : Bool) → b ≡ true → (a && b) ≡ a
    and_true_right true b e = e
    and_true_right false b e = refl

-- ---- the pairs of one unit

-- before the first neighbor, only the own district's entry has its mark
pub counting_none : (plan : List ℕ) (districts unit place : ℕ) (table : List ℕ) → get_or plan unit 0 < districts → place ≡ unit * districts + get_or plan unit 0
    → place < length table → ((d : ℕ) → d < districts → near_of table districts unit d ≡ 0) → HasCounted plan districts unit [] table (set table place 128)
counting_none plan districts unit place table home is inside zeros = record {
  width = length-set table place 128;
  own = own;
  others = λ u d off ld.
      ap (λ (k : ℕ). near_of (set table k 128) districts u d) is ∙ near_other table districts u d unit (get_or plan unit 0) 128 ld home (λ same _. off same);
}
  where
    own : (d : ℕ) → d < districts → near_of (set table place 128) districts unit d ≡ count_by (in_district plan d) [] + cond {A = ℕ} (in_district plan d unit) 128 0
    own d ld = elim (cases_eq d (get_or plan unit 0)) [
      | inl here ↦
          let at : unit * districts + d ≡ place = ap (λ (x : ℕ). unit * districts + x) here ∙ sym is in
          let written : near_of (set table place 128) districts unit d ≡ 128 =
          ap (λ (k : ℕ). get_or (set table place 128) k 0) at ∙ get_or-set_same table place 128 0 inside in
          let own : cond {A = ℕ} (in_district plan d unit) 128 0 ≡ 128 = ap (λ b. cond {A = ℕ} b 128 0) (eq-eqb (get_or plan unit 0) d (sym here)) in
          omega (arith, written, own)
      | inr off ↦
          let kept : near_of (set table place 128) districts unit d ≡ near_of table districts unit d =
          ap (λ (k : ℕ). near_of (set table k 128) districts unit d) is
          ∙ near_other table districts unit d unit (get_or plan unit 0) 128 ld home (λ _ same. off same) in
          let none : cond {A = ℕ} (in_district plan d unit) 128 0 ≡ 0 = ap (λ b. cond {A = ℕ} b 128 0) (ne_eqb (get_or plan unit 0) d (λ x. off (sym x))) in
          omega (arith, kept, none, zeros d ld)
    ]

-- counting one more neighbor
pub counting_more : (plan : List ℕ) (districts unit place : ℕ) (row : List ℕ) (i : ℕ) (old new : List ℕ) → i < length row → get_or plan (get_or row i 0) 0 < districts
    → place ≡ unit * districts + get_or plan (get_or row i 0) 0 → place < length new → HasCounted plan districts unit (take i row) old new
    → HasCounted plan districts unit (take (i + 1) row) old (set new place (get_or new place 0 + 1))
counting_more plan districts unit place row i old new l there is inside before = record {
  width = length-set new place (get_or new place 0 + 1) ∙ before.width;
  own = own;
  others = λ u d off ld.
      ap (λ (k : ℕ). near_of (set new k (get_or new place 0 + 1)) districts u d) is
      ∙ near_other new districts u d unit (get_or plan (get_or row i 0) 0) (get_or new place 0 + 1) ld there (λ same _. off same)
      ∙ before.others u d off ld;
}
  where
    own : (d : ℕ) → d < districts → near_of (set new place (get_or new place 0 + 1)) districts unit d
        ≡ count_by (in_district plan d) (take (i + 1) row) + cond {A = ℕ} (in_district plan d unit) 128 0
    own d ld = elim (cases_eq d (get_or plan (get_or row i 0) 0)) [
      | inl here ↦
          let at : unit * districts + d ≡ place = ap (λ (x : ℕ). unit * districts + x) here ∙ sym is in
          let written : near_of (set new place (get_or new place 0 + 1)) districts unit d ≡ get_or new place 0 + 1 =
          ap (λ (k : ℕ). get_or (set new place (get_or new place 0 + 1)) k 0) at ∙ get_or-set_same new place (get_or new place 0 + 1) 0 inside in
          let was : get_or new place 0 ≡ count_by (in_district plan d) (take i row) + cond {A = ℕ} (in_district plan d unit) 128 0 =
          ap (λ (k : ℕ). get_or new k 0) (sym at) ∙ before.own d ld in
          let more = counted_more (in_district plan d) row i l in
          let one : cond {A = ℕ} (in_district plan d (get_or row i 0)) 1 0 ≡ 1 =
          ap (λ b. cond {A = ℕ} b 1 0) (eq-eqb (get_or plan (get_or row i 0) 0) d (sym here)) in
          omega (arith, written, was, more, one)
      | inr off ↦
          let kept : near_of (set new place (get_or new place 0 + 1)) districts unit d ≡ near_of new districts unit d =
          ap (λ (k : ℕ). near_of (set new k (get_or new place 0 + 1)) districts unit d) is
          ∙ near_other new districts unit d unit (get_or plan (get_or row i 0) 0) (get_or new place 0 + 1) ld there (λ _ same. off same) in
          let was = before.own d ld in
          let more = counted_more (in_district plan d) row i l in
          let none : cond {A = ℕ} (in_district plan d (get_or row i 0)) 1 0 ≡ 0 =
          ap (λ b. cond {A = ℕ} b 1 0) (ne_eqb (get_or plan (get_or row i 0) 0) d (λ x. off (sym x))) in
          omega (arith, kept, was, more, none)
    ]

-- while neighbors are counted, an entry has room for one more
pub counting_fits : (plan : List ℕ) (districts unit d : ℕ) (row : List ℕ) (i : ℕ) (old new : List ℕ) → i < length row → length row ≤ 127 → d < districts
    → HasCounted plan districts unit (take i row) old new → near_of new districts unit d < 255
counting_fits plan districts unit d row i old new l short ld before =
    let few = count_by-le-length (in_district plan d) (take i row) in
    let taken : length (take i row) ≤ i = omega (arith, length-take i row) in
    elim (cases_Bool (in_district plan d unit)) [
      | inl own ↦
          let marked : cond {A = ℕ} (in_district plan d unit) 128 0 ≡ 128 = ap (λ b. cond {A = ℕ} b 128 0) own in
          omega (arith, before.own d ld, marked, few, taken, l, short)
      | inr other ↦
          let none : cond {A = ℕ} (in_district plan d unit) 128 0 ≡ 0 = ap (λ b. cond {A = ℕ} b 128 0) other in
          omega (arith, before.own d ld, none, few, taken, l, short)
    ]

-- ---- unit by unit

-- the units before this one are counted, and the others have zeros
pub record IsCounting (g : Graph) (plan : List ℕ) (districts unit : ℕ) (table : List ℕ) : Type 0 where
  pub counted : (u d : ℕ) → u < unit → d < districts → near_of table districts u d ≡ entry g plan u d
  pub zeros : (u d : ℕ) → unit ≤ u → d < districts → near_of table districts u d ≡ 0

-- one more unit is counted
pub counting_next : (g : Graph) (plan : List ℕ) (districts unit : ℕ) (row old new : List ℕ) → IsGraph g → row ≡ get_or g.neighbours unit []
    → HasCounted plan districts unit row old new → IsCounting g plan districts unit old → IsCounting g plan districts (unit + 1) new
counting_next g plan districts unit row old new sound is_row has_counted before = record {
  counted = λ u d l ld. elim (cases_eq u unit) [
    | inl e ↦
        ap (λ (x : ℕ). near_of new districts x d) e ∙ has_counted.own d ld
        ∙ ap (λ (m : ℕ). m + cond {A = ℕ} (in_district plan d unit) 128 0) (ap (count_by (in_district plan d)) is_row ∙ row_counted g unit (in_district plan d) sound)
        ∙ ap (λ (x : ℕ). entry g plan x d) (sym e)
    | inr off ↦ has_counted.others u d off ld ∙ before.counted u d (omega (arith, l, off)) ld
  ];
  zeros = λ u d l ld. has_counted.others u d (λ e. omega (arith, l, e)) ld ∙ before.zeros u d (omega (arith, l)) ld;
}

-- ---- a move

-- the number of neighbors in a district changes by the unit that moves
shifted_near : (g : Graph) (plan : List ℕ) (u d : ℕ) → u < length plan → u < g.units → (v e : ℕ)
    → count_near g (set plan u d) v e + cond {A = ℕ} (adjacent g v u && (get_or plan u 0 == e)) 1 0
    ≡ count_near g plan v e + cond {A = ℕ} (adjacent g v u && (d == e)) 1 0
shifted_near g plan u d l lu v e =
    let after : ℕ → Bool = λ w. adjacent g v w && in_district (set plan u d) e w in
    let before : ℕ → Bool = λ w. adjacent g v w && in_district plan e w in
    let but_one = count_below_but_one g.units u after before lu
    (λ w under off. ap (λ (x : ℕ). adjacent g v w && (x == e)) (get_or-set_other plan u w d 0 off)) in
    let own : cond {A = ℕ} (after u) 1 0 ≡ cond {A = ℕ} (adjacent g v u && (d == e)) 1 0 =
    ap (λ (x : ℕ). cond {A = ℕ} (adjacent g v u && (x == e)) 1 0) (get_or-set_same plan u d 0 l) in
    omega (arith, but_one, own)

-- a unit outside the row keeps its numbers
pub not_moved : (districts from to v e : ℕ) (row old new : List ℕ) → HasMoved districts from to row old new → has row v ≡ false → e < districts
    → near_of new districts v e ≡ near_of old districts v e
not_moved districts from to v e row old new moved out le =
    let is = moved.each v e le in
    let none : cond {A = ℕ} (has row v && (from == e)) 1 0 ≡ 0 = ap (λ b. cond {A = ℕ} (b && (from == e)) 1 0) out in
    let other : cond {A = ℕ} (has row v && (to == e)) 1 0 ≡ 0 = ap (λ b. cond {A = ℕ} (b && (to == e)) 1 0) out in
    omega (arith, is, none, other)

-- the next unit of a row is not among the units before it
pub row_fresh : (g : Graph) (u i : ℕ) (row : List ℕ) → IsGraph g → row ≡ get_or g.neighbours u [] → i < length row → has (take i row) (get_or row i 0) ≡ false
row_fresh g u i row sound is_row lt = is_new row i (subst IsRising (sym is_row) (row_rises g u sound)) lt

-- the units of a row are neighbors
pub row_beside : (g : Graph) (u i : ℕ) (row : List ℕ) → row ≡ get_or g.neighbours u [] → i < length row → adjacent g u (get_or row i 0) ≡ true
row_beside g u i row is_row lt = subst (λ (xs : List ℕ). has xs (get_or row i 0) ≡ true) is_row (at_has row i lt)

-- one more neighbor is passed
pub moved_more : (districts from to v : ℕ) (row old new later : List ℕ) → from < districts → to < districts → HasMoved districts from to row old new → has row v ≡ false
    → HasPassed 1 (v * districts + from) (v * districts + to) new later → HasMoved districts from to (row ++ v ∷ []) old later
moved_more districts from to v row old new later lf lt moved out passed = record { width = passed.width ∙ moved.width; each = each }
  where
    each : (u d : ℕ) → d < districts → near_of later districts u d + cond {A = ℕ} (has (row ++ v ∷ []) u && (from == d)) 1 0
        ≡ near_of old districts u d + cond {A = ℕ} (has (row ++ v ∷ []) u && (to == d)) 1 0
    each u d ld =
        let one = passed.each (u * districts + d) in
        let before = moved.each u d ld in
        let taken : cond {A = ℕ} (v * districts + from == u * districts + d) 1 0 ≡ cond {A = ℕ} ((v == u) && (from == d)) 1 0 =
        ap (λ b. cond {A = ℕ} b 1 0) (place_parts u d v from districts ld lf) in
        let added : cond {A = ℕ} (v * districts + to == u * districts + d) 1 0 ≡ cond {A = ℕ} ((v == u) && (to == d)) 1 0 =
        ap (λ b. cond {A = ℕ} b 1 0) (place_parts u d v to districts ld lt) in
        elim (cases_eq v u) [
          | inl e ↦
              let gone : has row u ≡ false = ap (has row) (sym e) ∙ out in
              let had : has (row ++ v ∷ []) u ≡ true = ap (has (row ++ v ∷ [])) (sym e) ∙ has_last row v in
              let was_from : cond {A = ℕ} (has row u && (from == d)) 1 0 ≡ 0 = ap (λ b. cond {A = ℕ} (b && (from == d)) 1 0) gone in
              let was_to : cond {A = ℕ} (has row u && (to == d)) 1 0 ≡ 0 = ap (λ b. cond {A = ℕ} (b && (to == d)) 1 0) gone in
              let is_from : cond {A = ℕ} (has (row ++ v ∷ []) u && (from == d)) 1 0 ≡ cond {A = ℕ} ((v == u) && (from == d)) 1 0 =
              ap (λ b. cond {A = ℕ} (b && (from == d)) 1 0) (had ∙ sym (eq-eqb v u e)) in
              let is_to : cond {A = ℕ} (has (row ++ v ∷ []) u && (to == d)) 1 0 ≡ cond {A = ℕ} ((v == u) && (to == d)) 1 0 =
              ap (λ b. cond {A = ℕ} (b && (to == d)) 1 0) (had ∙ sym (eq-eqb v u e)) in
              omega (arith, one, before, taken, added, was_from, was_to, is_from, is_to)
          | inr off ↦
              let no_from : cond {A = ℕ} ((v == u) && (from == d)) 1 0 ≡ 0 = ap (λ b. cond {A = ℕ} (b && (from == d)) 1 0) (ne_eqb v u off) in
              let no_to : cond {A = ℕ} ((v == u) && (to == d)) 1 0 ≡ 0 = ap (λ b. cond {A = ℕ} (b && (to == d)) 1 0) (ne_eqb v u off) in
              let is_from : cond {A = ℕ} (has (row ++ v ∷ []) u && (from == d)) 1 0 ≡ cond {A = ℕ} (has row u && (from == d)) 1 0 =
              ap (λ b. cond {A = ℕ} (b && (from == d)) 1 0) (has_others row v u off) in
              let is_to : cond {A = ℕ} (has (row ++ v ∷ []) u && (to == d)) 1 0 ≡ cond {A = ℕ} (has row u && (to == d)) 1 0 =
              ap (λ b. cond {A = ℕ} (b && (to == d)) 1 0) (has_others row v u off) in
              omega (arith, one, before, taken, added, no_from, no_to, is_from, is_to)
        ]

-- the neighbor that is passed next
pub next_near : (g : Graph) (plan : List ℕ) (u d n i e : ℕ) (row old new : List ℕ) → IsGraph g → row ≡ get_or g.neighbours u [] → i < length row
    → AreNear g plan n old → HasMoved n (get_or plan u 0) d (take i row) old new → e < n → near_of new n (get_or row i 0) e ≡ entry g plan (get_or row i 0) e
next_near g plan u d n i e row old new sound is_row lt near moved le =
    not_moved n (get_or plan u 0) d (get_or row i 0) e (take i row) old new moved (row_fresh g u i row sound is_row lt) le
    ∙ near.each (get_or row i 0) e (sound.below u (get_or row i 0) (row_beside g u i row is_row lt)) le

-- a neighbor of a unit of another district has room for one more neighbor in the district
pub near_room : (g : Graph) (plan : List ℕ) (u v d : ℕ) → IsGraph g → length plan ≡ g.units → u < g.units → v < g.units → HasShortRows g
    → adjacent g u v ≡ true → (get_or plan u 0 ≡ d → ⊥) → entry g plan v d < 255
near_room g plan u v d sound complete lu lv short beside off =
    let shifted = shifted_near g plan u d (omega (arith, lu, complete)) lu v d in
    let back : adjacent g v u ≡ true = sound.symmetric v u ∙ beside in
    let gone : cond {A = ℕ} (adjacent g v u && (get_or plan u 0 == d)) 1 0 ≡ 0 =
    ap (λ b. cond {A = ℕ} b 1 0) (and_right (adjacent g v u) (get_or plan u 0 == d) (ne_eqb (get_or plan u 0) d off)) in
    let come : cond {A = ℕ} (adjacent g v u && (d == d)) 1 0 ≡ 1 = ap (λ b. cond {A = ℕ} b 1 0) (and_from (adjacent g v u) (d == d) back (eq-eqb d d refl)) in
    let few = near_few g (set plan u d) v d sound in
    let less : count_near g plan v d < 127 = omega (arith, shifted, gone, come, few, short v lv) in
    elim (cases_eq (get_or plan v 0) d) [
      | inl here ↦ omega (arith, entry_own g plan v d here, less)
      | inr apart ↦ omega (arith, entry_other g plan v d apart, less)
    ]

-- after the last neighbor, the unit's own entries are unchanged
own_near : (g : Graph) (plan : List ℕ) (districts u d e : ℕ) (row old new : List ℕ) → IsGraph g → u < g.units → row ≡ get_or g.neighbours u []
    → AreNear g plan districts old → HasMoved districts (get_or plan u 0) d row old new → e < districts → near_of new districts u e ≡ entry g plan u e
own_near g plan districts u d e row old new sound lu is_row before moved le =
    not_moved districts (get_or plan u 0) d u e row old new moved (ap (λ (xs : List ℕ). has xs u) is_row ∙ sound.loopless u) le ∙ before.each u e lu le

module _ (g : Graph) (plan : List ℕ) (districts u d : ℕ) (row old new : List ℕ) (sound : IsGraph g) (complete : length plan ≡ g.units) (lu : u < g.units)
    (is_row : row ≡ get_or g.neighbours u []) (before : AreNear g plan districts old) (moved : HasMoved districts (get_or plan u 0) d row old new)
    (lh : get_or plan u 0 < districts) (ld : d < districts) (off : get_or plan u 0 ≡ d → ⊥) where
  -- the entry of the old district has its mark
  pub own_marked : 128 ≤ near_of new districts u (get_or plan u 0)
  own_marked = omega (arith, own_near g plan districts u d (get_or plan u 0) row old new sound lu is_row before moved lh, entry_own g plan u (get_or plan u 0) refl)

  -- the entry of the new district has room for a mark
  pub own_unmarked : near_of new districts u d + 128 < 256
  own_unmarked = omega (
    arith,
    own_near g plan districts u d d row old new sound lu is_row before moved ld,
    entry_other g plan u d off,
    near_few g plan u d sound,
    before.short u lu,
  )

  -- with the mark passed, the entries are those of the plan after the move
  pub moved_all : (later : List ℕ) → HasPassed 128 (u * districts + get_or plan u 0) (u * districts + d) new later → AreNear g (set plan u d) districts later
  moved_all later passed = record {
    short = before.short;
    width = omega (arith, before.width, moved.width, passed.width);
    each = each;
  }
    where
      l : u < length plan
      l = omega (arith, lu, complete)

      counted : (v e : ℕ) → v < g.units → e < districts
          → near_of new districts v e ≡ count_near g (set plan u d) v e + cond {A = ℕ} (in_district plan e v) 128 0
      counted v e lv le =
          let is = moved.each v e le in
          let was = before.each v e lv le in
          let beside : has row v ≡ adjacent g v u = ap (λ (xs : List ℕ). has xs v) is_row ∙ sound.symmetric u v in
          let from : cond {A = ℕ} (has row v && (get_or plan u 0 == e)) 1 0 ≡ cond {A = ℕ} (adjacent g v u && (get_or plan u 0 == e)) 1 0 =
          ap (λ b. cond {A = ℕ} (b && (get_or plan u 0 == e)) 1 0) beside in
          let to : cond {A = ℕ} (has row v && (d == e)) 1 0 ≡ cond {A = ℕ} (adjacent g v u && (d == e)) 1 0 = ap (λ b. cond {A = ℕ} (b && (d == e)) 1 0) beside in
          omega (arith, is, was, from, to, shifted_near g plan u d l lu v e)

      each : (v e : ℕ) → v < g.units → e < districts → near_of later districts v e ≡ entry g (set plan u d) v e
      each v e lv le =
          let is = counted v e lv le in
          let one = passed.each (v * districts + e) in
          let taken : cond {A = ℕ} (u * districts + get_or plan u 0 == v * districts + e) 128 0 ≡ cond {A = ℕ} ((u == v) && (get_or plan u 0 == e)) 128 0 =
          ap (λ b. cond {A = ℕ} b 128 0) (place_parts v e u (get_or plan u 0) districts le lh) in
          let added : cond {A = ℕ} (u * districts + d == v * districts + e) 128 0 ≡ cond {A = ℕ} ((u == v) && (d == e)) 128 0 =
          ap (λ b. cond {A = ℕ} b 128 0) (place_parts v e u d districts le ld) in
          elim (cases_eq u v) [
            | inl same ↦
                let from : cond {A = ℕ} ((u == v) && (get_or plan u 0 == e)) 128 0 ≡ cond {A = ℕ} (in_district plan e v) 128 0 =
                ap (λ b. cond {A = ℕ} (b && (get_or plan u 0 == e)) 128 0) (eq-eqb u v same) ∙ ap (λ (x : ℕ). cond {A = ℕ} (in_district plan e x) 128 0) same in
                let to : cond {A = ℕ} ((u == v) && (d == e)) 128 0 ≡ cond {A = ℕ} (in_district (set plan u d) e v) 128 0 =
                ap (λ b. cond {A = ℕ} (b && (d == e)) 128 0) (eq-eqb u v same)
                ∙ ap (λ (x : ℕ). cond {A = ℕ} (x == e) 128 0) (sym (get_or-set_same plan u d 0 l))
                ∙ ap (λ (x : ℕ). cond {A = ℕ} (in_district (set plan u d) e x) 128 0) same in
                omega (arith, is, one, taken, added, from, to)
            | inr apart ↦
                let from : cond {A = ℕ} ((u == v) && (get_or plan u 0 == e)) 128 0 ≡ 0 = ap (λ b. cond {A = ℕ} (b && (get_or plan u 0 == e)) 128 0) (ne_eqb u v apart) in
                let to : cond {A = ℕ} ((u == v) && (d == e)) 128 0 ≡ 0 = ap (λ b. cond {A = ℕ} (b && (d == e)) 128 0) (ne_eqb u v apart) in
                let kept : cond {A = ℕ} (in_district (set plan u d) e v) 128 0 ≡ cond {A = ℕ} (in_district plan e v) 128 0 =
                ap (λ (x : ℕ). cond {A = ℕ} (x == e) 128 0) (get_or-set_other plan u v d 0 (λ x. apart (sym x))) in
                omega (arith, is, one, taken, added, from, to, kept)
          ]
