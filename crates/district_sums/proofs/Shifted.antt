-- The sums, counts and cut edges of a plan after one unit has moved.
use Rattle.std.proofs.Common.{◌≡◌, ℕ, zero, suc, ◌+◌, ◌*◌, ◌<◌, ◌≤◌, Bool, true, false, cond, not, ◌&&◌, ◌==◌, List, length, get_or, refl, sym, ap, ◌∙◌, inl, inr, arith}
use Rattle.std.proofs.Math.ListN.{set, length-set}
use Rattle.std.proofs.lemmas.Bool.{cases_eq, eq-eqb, ne_eqb, and_left, cond-true, cond-false}
use Rattle.std.proofs.lemmas.List.{ext_get_or, get_or-set_same, get_or-set_other}
use Rattle.audit_model.specs.Below.{count_below, sum_below, map_below}
use Rattle.audit_model.specs.Graph.{Graph, IsGraph, adjacent}
use Rattle.audit_model.specs.District.{in_district, district_sum}
use Rattle.audit_model.specs.Plan.{cut_edges}
use Rattle.audit_model.proofs.Below.{count_below_same, count_below_zero, length-map_below, get_or-map_below}
use Rattle.audit_model.proofs.ColumnFacts.{part_small}
use Rattle.district_sums.specs.Following.{count_near}
use Rattle.district_sums.proofs.Moving.{sum_below_but_one, count_below_more, pairs_but_one}

-- a list of the values below n has length n
pub places : (n : ℕ) (f : ℕ → ℕ) (xs : List ℕ) → xs ≡ map_below n f → length xs ≡ n
places n f xs e = ap (length {A = ℕ}) e ∙ length-map_below n f

-- the bound of such a list is its length
pub of_its_length : (n : ℕ) (f : ℕ → ℕ) (xs : List ℕ) → xs ≡ map_below n f → xs ≡ map_below (length xs) f
of_its_length n f xs e = e ∙ ap (λ (k : ℕ). map_below k f) (sym (places n f xs e))

-- lists of equal length have equal bounds
pub of_same_length : (n : ℕ) (f h : ℕ → ℕ) (xs ys : List ℕ) → xs ≡ map_below n f → ys ≡ map_below (length xs) h → ys ≡ map_below n h
of_same_length n f h xs ys e is = is ∙ ap (λ (k : ℕ). map_below k h) (places n f xs e)

-- equality of numbers is symmetric
eqb_turned : (a b : ℕ) → (a == b) ≡ (b == a)
eqb_turned a b = elim (cases_eq a b) [
  | inl e ↦ eq-eqb a b e ∙ sym (eq-eqb b a (sym e))
  | inr off ↦ ne_eqb a b off ∙ sym (ne_eqb b a (λ e. off (sym e)))
]

-- a count splits by a second test
count_split : (n : ℕ) (p test : ℕ → Bool) → count_below n (λ v. p v && test v) + count_below n (λ v. p v && not (test v)) ≡ count_below n p
count_split zero p test = omega (arith, count_below_zero (λ v. p v && test v), count_below_zero (λ v. p v && not (test v)), count_below_zero p)
count_split (suc n) p test =
    omega (
      arith,
      count_split n p test,
      one (p n) (test n),
      count_below_more n (λ v. p v && test v),
      count_below_more n (λ v. p v && not (test v)),
      count_below_more n p,
    )
  where
    one : (a b : Bool) → cond {A = ℕ} (a && b) 1 0 + cond {A = ℕ} (a && not b) 1 0 ≡ cond {A = ℕ} a 1 0
    one false b = refl
    one true false = refl
    one true true = refl

-- the number of the unit's neighbors in other districts
abbrev apart_of : Graph → List ℕ → ℕ → ℕ
apart_of g plan u = count_below g.units (λ v. adjacent g u v && not (get_or plan v 0 == get_or plan u 0))

module _ (plan : List ℕ) (u d : ℕ) (l : u < length plan) where
  -- the plan with the unit in the district
  abbrev after : List ℕ
  after = set plan u d

  here : get_or after u 0 ≡ d
  here = get_or-set_same plan u d 0 l

  elsewhere : (v : ℕ) → (v ≡ u → ⊥) → get_or after v 0 ≡ get_or plan v 0
  elsewhere v off = get_or-set_other plan u v d 0 off

  -- a district's sum before the move and the unit's new entry add up as after the move and its old entry
  pub shifted_sum : (column : List ℕ) (e : ℕ)
      → district_sum column after e + cond {A = ℕ} (get_or plan u 0 == e) (get_or column u 0) 0
      ≡ district_sum column plan e + cond {A = ℕ} (d == e) (get_or column u 0) 0
  shifted_sum column e =
      let part : List ℕ → ℕ → ℕ = λ p v. cond {A = ℕ} (get_or p v 0 == e) (get_or column v 0) 0 in
      let width : district_sum column after e ≡ sum_below (length plan) (part after) = ap (λ (n : ℕ). sum_below n (part after)) (length-set plan u d) in
      let but_one = sum_below_but_one (length plan) u (part after) (part plan) l
      (λ v under off. ap (λ (x : ℕ). cond {A = ℕ} (x == e) (get_or column v 0) 0) (elsewhere v off)) in
      let own : part after u ≡ cond {A = ℕ} (d == e) (get_or column u 0) 0 = ap (λ (x : ℕ). cond {A = ℕ} (x == e) (get_or column u 0) 0) here in
      omega (arith, width, but_one, own)

  -- a district's sum is at least the entry of each of its units
  pub enough : (column sums : List ℕ) → sums ≡ map_below (length sums) (district_sum column plan) → (get_or plan u 0 ≡ d → ⊥)
      → get_or plan u 0 < length sums → get_or column u 0 ≤ get_or sums (get_or plan u 0) 0
  enough column sums added off in_home =
      let home : ℕ = get_or plan u 0 in
      let amount : ℕ = get_or column u 0 in
      let shifted = shifted_sum column home in
      let old : get_or sums home 0 ≡ district_sum column plan home =
      ap (λ (xs : List ℕ). get_or xs home 0) added ∙ get_or-map_below (length sums) (district_sum column plan) home 0 in_home in
      let from : cond {A = ℕ} (home == home) amount 0 ≡ amount = cond-true {A = ℕ} (home == home) amount 0 (eq-eqb home home refl) in
      let to : cond {A = ℕ} (d == home) amount 0 ≡ 0 = cond-false {A = ℕ} (d == home) amount 0 (ne_eqb d home (λ x. off (sym x))) in
      omega (arith, shifted, old, from, to)

  pub small_sum : (column sums : List ℕ) (less bound : ℕ) → sums ≡ map_below (length sums) (district_sum column plan) → (get_or plan u 0 ≡ d → ⊥)
      → d < length sums → length column ≡ length plan → ((v : ℕ) → v < length column → get_or column v 0 ≤ bound)
      → get_or (set sums (get_or plan u 0) less) d 0 ≤ bound * length plan
  small_sum column sums less bound added off in_district width small =
      let home : ℕ = get_or plan u 0 in
      let kept : get_or (set sums home less) d 0 ≡ get_or sums d 0 = get_or-set_other sums home d less 0 (λ x. off (sym x)) in
      let old : get_or sums d 0 ≡ district_sum column plan d =
      ap (λ (xs : List ℕ). get_or xs d 0) added ∙ get_or-map_below (length sums) (district_sum column plan) d 0 in_district in
      let part : district_sum column plan d ≤ bound * length plan = part_small column plan bound (length plan) d small (omega (arith, width)) in
      omega (arith, kept, old, part)

  -- the sums with the unit's entry taken from one district and added to another
  pub shifted_list : (column sums : List ℕ) (less more : ℕ) → sums ≡ map_below (length sums) (district_sum column plan) → (get_or plan u 0 ≡ d → ⊥)
      → get_or plan u 0 < length sums → d < length sums → less + get_or column u 0 ≡ get_or sums (get_or plan u 0) 0
      → more ≡ get_or (set sums (get_or plan u 0) less) d 0 + get_or column u 0
      → set (set sums (get_or plan u 0) less) d more ≡ map_below (length sums) (district_sum column after)
  shifted_list column sums less more added off in_home in_district is_less is_more =
      ext_get_or 0 (set (set sums home less) d more) (map_below (length sums) (district_sum column after))
      (width ∙ sym (length-map_below (length sums) (district_sum column after)))
      (λ e l. each e (omega (arith, l, width)) ∙ sym (get_or-map_below (length sums) (district_sum column after) e 0 (omega (arith, l, width))))
    where
      home : ℕ
      home = get_or plan u 0

      amount : ℕ
      amount = get_or column u 0

      width : length (set (set sums home less) d more) ≡ length sums
      width = length-set (set sums home less) d more ∙ length-set sums home less

      old_sum : (e : ℕ) → e < length sums → get_or sums e 0 ≡ district_sum column plan e
      old_sum e l = ap (λ (xs : List ℕ). get_or xs e 0) added ∙ get_or-map_below (length sums) (district_sum column plan) e 0 l

      taken : (a b : ℕ) → a ≡ b → cond {A = ℕ} (a == b) amount 0 ≡ amount
      taken a b e = cond-true {A = ℕ} (a == b) amount 0 (eq-eqb a b e)

      left : (a b : ℕ) → (a ≡ b → ⊥) → cond {A = ℕ} (a == b) amount 0 ≡ 0
      left a b ne = cond-false {A = ℕ} (a == b) amount 0 (ne_eqb a b ne)

      each : (e : ℕ) → e < length sums → get_or (set (set sums home less) d more) e 0 ≡ district_sum column after e
      each e l = elim (cases_eq e d) [
        | inl same ↦
            let shifted = shifted_sum column e in
            let written : get_or (set (set sums home less) d more) e 0 ≡ more =
            ap (λ (k : ℕ). get_or (set (set sums home less) d more) k 0) same
            ∙ get_or-set_same (set sums home less) d more 0 (omega (arith, in_district, length-set sums home less)) in
            let kept : get_or (set sums home less) d 0 ≡ get_or sums d 0 = get_or-set_other sums home d less 0 (λ x. off (sym x)) in
            let old : get_or sums d 0 ≡ district_sum column plan e = old_sum d in_district ∙ ap (district_sum column plan) (sym same) in
            let from = left home e (λ x. off (x ∙ same)) in
            let to = taken d e (sym same) in
            omega (arith, shifted, written, kept, old, from, to, is_more)
        | inr other ↦ elim (cases_eq e home) [
          | inl same ↦
              let shifted = shifted_sum column e in
              let written : get_or (set (set sums home less) d more) e 0 ≡ less =
              get_or-set_other (set sums home less) d e more 0 other ∙ ap (λ (k : ℕ). get_or (set sums home less) k 0) same
              ∙ get_or-set_same sums home less 0 in_home in
              let old : get_or sums home 0 ≡ district_sum column plan e = old_sum home in_home ∙ ap (district_sum column plan) (sym same) in
              let from = taken home e (sym same) in
              let to = left d e (λ x. other (sym x)) in
              omega (arith, shifted, written, old, from, to, is_less)
          | inr apart ↦
              let shifted = shifted_sum column e in
              let written : get_or (set (set sums home less) d more) e 0 ≡ get_or sums e 0 =
              get_or-set_other (set sums home less) d e more 0 other ∙ get_or-set_other sums home e less 0 apart in
              let old = old_sum e l in
              let from = left home e (λ x. apart (sym x)) in
              let to = left d e (λ x. other (sym x)) in
              omega (arith, shifted, written, old, from, to)
        ]
      ]

  module _ (g : Graph) (sound : IsGraph g) (inside : u < g.units) where
    -- the unit's own count after the move
    own_apart : apart_of g after u ≡ count_below g.units (λ v. adjacent g u v && not (get_or plan v 0 == d))
    own_apart = count_below_same g.units (λ v. adjacent g u v && not (get_or after v 0 == get_or after u 0)) (λ v. adjacent g u v && not (get_or plan v 0 == d))
        (λ v under. elim (cases_eq v u) [
          | inl e ↦
              and_left (adjacent g u v) (not (get_or after v 0 == get_or after u 0)) (ap (adjacent g u) e ∙ sound.loopless u)
              ∙ sym (and_left (adjacent g u v) (not (get_or plan v 0 == d)) (ap (adjacent g u) e ∙ sound.loopless u))
          | inr off ↦
              ap (λ (x : ℕ). adjacent g u v && not (x == get_or after u 0)) (elsewhere v off)
              ∙ ap (λ (x : ℕ). adjacent g u v && not (get_or plan v 0 == x)) here
        ])

    -- the cut edges change by as much as the unit's own count
    shifted_cut : cut_edges g after + apart_of g plan u ≡ cut_edges g plan + apart_of g after u
    shifted_cut =
        let cut : List ℕ → ℕ → ℕ → Bool = λ p a b. adjacent g a b && not (get_or p a 0 == get_or p b 0) in
        let turned : (p : List ℕ) (a b : ℕ) → cut p a b ≡ cut p b a = λ p a b.
        ap (λ t. t && not (get_or p a 0 == get_or p b 0)) (sound.symmetric a b) ∙ ap (λ t. adjacent g b a && not t) (eqb_turned (get_or p a 0) (get_or p b 0)) in
        let none : (p : List ℕ) → cut p u u ≡ false = λ p. and_left (adjacent g u u) (not (get_or p u 0 == get_or p u 0)) (sound.loopless u) in
        let row : (p : List ℕ) → count_below g.units (cut p u) ≡ apart_of g p u = λ p.
        count_below_same g.units (cut p u) (λ v. adjacent g u v && not (get_or p v 0 == get_or p u 0)) (λ v under. ap (λ b. adjacent g u v && not b) (eqb_turned (get_or p u 0) (get_or p v 0))) in
        let but_one = pairs_but_one g.units u (cut after) (cut plan) (record {
          same = λ a b off apart. ap (λ (x : ℕ). adjacent g a b && not (x == get_or after b 0)) (elsewhere a off) ∙ ap (λ (x : ℕ). adjacent g a b && not (get_or plan a 0 == x)) (elsewhere b apart);
          turned = λ a. turned after a u;
          other_turned = λ a. turned plan a u;
          none = none after;
          other_none = none plan;
        }) inside in
        omega (arith, but_one, row after, row plan)

    -- a move cuts the edges to the unit's old district, and joins those to its new one
    pub moved_cut : cut_edges g after + count_near g plan u d ≡ cut_edges g plan + count_near g plan u (get_or plan u 0)
    moved_cut = omega (
      arith,
      shifted_cut,
      own_apart,
      count_split g.units (adjacent g u) (in_district plan d),
      count_split g.units (adjacent g u) (in_district plan (get_or plan u 0)),
    )
