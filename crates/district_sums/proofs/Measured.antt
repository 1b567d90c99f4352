-- The total length of cut edges, and its change when one unit moves.
use Rattle.std.proofs.Common.{◌≡◌, ℕ, zero, suc, ◌+◌, ◌*◌, ◌^◌, ◌<◌, ◌≤◌, Bool, true, false, cond, not, ◌&&◌, ◌==◌, List, [], ◌∷◌, ◌++◌, length, get_or, take, refl, sym, ap, ◌∙◌, subst, inl, inr, arith, take_all}
use Rattle.std.specs.Prelude.{nat_lt}
use Rattle.std.specs.List.{All, slice_index_or}
use Rattle.std.proofs.Math.ListN.{set}
use Rattle.std.proofs.lemmas.Bool.{cases_Bool, cases_eq, cases_lt, cond-false, cond-true, eq-eqb, le-ltb, lt-ltb, ne_eqb, and_left}
use Rattle.std.proofs.lemmas.List.{get_or-set_same, get_or-set_other, get_or_past, take_more}
use Rattle.audit_model.specs.Below.{sum_below}
use Rattle.audit_model.specs.Graph.{Graph, IsGraph, has, adjacent}
use Rattle.audit_model.specs.Length.{AreLengths, arc_at, cut_length, degree, edge_length}
use Rattle.audit_model.proofs.Lengths.{arc_to, length_small, sums_within}
use Rattle.audit_model.proofs.Rows.{IsRising, row_rises}
use Rattle.dual_graph.proofs.Counting.{sum_below_same}
use Rattle.district_sums.specs.Following.{length_apart}
use Rattle.district_sums.proofs.Moving.{sum_below_but_one}
use Rattle.district_sums.proofs.Walking.{has_last, has_others, is_new}

-- ---- sums over pairs

-- the sum of weights over the pairs of numbers below a bound, each at its greater number
abbrev weights_below : ℕ → (ℕ → ℕ → ℕ) → ℕ
weights_below n w = sum_below n (λ v. sum_below v (λ a. w a v))

-- the weights agree on all pairs without the unit u
record WeighBut (u : ℕ) (p q : ℕ → ℕ → ℕ) : Type 0 where
  same : (a b : ℕ) → (a ≡ u → ⊥) → (b ≡ u → ⊥) → p a b ≡ q a b
  turned : (a : ℕ) → p a u ≡ p u a
  other_turned : (a : ℕ) → q a u ≡ q u a
  none : p u u ≡ 0
  other_none : q u u ≡ 0

-- such weights have equal sums below u
weights_before : (m u : ℕ) (p q : ℕ → ℕ → ℕ) → WeighBut u p q → m ≤ u → weights_below m p ≡ weights_below m q
weights_before zero u p q agree l = refl
weights_before (suc m) u p q agree l =
    let before = weights_before m u p q agree (omega arith) in
    let last = sum_below_same m (λ a. p a m) (λ a. q a m) (λ a under. agree.same a m (λ e. omega (arith, e)) (λ e. omega (arith, e))) in
    omega (arith, before, last)

-- the sums of all weights differ by as much as the sums of u's own
weights_but_one : (m u : ℕ) (p q : ℕ → ℕ → ℕ) → WeighBut u p q → u < m → weights_below m p + sum_below m (q u) ≡ weights_below m q + sum_below m (p u)
weights_but_one zero u p q agree l = absurd (omega arith)
weights_but_one (suc m) u p q agree l = elim (cases_eq m u) [
  | inl e ↦
      let before = weights_before m u p q agree (omega (arith, e)) in
      let row : sum_below m (λ a. p a m) ≡ sum_below m (p u) = ap (λ (v : ℕ). sum_below m (λ a. p a v)) e ∙ sum_below_same m (λ a. p a u) (p u) (λ a under. agree.turned a) in
      let other_row : sum_below m (λ a. q a m) ≡ sum_below m (q u) = ap (λ (v : ℕ). sum_below m (λ a. q a v)) e ∙ sum_below_same m (λ a. q a u) (q u) (λ a under. agree.other_turned a) in
      let none : p u m ≡ 0 = ap (p u) e ∙ agree.none in
      let other_none : q u m ≡ 0 = ap (q u) e ∙ agree.other_none in
      omega (arith, before, row, other_row, none, other_none)
  | inr off ↦
      let before = weights_but_one m u p q agree (omega (arith, off)) in
      let last = sum_below_but_one m u (λ a. p a m) (λ a. q a m) (omega (arith, off)) (λ a under apart. agree.same a m apart off) in
      omega (arith, before, last)
]

-- ---- a move

eqb_turned : (a b : ℕ) → (a == b) ≡ (b == a)
eqb_turned a b = elim (cases_eq a b) [
  | inl e ↦ eq-eqb a b e ∙ sym (eq-eqb b a (sym e))
  | inr off ↦ ne_eqb a b off ∙ sym (ne_eqb b a (λ e. off (sym e)))
]

module _ (g : Graph) (lengths : List ℕ) (sound : IsGraph g) (are : AreLengths g lengths) where
  -- the length of a pair if it is a cut edge
  abbrev weight : List ℕ → ℕ → ℕ → ℕ
  weight p a b = cond {A = ℕ} (adjacent g a b && not (get_or p a 0 == get_or p b 0)) (edge_length g lengths a b) 0

  weight_turned : (p : List ℕ) (a b : ℕ) → weight p a b ≡ weight p b a
  weight_turned p a b =
      ap (λ t. cond {A = ℕ} (adjacent g a b && not t) (edge_length g lengths a b) 0) (eqb_turned (get_or p a 0) (get_or p b 0))
      ∙ elim (cases_Bool (adjacent g a b)) [
        | inl e ↦
            ap (λ (l : ℕ). cond {A = ℕ} (adjacent g a b && not (get_or p b 0 == get_or p a 0)) l 0) (are.symmetric a b e)
            ∙ ap (λ t. cond {A = ℕ} (t && not (get_or p b 0 == get_or p a 0)) (edge_length g lengths b a) 0) (sound.symmetric a b)
        | inr e ↦
            cond-false {A = ℕ} (adjacent g a b && not (get_or p b 0 == get_or p a 0)) (edge_length g lengths a b) 0 (and_left (adjacent g a b) (not (get_or p b 0 == get_or p a 0)) e)
            ∙ sym (cond-false {A = ℕ} (adjacent g b a && not (get_or p b 0 == get_or p a 0)) (edge_length g lengths b a) 0
            (and_left (adjacent g b a) (not (get_or p b 0 == get_or p a 0)) (sym (sound.symmetric a b) ∙ e)))
      ]

  -- the lengths that a unit has apart below itself are those of its cut edges to lesser units
  pub own_apart : (plan : List ℕ) (u : ℕ) → length_apart g lengths plan u u (get_or plan u 0) ≡ sum_below u (λ a. weight plan a u)
  own_apart plan u = sum_below_same u (λ v. cond {A = ℕ} (adjacent g u v && not (get_or plan v 0 == get_or plan u 0)) (edge_length g lengths u v) 0) (λ a. weight plan a u)
      (λ v under. ap (λ t. cond {A = ℕ} (adjacent g u v && not t) (edge_length g lengths u v) 0) (eqb_turned (get_or plan v 0) (get_or plan u 0))
      ∙ weight_turned plan u v)

  module _ (plan : List ℕ) (u d : ℕ) (inside : u < length plan) (within : u < g.units) where
    abbrev after : List ℕ
    after = set plan u d

    here : get_or after u 0 ≡ d
    here = get_or-set_same plan u d 0 inside

    elsewhere : (v : ℕ) → (v ≡ u → ⊥) → get_or after v 0 ≡ get_or plan v 0
    elsewhere v off = get_or-set_other plan u v d 0 off

    -- the unit's own lengths apart, before and after the move
    row_before : sum_below g.units (weight plan u) ≡ length_apart g lengths plan u g.units (get_or plan u 0)
    row_before = sum_below_same g.units (weight plan u) (λ v. cond {A = ℕ} (adjacent g u v && not (get_or plan v 0 == get_or plan u 0)) (edge_length g lengths u v) 0)
        (λ v under. ap (λ t. cond {A = ℕ} (adjacent g u v && not t) (edge_length g lengths u v) 0) (eqb_turned (get_or plan u 0) (get_or plan v 0)))

    row_after : sum_below g.units (weight after u) ≡ length_apart g lengths plan u g.units d
    row_after = sum_below_same g.units (weight after u) (λ v. cond {A = ℕ} (adjacent g u v && not (get_or plan v 0 == d)) (edge_length g lengths u v) 0)
        (λ v under. elim (cases_eq v u) [
          | inl e ↦
              cond-false {A = ℕ} (adjacent g u v && not (get_or after u 0 == get_or after v 0)) (edge_length g lengths u v) 0
              (and_left (adjacent g u v) (not (get_or after u 0 == get_or after v 0)) (ap (adjacent g u) e ∙ sound.loopless u))
              ∙ sym (cond-false {A = ℕ} (adjacent g u v && not (get_or plan v 0 == d)) (edge_length g lengths u v) 0
              (and_left (adjacent g u v) (not (get_or plan v 0 == d)) (ap (adjacent g u) e ∙ sound.loopless u)))
          | inr off ↦
              ap (λ (x : ℕ). cond {A = ℕ} (adjacent g u v && not (x == get_or after v 0)) (edge_length g lengths u v) 0) here
              ∙ ap (λ (x : ℕ). cond {A = ℕ} (adjacent g u v && not (d == x)) (edge_length g lengths u v) 0) (elsewhere v off)
              ∙ ap (λ t. cond {A = ℕ} (adjacent g u v && not t) (edge_length g lengths u v) 0) (eqb_turned d (get_or plan v 0))
        ])

    no_loop : (p : List ℕ) → weight p u u ≡ 0
    no_loop p = cond-false {A = ℕ} (adjacent g u u && not (get_or p u 0 == get_or p u 0)) (edge_length g lengths u u) 0
        (and_left (adjacent g u u) (not (get_or p u 0 == get_or p u 0)) (sound.loopless u))

    -- the cut edges' total length changes by as much as the unit's own lengths apart
    pub shifted_length : cut_length g lengths after + length_apart g lengths plan u g.units (get_or plan u 0)
        ≡ cut_length g lengths plan + length_apart g lengths plan u g.units d
    shifted_length =
        let but_one : cut_length g lengths after + sum_below g.units (weight plan u) ≡ cut_length g lengths plan + sum_below g.units (weight after u) =
        weights_but_one g.units u (weight after) (weight plan) (record {
          same = λ a b off apart. ap (λ (x : ℕ). cond {A = ℕ} (adjacent g a b && not (x == get_or after b 0)) (edge_length g lengths a b) 0) (elsewhere a off)
              ∙ ap (λ (x : ℕ). cond {A = ℕ} (adjacent g a b && not (get_or plan a 0 == x)) (edge_length g lengths a b) 0) (elsewhere b apart);
          turned = λ a. weight_turned after a u;
          other_turned = λ a. weight_turned plan a u;
          none = no_loop after;
          other_none = no_loop plan;
        }) within in
        omega (arith, but_one, row_before, row_after)

-- ---- the pass over a row

-- the lengths apart to the units of a part of the row
abbrev pub apart_among : Graph → List ℕ → List ℕ → ℕ → ℕ → ℕ → List ℕ → ℕ
apart_among g lengths plan u bound district part =
    sum_below bound (λ v. cond {A = ℕ} (has part v && not (get_or plan v 0 == district)) (edge_length g lengths u v) 0)

-- a sum of zeros
sum_none : (n : ℕ) (f : ℕ → ℕ) → ((k : ℕ) → k < n → f k ≡ 0) → sum_below n f ≡ 0
sum_none zero f none = refl
sum_none (suc n) f none =
    let rest = sum_none n f (λ k l. none k (omega arith)) in
    let last = none n (omega arith) in
    omega (arith, rest, last)

-- before the first neighbor there is nothing
pub among_none : (g : Graph) (lengths plan : List ℕ) (u bound district : ℕ) → apart_among g lengths plan u bound district [] ≡ 0
among_none g lengths plan u bound district = sum_none bound (λ v. cond {A = ℕ} (false && not (get_or plan v 0 == district)) (edge_length g lengths u v) 0) (λ k l. refl)

-- one more neighbor adds its length if it is below the bound and apart
module _ (g : Graph) (lengths plan : List ℕ) (u bound district i : ℕ) (row : List ℕ) (sound : IsGraph g) (is_row : row ≡ slice_index_or g.neighbours u []) (l : i < length row) where
  abbrev next : ℕ
  next = get_or row i 0

  fresh : has (take i row) next ≡ false
  fresh = is_new row i (subst IsRising (sym is_row) (row_rises g u sound)) l

  abbrev with_next : ℕ → ℕ
  with_next v = cond {A = ℕ} (has (take i row ++ next ∷ []) v && not (get_or plan v 0 == district)) (edge_length g lengths u v) 0

  abbrev without : ℕ → ℕ
  without v = cond {A = ℕ} (has (take i row) v && not (get_or plan v 0 == district)) (edge_length g lengths u v) 0

  alike : (v : ℕ) → (v ≡ next → ⊥) → with_next v ≡ without v
  alike v off = ap (λ b. cond {A = ℕ} (b && not (get_or plan v 0 == district)) (edge_length g lengths u v) 0) (has_others (take i row) next v (λ e. off (sym e)))

  gained : with_next next ≡ cond {A = ℕ} (not (get_or plan next 0 == district)) (edge_length g lengths u next) 0
  gained = ap (λ b. cond {A = ℕ} (b && not (get_or plan next 0 == district)) (edge_length g lengths u next) 0) (has_last (take i row) next)

  had_none : without next ≡ 0
  had_none = ap (λ b. cond {A = ℕ} (b && not (get_or plan next 0 == district)) (edge_length g lengths u next) 0) fresh

  added : sum_below bound with_next ≡ sum_below bound without + cond {A = ℕ} (nat_lt next bound && not (get_or plan next 0 == district)) (edge_length g lengths u next) 0
  added = elim (cases_lt next bound) [
    | inl under ↦
        let but_one = sum_below_but_one bound next with_next without under (λ v inside off. alike v off) in
        let passes : cond {A = ℕ} (nat_lt next bound && not (get_or plan next 0 == district)) (edge_length g lengths u next) 0
        ≡ cond {A = ℕ} (not (get_or plan next 0 == district)) (edge_length g lengths u next) 0 =
        ap (λ b. cond {A = ℕ} (b && not (get_or plan next 0 == district)) (edge_length g lengths u next) 0) (lt-ltb next bound under) in
        omega (arith, but_one, passes, gained, had_none)
    | inr past ↦
        let same = sum_below_same bound with_next without (λ v inside. alike v (λ e. omega (arith, e, inside, past))) in
        let fails : cond {A = ℕ} (nat_lt next bound && not (get_or plan next 0 == district)) (edge_length g lengths u next) 0 ≡ 0 =
        ap (λ b. cond {A = ℕ} (b && not (get_or plan next 0 == district)) (edge_length g lengths u next) 0) (le-ltb next bound past) in
        omega (arith, same, fails)
  ]

  pub among_more : apart_among g lengths plan u bound district (take (i + 1) row)
      ≡ apart_among g lengths plan u bound district (take i row) + cond {A = ℕ} (nat_lt next bound && not (get_or plan next 0 == district)) (edge_length g lengths u next) 0
  among_more = ap (apart_among g lengths plan u bound district) (take_more row i 0 l) ∙ added

-- after the row, all neighbors are covered
pub among_all : (g : Graph) (lengths plan : List ℕ) (u bound district i : ℕ) (row : List ℕ) → row ≡ slice_index_or g.neighbours u [] → length row ≤ i
    → apart_among g lengths plan u bound district (take i row) ≡ length_apart g lengths plan u bound district
among_all g lengths plan u bound district i row is_row end = ap (apart_among g lengths plan u bound district) (take_all i row end ∙ is_row)

-- the list of lengths has the length to the neighbor at a place of the row
module _ (g : Graph) (lengths : List ℕ) (u i : ℕ) (row : List ℕ) (sound : IsGraph g) (within : u < g.units) (is_row : row ≡ slice_index_or g.neighbours u [])
    (l : i < length row) (long : length lengths ≡ sum_below g.units (degree g)) where
  degree_is : length row ≡ degree g u
  degree_is = ap length is_row

  pub length_there : sum_below u (degree g) + i < length lengths
  length_there = let all = sums_within g.units u (degree g) within in omega (arith, all, l, degree_is, long)

  pub length_read : get_or lengths (sum_below u (degree g) + i) 0 ≡ edge_length g lengths u (get_or row i 0)
  length_read =
      ap (λ (k : ℕ). get_or lengths k 0) (sym (arc_to g u i sound (omega (arith, l, degree_is))))
      ∙ ap (λ (xs : List ℕ). edge_length g lengths u (get_or xs i 0)) (sym is_row)

-- ---- sums without lengths, and bounds

-- without lengths each edge has length 0
nothing_there : (g : Graph) (lengths : List ℕ) (u v : ℕ) → length lengths ≡ 0 → edge_length g lengths u v ≡ 0
nothing_there g lengths u v none = get_or_past lengths (arc_at g u v) 0 (omega (arith, none))

-- a number or 0, if the number is 0
zero_either : (b : Bool) (n : ℕ) → n ≡ 0 → cond {A = ℕ} b n 0 ≡ 0
zero_either true n e = e
zero_either false n e = refl

-- without lengths the cut edges have length 0
pub nothing_cut : (g : Graph) (lengths plan : List ℕ) → length lengths ≡ 0 → cut_length g lengths plan ≡ 0
nothing_cut g lengths plan none = sum_none g.units (λ v. sum_below v (λ u. cond (adjacent g u v && not (get_or plan u 0 == get_or plan v 0)) (edge_length g lengths u v) 0))
    (λ v l. sum_none v (λ u. cond (adjacent g u v && not (get_or plan u 0 == get_or plan v 0)) (edge_length g lengths u v) 0)
    (λ u k. zero_either (adjacent g u v && not (get_or plan u 0 == get_or plan v 0)) (edge_length g lengths u v) (nothing_there g lengths u v none)))

-- a sum of numbers up to 2 ^ 32 - 1
sum_most : (n : ℕ) (f : ℕ → ℕ) → ((k : ℕ) → f k ≤ 4294967295) → sum_below n f ≤ 4294967295 * n
sum_most zero f each = omega arith
sum_most (suc n) f each = let rest = sum_most n f each in omega (arith, rest, each n)

-- the lengths apart of a unit are at most 2 ^ 32 - 1 for each unit below the bound
pub apart_few : (g : Graph) (lengths plan : List ℕ) (u bound district : ℕ) → All (λ l. l < 2 ^ 32) lengths → length_apart g lengths plan u bound district ≤ 4294967295 * bound
apart_few g lengths plan u bound district small = sum_most bound (λ v. cond (adjacent g u v && not (get_or plan v 0 == district)) (edge_length g lengths u v) 0)
    (λ v. elim (cases_Bool (adjacent g u v && not (get_or plan v 0 == district))) [
      | inl e ↦
          let is = cond-true {A = ℕ} (adjacent g u v && not (get_or plan v 0 == district)) (edge_length g lengths u v) 0 e in
          omega (arith, is, length_small g lengths u v small)
      | inr e ↦ let is = cond-false {A = ℕ} (adjacent g u v && not (get_or plan v 0 == district)) (edge_length g lengths u v) 0 e in omega (arith, is)
    ])
