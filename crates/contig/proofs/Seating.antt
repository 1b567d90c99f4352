-- Sectors with the faces of corners, one after another.
use Rattle.std.proofs.Common.{◌≡◌, ℕ, ◌+◌, ◌<◌, Bool, true, false, cond, not, ◌&&◌, List, [], ◌∷◌, ◌++◌, ◌⊎◌, length, get_or, set, map, refl, sym, ap, ◌∙◌, subst, inl, inr, arith, length-set, get_or-set_same, get_or-set_other}
use Rattle.std.specs.Prelude.{◌==◌, All, count_by}
use Rattle.std.proofs.lemmas.Bool.{and_left, and_right, cases_eq, cond-false, eq-eqb, both_ways, not_from_true}
use Rattle.std.proofs.lemmas.List.{get_or_append_left, get_or_push, get_or_default, get_or-map, length-map, length_push}
use Rattle.std.proofs.lemmas.List.Sums.{sum_by-append, sum_by-cons}
use Rattle.audit_model.specs.Below.{count_below}
use Rattle.audit_model.specs.Graph.{Graph, IsGraph, has}
use Rattle.audit_model.proofs.Rows.{row_rises}
use Rattle.contig.proofs.Counting.{rising_once}
use Rattle.audit_model.proofs.Below.{count_below_same, count_below_none}
use Rattle.audit_model.proofs.ListFacts.{has_at, at_has}
use Rattle.contig.specs.Corners.{is_filled}
use Rattle.contig.specs.Order.{AreUnfaced, HasNear, HasSeats, IsBetween, IsOnGraph, IsPut, IsSeated, before, blank, blank_at, is_joined, near_at, sector_at}
use Rattle.contig.specs.declared.sector.Sector.{Sector}
use Rattle.contig.proofs.FaceCounting.{count_split}
use Rattle.contig.proofs.Ordering.{seated_filled}

-- sectors without faces have the faces of no corners
pub none_seated : (sectors : List Sector) → ((i : ℕ) → i < length sectors → (sector_at sectors i).faced ≡ false) → HasSeats [] sectors
none_seated sectors none = record {
  placed = λ k l. absurd (omega (arith, l));
  taken = λ i l h. absurd (both_ways (sector_at sectors i).faced (none i l) h);
  counted = λ inside. sym (count_below_none (length sectors) (is_joined inside sectors) (λ i l.
      and_left (sector_at sectors i).faced (inside (near_at sectors i) && (inside (near_at sectors (before (length sectors) i)) && inside (sector_at sectors i).far)) (none i l)));
}

module _ (one other far : ℕ) (old new : List Sector) (put : IsPut one other far old new) where
  abbrev here : ℕ
  here = put.0

  abbrev filled : Sector
  filled = record { near = near_at old put.0; far = far; faced = true }

  pub put_width : length new ≡ length old
  put_width = ap (length {A = Sector}) put.4 ∙ length-set old put.0 filled

  put_here : sector_at new put.0 ≡ filled
  put_here = ap (λ (t : List Sector). get_or t put.0 blank) put.4 ∙ get_or-set_same old put.0 filled blank put.1

  put_off : (k : ℕ) → (k ≡ put.0 → ⊥) → sector_at new k ≡ sector_at old k
  put_off k off = ap (λ (t : List Sector). get_or t k blank) put.4 ∙ get_or-set_other old put.0 k filled blank off

  pub put_near : (k : ℕ) → near_at new k ≡ near_at old k
  put_near k = elim (cases_eq k put.0) [
    | inl e ↦ subst (λ t. near_at new t ≡ near_at old t) (sym e) (ap (λ (t : Sector). t.near) put_here)
    | inr off ↦ ap (λ (t : Sector). t.near) (put_off k off)
  ]

  put_between : (k x y : ℕ) → IsBetween old k x y → IsBetween new k x y
  put_between k x y b = subst (λ n. ((near_at new k ≡ x) × (near_at new (before n k) ≡ y)) ⊎ ((near_at new k ≡ y) × (near_at new (before n k) ≡ x))) (sym put_width)
      (elim b [
        | inl e ↦ inl (put_near k ∙ e.0, put_near (before (length old) k) ∙ e.1)
        | inr e ↦ inr (put_near k ∙ e.0, put_near (before (length old) k) ∙ e.1)
      ])

  -- other sectors keep their corners
  seat_kept : (k : ℕ) (t : ℕ × ℕ × ℕ × ℕ) → (k ≡ put.0 → ⊥) → IsSeated old k t → IsSeated new k t
  seat_kept k t off s = record {
    within = omega (arith, s.within, put_width);
    faced = ap (λ (x : Sector). x.faced) (put_off k off) ∙ s.faced;
    far = ap (λ (x : Sector). x.far) (put_off k off) ∙ s.far;
    further = ap (λ (x : Sector). x.far) (put_off k off) ∙ s.further;
    ends = put_between k t.0 t.1 s.ends;
  }

  -- the sector has the corner
  seat_here : IsSeated new put.0 (one, other, far, far)
  seat_here = record {
    within = omega (arith, put.1, put_width);
    faced = ap (λ (x : Sector). x.faced) put_here;
    far = ap (λ (x : Sector). x.far) put_here;
    further = ap (λ (x : Sector). x.far) put_here;
    ends = put_between put.0 one other put.3;
  }

  module _ (inside : ℕ → Bool) where
    joined_off : (k : ℕ) → (k ≡ put.0 → ⊥) → is_joined inside new k ≡ is_joined inside old k
    joined_off k off =
        ap (λ (x : Sector). x.faced && (inside x.near && (inside (near_at new (before (length new) k)) && inside x.far))) (put_off k off)
        ∙ ap (λ n. (sector_at old k).faced && (inside (near_at old k) && (inside (near_at new (before n k)) && inside (sector_at old k).far))) put_width
        ∙ ap (λ v. (sector_at old k).faced && (inside (near_at old k) && (inside v && inside (sector_at old k).far))) (put_near (before (length old) k))

    joined_none : is_joined inside old put.0 ≡ false
    joined_none = and_left (sector_at old put.0).faced
        (inside (near_at old put.0) && (inside (near_at old (before (length old) put.0)) && inside (sector_at old put.0).far)) put.2

    -- one sector more is joined if the corner is filled
    joined_more : count_below (length new) (is_joined inside new) ≡ count_below (length old) (is_joined inside old) + cond {A = ℕ} (is_filled inside (one, other, far, far)) 1 0
    joined_more =
        let split_new = count_split (length old) (is_joined inside new) put.0 put.1 in
        let split_old = count_split (length old) (is_joined inside old) put.0 put.1 in
        let same : count_below (length old) (λ k. is_joined inside new k && not (k == put.0)) ≡ count_below (length old) (λ k. is_joined inside old k && not (k == put.0)) =
        count_below_same (length old) (λ k. is_joined inside new k && not (k == put.0)) (λ k. is_joined inside old k && not (k == put.0)) (λ k l. alike k) in
        let none : cond {A = ℕ} (is_joined inside old put.0) 1 0 ≡ 0 = cond-false {A = ℕ} (is_joined inside old put.0) 1 0 joined_none in
        let one_is : cond {A = ℕ} (is_joined inside new put.0) 1 0 ≡ cond (is_filled inside (one, other, far, far)) 1 0 =
        ap (λ b. cond {A = ℕ} b 1 0) (seated_filled inside new put.0 (one, other, far, far) seat_here) in
        let wide : count_below (length new) (is_joined inside new) ≡ count_below (length old) (is_joined inside new) = ap (λ n. count_below n (is_joined inside new)) put_width in
        omega (arith, split_new, split_old, same, none, one_is, wide)
      where
        alike : (k : ℕ) → (is_joined inside new k && not (k == put.0)) ≡ (is_joined inside old k && not (k == put.0))
        alike k = elim (cases_eq k put.0) [
          | inl e ↦ and_right (is_joined inside new k) (not (k == put.0)) (not_from_true (k == put.0) (eq-eqb k put.0 e))
              ∙ sym (and_right (is_joined inside old k) (not (k == put.0)) (not_from_true (k == put.0) (eq-eqb k put.0 e)))
          | inr off ↦ ap (λ b. b && not (k == put.0)) (joined_off k off)
        ]

  count_push : (inside : ℕ → Bool) (cs : List (ℕ × ℕ × ℕ × ℕ)) (t : ℕ × ℕ × ℕ × ℕ) → count_by (is_filled inside) (cs ++ t ∷ []) ≡ count_by (is_filled inside) cs + cond {A = ℕ} (is_filled inside t) 1 0
  count_push inside cs t =
      let split = sum_by-append (λ c. cond {A = ℕ} (is_filled inside c) 1 0) cs (t ∷ []) in
      let last = sum_by-cons (λ c. cond {A = ℕ} (is_filled inside c) 1 0) t [] in
      omega (arith, split, last)

  pub seated_more : (cs : List (ℕ × ℕ × ℕ × ℕ)) → HasSeats cs old → HasSeats (cs ++ (one, other, far, far) ∷ []) new
  seated_more cs h = record {
    placed = λ k l. elim (cases_eq k (length cs)) [
      | inl e ↦ (put.0, subst (λ (t : ℕ × ℕ × ℕ × ℕ). IsSeated new put.0 t) (sym (get_or_push cs (one, other, far, far) (0, 0, 0, 0) k (sym e))) seat_here)
      | inr off ↦
          let lk : k < length cs = omega (arith, l, off, length_push cs (one, other, far, far)) in
          let (i, s) = h.placed k lk in (
            i,
            subst (λ (t : ℕ × ℕ × ℕ × ℕ). IsSeated new i t) (sym (get_or_append_left cs ((one, other, far, far) ∷ []) (0, 0, 0, 0) k lk))
                (seat_kept i (get_or cs k (0, 0, 0, 0)) (λ e. both_ways (sector_at old i).faced (subst (λ t. (sector_at old t).faced ≡ false) (sym e) put.2) s.faced) s),
          )
    ];
    taken = λ i l faced. elim (cases_eq i put.0) [
      | inl e ↦ (
        length cs,
        omega (arith, length_push cs (one, other, far, far)),
        subst (λ t. IsSeated new t (get_or (cs ++ (one, other, far, far) ∷ []) (length cs) (0, 0, 0, 0))) (sym e)
            (subst (λ (t : ℕ × ℕ × ℕ × ℕ). IsSeated new put.0 t) (sym (get_or_push cs (one, other, far, far) (0, 0, 0, 0) (length cs) refl)) seat_here),
      )
      | inr off ↦
          let (k, lk, s) = h.taken i (omega (arith, l, put_width)) (ap (λ (x : Sector). x.faced) (sym (put_off i off)) ∙ faced) in (
            k,
            omega (arith, lk, length_push cs (one, other, far, far)),
            subst (λ (t : ℕ × ℕ × ℕ × ℕ). IsSeated new i t) (sym (get_or_append_left cs ((one, other, far, far) ∷ []) (0, 0, 0, 0) k lk)) (seat_kept i (get_or cs k (0, 0, 0, 0)) off s),
          )
    ];
    counted = λ inside. omega (arith, count_push inside cs (one, other, far, far), h.counted inside, joined_more inside);
  }

  -- the units stay those of the graph
  pub put_within : (g : Graph) → far < g.units → All (IsOnGraph g) old → All (IsOnGraph g) new
  put_within g lf all k d l =
      let lo : k < length old = omega (arith, l, put_width) in
      let before_is : IsOnGraph g (sector_at old k) = all k blank lo in
      subst (λ (t : Sector). IsOnGraph g t) (get_or_default new k blank d l)
      (elim (cases_eq k put.0) [
        | inl e ↦ subst (λ t. IsOnGraph g (sector_at new t)) (sym e) (subst (λ (t : Sector). IsOnGraph g t) (sym put_here)
            (record { near = (all put.0 blank put.1).near; far = lf }))
        | inr off ↦ subst (λ (t : Sector). IsOnGraph g t) (sym (put_off k off)) before_is
      ])

-- neighbors stay at their places
pub near_kept : (row : List ℕ) (old new : List Sector) → length new ≡ length old → ((i : ℕ) → near_at new i ≡ near_at old i) → HasNear row old → HasNear row new
near_kept row old new wide same h = record {
  all = λ v has_v. let (i, li, at) = h.all v has_v in (i, omega (arith, li, wide), same i ∙ at);
  only = λ i l. subst (λ v. has row v ≡ true) (sym (same i)) (h.only i (omega (arith, l, wide)));
  once = λ i j li lj e. h.once i j (omega (arith, li, wide)) (omega (arith, lj, wide)) (sym (same i) ∙ e ∙ same j);
}

-- ---- sectors without faces

module _ (g : Graph) (u : ℕ) (sound : IsGraph g) (sectors : List Sector) (blanks : sectors ≡ map blank_at (get_or g.neighbours u [])) where
  as_many : length sectors ≡ length (get_or g.neighbours u [])
  as_many = ap (length {A = Sector}) blanks ∙ length-map (get_or g.neighbours u []) blank_at

  blank_sector : (i : ℕ) → i < length sectors → sector_at sectors i ≡ blank_at (get_or (get_or g.neighbours u []) i 0)
  blank_sector i l = ap (λ (t : List Sector). get_or t i blank) blanks ∙ get_or-map blank_at (get_or g.neighbours u []) i 0 blank (omega (arith, l, as_many))

  near_is : (i : ℕ) → i < length sectors → near_at sectors i ≡ get_or (get_or g.neighbours u []) i 0
  near_is i l = ap (λ (t : Sector). t.near) (blank_sector i l)

  -- the neighbors as they stand in the graph
  pub blank_unfaced : AreUnfaced g (get_or g.neighbours u []) sectors
  blank_unfaced = record {
    near = record {
      all = λ v h. let at = has_at (get_or g.neighbours u []) v h in (at.0, omega (arith, at.1, as_many), near_is at.0 (omega (arith, at.1, as_many)) ∙ at.2);
      only = λ i l. subst (λ v. has (get_or g.neighbours u []) v ≡ true) (sym (near_is i l)) (at_has (get_or g.neighbours u []) i (omega (arith, l, as_many)));
      once = λ i j li lj e. rising_once (get_or g.neighbours u []) (row_rises g u sound) i j (omega (arith, li, as_many)) (omega (arith, lj, as_many)) (sym (near_is i li) ∙ e ∙ near_is j lj);
    };
    none = λ i l. ap (λ (t : Sector). t.faced) (blank_sector i l);
    within = λ k d l.
        let lv = sound.below u (get_or (get_or g.neighbours u []) k 0) (at_has (get_or g.neighbours u []) k (omega (arith, l, as_many))) in
        subst (λ (t : Sector). IsOnGraph g t) (sym (blank_sector k l) ∙ get_or_default sectors k blank d l) (record { near = lv; far = lv });
  }

module _ (old : List Sector) (one other : ℕ) (l1 : one < length old) (l2 : other < length old) where
  abbrev swapped : List Sector
  swapped = set (set old one (sector_at old other)) other (sector_at old one)

  as_wide : length swapped ≡ length old
  as_wide = length-set (set old one (sector_at old other)) other (sector_at old one) ∙ length-set old one (sector_at old other)

  at_other : sector_at swapped other ≡ sector_at old one
  at_other = get_or-set_same (set old one (sector_at old other)) other (sector_at old one) blank (omega (arith, l2, length-set old one (sector_at old other)))

  at_one : (one ≡ other → ⊥) → sector_at swapped one ≡ sector_at old other
  at_one off = get_or-set_other (set old one (sector_at old other)) other one (sector_at old one) blank off ∙ get_or-set_same old one (sector_at old other) blank l1

  -- each place has exchanged its sector with a place
  partner : (k : ℕ) → k < length old → (m : ℕ) × (m < length old) × (sector_at swapped k ≡ sector_at old m) × (sector_at swapped m ≡ sector_at old k)
  partner k l = elim (cases_eq k other) [
    | inl e ↦ elim (cases_eq one other) [
      | inl same ↦ (one, l1, ap (sector_at swapped) e ∙ at_other, ap (sector_at swapped) same ∙ at_other ∙ ap (sector_at old) (same ∙ sym e))
      | inr off ↦ (one, l1, ap (sector_at swapped) e ∙ at_other, at_one off ∙ ap (sector_at old) (sym e))
    ]
    | inr off ↦ elim (cases_eq k one) [
      | inl e ↦ (other, l2, ap (sector_at swapped) e ∙ at_one (λ same. off (e ∙ same)), at_other ∙ ap (sector_at old) (sym e))
      | inr away ↦
          let kept : sector_at swapped k ≡ sector_at old k = get_or-set_other (set old one (sector_at old other)) other k (sector_at old one) blank off
          ∙ get_or-set_other old one k (sector_at old other) blank away in
          (k, l, kept, kept)
    ]
  ]

  -- sectors without faces stay so when two are exchanged
  pub exchanged : (g : Graph) (row : List ℕ) → AreUnfaced g row old → AreUnfaced g row (set (set old one (sector_at old other)) other (sector_at old one))
  exchanged g row is = record {
    near = record {
      all = λ v h.
          let (i, li, at) = is.near.all v h in
          let (m, lm, forth, back) = partner i li in
          (m, omega (arith, lm, as_wide), ap (λ (t : Sector). t.near) back ∙ at);
      only = λ i l.
          let (m, lm, forth, back) = partner i (omega (arith, l, as_wide)) in
          subst (λ v. has row v ≡ true) (ap (λ (t : Sector). t.near) (sym forth)) (is.near.only m lm);
      once = λ i j li lj e.
          let oi : i < length old = omega (arith, li, as_wide) in
          let oj : j < length old = omega (arith, lj, as_wide) in
          let (m, lm, forth_m, back_m) = partner i oi in
          let (n, ln, forth_n, back_n) = partner j oj in
          let same : m ≡ n = is.near.once m n lm ln (ap (λ (t : Sector). t.near) (sym forth_m) ∙ e ∙ ap (λ (t : Sector). t.near) forth_n) in
          is.near.once i j oi oj (ap (λ (t : Sector). t.near) (sym back_m ∙ ap (sector_at swapped) same ∙ back_n));
    };
    none = λ i l.
        let (m, lm, forth, back) = partner i (omega (arith, l, as_wide)) in
        ap (λ (t : Sector). t.faced) forth ∙ is.none m lm;
    within = λ k d l.
        let (m, lm, forth, back) = partner k (omega (arith, l, as_wide)) in
        subst (λ (t : Sector). IsOnGraph g t) (sym forth ∙ get_or_default swapped k blank d l) (is.within m blank lm);
  }
