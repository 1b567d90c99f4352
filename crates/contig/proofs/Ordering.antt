-- Neighbors in the order of the faces are linked exactly if at most one of them has no link to the one before.
use Rattle.std.proofs.Common.{◌≡◌, ℕ, zero, suc, ◌+◌, ◌<◌, ◌≤◌, Bool, true, false, cond, not, ◌&&◌, ◌||◌, List, length, get_or, refl, sym, ap, ◌∙◌, subst, inl, inr, arith, add-one}
use Rattle.std.specs.Prelude.{◌==◌}
use Rattle.std.proofs.lemmas.Bool.{and_parts, and_from, and_left, and_right, cases_Bool, cases_eq, cases_lt, cond-true, cond-false, eqb-true, eq-eqb, ne_eqb, both_ways, not_from_true, not_from_false, or_cases, or_left, or_right}
use Rattle.audit_model.specs.Below.{count_below}
use Rattle.audit_model.specs.Graph.{Graph, IsGraph, adjacent, IsIn}
use Rattle.audit_model.specs.Local.{is_mate}
use Rattle.audit_model.specs.Path.{HasPath}
use Rattle.audit_model.specs.District.{in_district}
use Rattle.audit_model.proofs.Paths.{path_one, path_before, path_joined, path_stays}
use Rattle.contig.specs.Corners.{is_filled, corners_at}
use Rattle.contig.specs.Faces.{AreRings, AreLinkedBy, share_face, link_graph}
use Rattle.contig.specs.Order.{AreSectors, IsSeated, before, is_joined, is_start, near_at, sector_at}
use Rattle.contig.specs.declared.sector.Sector.{Sector}
use Rattle.contig.proofs.Merging.{home}
use Rattle.contig.proofs.RingLinks.{link_near, near_link, share_turned}
use Rattle.contig.proofs.Seeing.{corners_share, shared_corner}

-- ---- starts

-- a count is at most that of a longer range
pub count_longer : (n j : ℕ) (test : ℕ → Bool) → j ≤ n → count_below j test ≤ count_below n test
unfolding count_below
count_longer zero j test l = let e : j ≡ 0 = omega (arith, l) in subst (λ t. count_below t test ≤ count_below 0 test) (sym e) (omega arith)
count_longer (suc n) j test l = elim (cases_eq j (suc n)) [
  | inl e ↦ subst (λ t. count_below t test ≤ count_below (suc n) test) (sym e) (omega arith)
  | inr off ↦ let rest = count_longer n j test (omega (arith, l, off)) in omega (arith, rest)
]

-- the number that is counted as this one
pub counted_at : (n m : ℕ) (test : ℕ → Bool) → m < count_below n test → (i : ℕ) × (i < n) × (test i ≡ true) × (count_below (suc i) test ≡ suc m)
unfolding count_below
counted_at zero m test l = absurd (omega (arith, l))
counted_at (suc n) m test l = elim (cases_Bool (test n)) [
  | inr off ↦
      let none : cond {A = ℕ} (test n) 1 0 ≡ 0 = cond-false {A = ℕ} (test n) 1 0 off in
      let (i, li, holds, at) = counted_at n m test (omega (arith, l, none)) in
      (i, omega (arith, li), holds, at)
  | inl on ↦
      let one : cond {A = ℕ} (test n) 1 0 ≡ 1 = cond-true {A = ℕ} (test n) 1 0 on in
      elim (cases_eq m (count_below n test)) [
        | inl e ↦ (n, omega arith, on, omega (arith, one, e))
        | inr less ↦ let (i, li, holds, at) = counted_at n m test (omega (arith, l, one, less)) in (i, omega (arith, li), holds, at)
      ]
]

-- ---- sectors and corners

folded : (a b f : Bool) → (a && (b && f)) ≡ (a && (b && (f && f)))
folded false b f = refl
folded true false f = refl
folded true true false = refl
folded true true true = refl

crossed : (a b f : Bool) → (a && (b && f)) ≡ (b && (a && (f && f)))
crossed false false f = refl
crossed false true f = refl
crossed true false f = refl
crossed true true false = refl
crossed true true true = refl

-- a sector is joined exactly if its corner is filled
pub seated_filled : (inside : ℕ → Bool) (sectors : List Sector) (i : ℕ) (t : ℕ × ℕ × ℕ × ℕ) → IsSeated sectors i t → is_joined inside sectors i ≡ is_filled inside t
seated_filled inside sectors i t s =
    ap (λ x. x && (inside (near_at sectors i) && (inside (near_at sectors (before (length sectors) i)) && inside (sector_at sectors i).far))) s.faced
    ∙ elim s.ends [
      | inl e ↦
          folded (inside (near_at sectors i)) (inside (near_at sectors (before (length sectors) i))) (inside (sector_at sectors i).far)
          ∙ ap (λ x. inside x && (inside (near_at sectors (before (length sectors) i)) && (inside (sector_at sectors i).far && inside (sector_at sectors i).far))) e.0
          ∙ ap (λ x. inside t.0 && (inside x && (inside (sector_at sectors i).far && inside (sector_at sectors i).far))) e.1
      | inr e ↦
          crossed (inside (near_at sectors i)) (inside (near_at sectors (before (length sectors) i))) (inside (sector_at sectors i).far)
          ∙ ap (λ x. inside x && (inside (near_at sectors i) && (inside (sector_at sectors i).far && inside (sector_at sectors i).far))) e.1
          ∙ ap (λ x. inside t.0 && (inside x && (inside (sector_at sectors i).far && inside (sector_at sectors i).far))) e.0
    ]
    ∙ ap (λ x. inside t.0 && (inside t.1 && (inside x && inside (sector_at sectors i).far))) s.far
    ∙ ap (λ x. inside t.0 && (inside t.1 && (inside t.2 && inside x))) s.further

-- the position before one in range is in range
pub before_below : (k i : ℕ) → i < k → before k i < k
before_below k zero l = omega (arith, l)
before_below k (suc i) l = omega (arith, l)

-- the position before the next one is this one
pub before_next : (k i : ℕ) → before k (i + 1) ≡ i
before_next k i = subst (λ t. before k t ≡ i) (sym (add-one i)) refl

-- the position before the end is the last one
before_end : (k : ℕ) → 0 < k → suc (before k k) ≡ k
before_end zero l = absurd (omega (arith, l))
before_end (suc k) l = refl

module _ (g : Graph) (faces : List (List ℕ)) (plan : List ℕ) (u : ℕ) (sound : IsGraph g) (lu : u < g.units) (are : AreRings g faces)
    (sectors : List Sector) (s : AreSectors g faces u sectors) where
  abbrev at : ℕ → ℕ
  at i = near_at sectors i

  abbrev prior : ℕ → ℕ
  prior i = before (length sectors) i

  abbrev joined : ℕ → Bool
  joined i = is_joined (home plan u) sectors i

  abbrev start : ℕ → Bool
  start i = is_start (home plan u) sectors i

  abbrev Path : ℕ → ℕ → Type 0
  Path x y = HasPath (link_graph g faces (home plan u) u) (is_mate g plan u) x y

  abbrev Both : ℕ → ℕ → Type 0
  Both i j = Path (at i) (at j) × Path (at j) (at i)

  in_home : home plan u u ≡ true
  in_home = eq-eqb (get_or plan u 0) (get_or plan u 0) refl

  mate_at : (i : ℕ) → i < length sectors → home plan u (at i) ≡ true → IsIn g (is_mate g plan u) (at i)
  mate_at i l h =
      let near = s.near.only i l in
      (sound.below u (at i) near, and_from (adjacent g u (at i)) (home plan u (at i)) near h)

  -- a neighbor that is no start is joined to the one before
  joined_at : (i : ℕ) → home plan u (at i) ≡ true → start i ≡ false → joined i ≡ true
  joined_at i h off = elim (cases_Bool (joined i)) [
    | inl e ↦ e
    | inr e ↦ absurd (both_ways (start i) off (and_from (home plan u (at i)) (not (joined i)) h (not_from_false (joined i) e)))
  ]

  -- the two neighbors of a joined sector are in the set
  joined_in : (i : ℕ) → joined i ≡ true → (home plan u (at i) ≡ true) × (home plan u (at (prior i)) ≡ true)
  joined_in i h =
      let one = and_parts (sector_at sectors i).faced (home plan u (at i) && (home plan u (at (prior i)) && home plan u (sector_at sectors i).far)) h in
      let two = and_parts (home plan u (at i)) (home plan u (at (prior i)) && home plan u (sector_at sectors i).far) one.1 in
      (two.0, (and_parts (home plan u (at (prior i))) (home plan u (sector_at sectors i).far) two.1).0)

  -- they share a face
  joined_share : (i : ℕ) → i < length sectors → joined i ≡ true → share_face faces (home plan u) u (at i) (at (prior i)) ≡ true
  joined_share i l h =
      let faced = (and_parts (sector_at sectors i).faced (home plan u (at i) && (home plan u (at (prior i)) && home plan u (sector_at sectors i).far)) h).0 in
      let (k, lk, seat) = s.seats.taken i l faced in
      let shared = corners_share (home plan u) u in_home g faces are k (0, 0, 0, 0) lk (sym (seated_filled (home plan u) sectors i (get_or (corners_at u faces) k (0, 0, 0, 0)) seat) ∙ h) in
      elim seat.ends [
        | inl e ↦ subst (λ t. share_face faces (home plan u) u t (at (prior i)) ≡ true) (sym e.0) (subst (λ t. share_face faces (home plan u) u (get_or (corners_at u faces) k (0, 0, 0, 0)).0 t ≡ true) (sym e.1) shared)
        | inr e ↦ share_turned (home plan u) u (at (prior i)) (at i) faces
            (subst (λ t. share_face faces (home plan u) u t (at i) ≡ true) (sym e.1) (subst (λ t. share_face faces (home plan u) u (get_or (corners_at u faces) k (0, 0, 0, 0)).0 t ≡ true) (sym e.0) shared))
      ]

  one_step : (x y : ℕ) → IsIn g (is_mate g plan u) x → IsIn g (is_mate g plan u) y → share_face faces (home plan u) u x y ≡ true → Path x y
  one_step x y ix iy h =
      path_before (link_graph g faces (home plan u) u) (is_mate g plan u) x y y ix (link_near g faces (home plan u) u x y ix.0 iy.0 h)
      (path_one (link_graph g faces (home plan u) u) (is_mate g plan u) y iy)

  -- so they are linked
  joined_both : (i : ℕ) → i < length sectors → joined i ≡ true → Both i (prior i)
  joined_both i l h =
      let ins = joined_in i h in
      let mi = mate_at i l ins.0 in
      let mp = mate_at (prior i) (before_below (length sectors) i l) ins.1 in
      let share = joined_share i l h in
      (one_step (at i) (at (prior i)) mi mp share, one_step (at (prior i)) (at i) mp mi (share_turned (home plan u) u (at i) (at (prior i)) faces share))

  both_one : (i : ℕ) → i < length sectors → home plan u (at i) ≡ true → Both i i
  both_one i l h = let path = path_one (link_graph g faces (home plan u) u) (is_mate g plan u) (at i) (mate_at i l h) in (path, path)

  both_turned : (i j : ℕ) → Both i j → Both j i
  both_turned i j b = (b.1, b.0)

  both_joined : (i j k : ℕ) → Both i j → Both j k → Both i k
  both_joined i j k a b = (
    path_joined (link_graph g faces (home plan u) u) (is_mate g plan u) (at i) (at j) (at k) a.0 b.0,
    path_joined (link_graph g faces (home plan u) u) (is_mate g plan u) (at k) (at j) (at i) b.1 a.1,
  )

  -- without a start between them, two positions are linked, and the first is in the set if the last is
  run : (n j : ℕ) → j ≤ n → n < length sectors → home plan u (at n) ≡ true → count_below (suc n) start ≡ count_below (suc j) start
      → (home plan u (at j) ≡ true) × Both j n
  unfolding count_below
  run zero j l ln h e =
      let same : j ≡ 0 = omega (arith, l) in
      subst (λ t. (home plan u (at t) ≡ true) × Both t 0) (sym same) (h, both_one 0 ln h)
  run (suc n) j l ln h e = elim (cases_eq j (suc n)) [
    | inl same ↦ subst (λ t. (home plan u (at t) ≡ true) × Both t (suc n)) (sym same) (h, both_one (suc n) ln h)
    | inr off ↦
        let longer : count_below (suc j) start ≤ count_below (suc n) start = count_longer (suc n) (suc j) start (omega (arith, l, off)) in
        elim (cases_Bool (start (suc n))) [
          | inl on ↦
              let one : cond {A = ℕ} (start (suc n)) 1 0 ≡ 1 = cond-true {A = ℕ} (start (suc n)) 1 0 on in
              absurd (omega (arith, longer, one, e))
          | inr none ↦
              let zero_is : cond {A = ℕ} (start (suc n)) 1 0 ≡ 0 = cond-false {A = ℕ} (start (suc n)) 1 0 none in
              let link = joined_at (suc n) h none in
              let rest = run n j (omega (arith, l, off)) (omega (arith, ln)) (joined_in (suc n) link).1 (omega (arith, e, zero_is)) in
              (rest.0, both_joined j n (suc n) rest.1 (both_turned (suc n) n (joined_both (suc n) ln link)))
        ]
  ]

  module _ (few : count_below (length sectors) start ≤ 1) where
    -- with at most one start, two positions in the set are linked
    rising_both : (i j : ℕ) → i ≤ j → j < length sectors → home plan u (at i) ≡ true → home plan u (at j) ≡ true → Both i j
    unfolding count_below
    rising_both i j l lj hi hj =
        let longer : count_below (suc i) start ≤ count_below (suc j) start = count_longer (suc j) (suc i) start (omega (arith, l)) in
        let most : count_below (suc j) start ≤ count_below (length sectors) start = count_longer (length sectors) (suc j) start (omega (arith, lj)) in
        elim (cases_eq (count_below (suc j) start) (count_below (suc i) start)) [
          | inl same ↦ (run j i l lj hj same).1
          | inr differ ↦
              let first : count_below 1 start ≤ count_below (suc i) start = count_longer (suc i) 1 start (omega arith) in
              let front = run i 0 (omega arith) (omega (arith, l, lj)) hi (omega (arith, longer, most, few, differ, first)) in
              let none : start 0 ≡ false = elim (cases_Bool (start 0)) [
                | inr e ↦ e
                | inl e ↦
                    let one : cond {A = ℕ} (start 0) 1 0 ≡ 1 = cond-true {A = ℕ} (start 0) 1 0 e in
                    absurd (omega (arith, longer, most, few, differ, first, one))
              ] in
              let link = joined_at 0 front.0 none in
              let last : ℕ = prior 0 in
              let ll : last < length sectors = before_below (length sectors) 0 (omega (arith, lj)) in
              let end : suc last ≡ length sectors = omega (arith, lj) in
              let all : count_below (suc last) start ≡ count_below (suc j) start = ap (λ t. count_below t start) end ∙ omega (arith, longer, most, few, differ) in
              let back = run last j (omega (arith, lj)) ll (joined_in 0 link).1 all in
              both_joined i 0 j (both_turned 0 i front.1) (both_joined 0 last j (joined_both 0 (omega (arith, lj)) link) (both_turned j last back.1))
        ]

    any_path : (i j : ℕ) → i < length sectors → j < length sectors → home plan u (at i) ≡ true → home plan u (at j) ≡ true → Path (at i) (at j)
    any_path i j li lj hi hj = elim (cases_lt i j) [
      | inl less ↦ (rising_both i j (omega (arith, less)) lj hi hj).0
      | inr more ↦ (rising_both j i (omega (arith, more)) li hj hi).1
    ]

    position_of : (x : ℕ) → IsIn g (is_mate g plan u) x → (i : ℕ) × (i < length sectors) × (at i ≡ x) × (home plan u (at i) ≡ true)
    position_of x ix =
        let parts = and_parts (adjacent g u x) (home plan u x) ix.1 in
        let (i, li, is) = s.near.all x parts.0 in
        (i, li, is, subst (λ t. home plan u t ≡ true) (sym is) parts.1)

    pub few_linked : (i : ℕ) → i < length sectors → home plan u (at i) ≡ true → AreLinkedBy g faces plan u
    few_linked i l h = record {
      inhabited = (at i, mate_at i l h);
      joined = λ x y ix iy.
          let (p, lp, is_p, hp) = position_of x ix in
          let (q, lq, is_q, hq) = position_of y iy in
          subst (λ t. Path t y) is_p (subst (λ t. Path (at p) t) is_q (any_path p q lp lq hp hq));
    }

  -- ---- two starts

  -- the number of starts up to a position; before the first one, that of all
  class : ℕ → ℕ
  class i = cond (count_below (suc i) start == 0) (count_below (length sectors) start) (count_below (suc i) start)

  class_is : (i c : ℕ) → count_below (suc i) start ≡ suc c → class i ≡ suc c
  unfolding class
  class_is i c e = cond-false {A = ℕ} (count_below (suc i) start == 0) (count_below (length sectors) start) (count_below (suc i) start)
      (ne_eqb (count_below (suc i) start) 0 (λ z. omega (arith, e, z))) ∙ e

  no_start : (i : ℕ) → joined i ≡ true → cond {A = ℕ} (start i) 1 0 ≡ 0
  no_start i h = cond-false {A = ℕ} (start i) 1 0 (and_right (home plan u (at i)) (not (joined i)) (not_from_true (joined i) h))

  -- the neighbors of a joined sector have one class
  class_joined : (i : ℕ) → i < length sectors → joined i ≡ true → class i ≡ class (prior i)
  unfolding class count_below
  class_joined zero l h =
      let none = no_start 0 h in
      let first : count_below 1 start ≡ 0 = omega (arith, none) in
      let end : suc (prior 0) ≡ length sectors = omega (arith, l) in
      let all : count_below (suc (prior 0)) start ≡ count_below (length sectors) start = ap (λ t. count_below t start) end in
      cond-true {A = ℕ} (count_below 1 start == 0) (count_below (length sectors) start) (count_below 1 start) (eq-eqb (count_below 1 start) 0 first)
      ∙ sym (ap (λ t. cond {A = ℕ} (t == 0) (count_below (length sectors) start) t) all ∙ either (count_below (length sectors) start == 0))
    where
      either : (b : Bool) → cond {A = ℕ} b (count_below (length sectors) start) (count_below (length sectors) start) ≡ count_below (length sectors) start
      either true = refl
      either false = refl
  class_joined (suc i) l h =
      let none = no_start (suc i) h in
      let same : count_below (suc (suc i)) start ≡ count_below (suc i) start = omega (arith, none) in
      ap (λ t. cond {A = ℕ} (t == 0) (count_below (length sectors) start) t) same

  -- each position of the unit has this class
  abbrev Has : ℕ → ℕ → Type 0
  Has c v = (i : ℕ) → i < length sectors → at i ≡ v → class i ≡ c

  has_on : (c x y : ℕ) → Has c x → share_face faces (home plan u) u x y ≡ true → Has c y
  has_on c x y hx h = elim (shared_corner (home plan u) u in_home g faces x y are h) [
    | inl e ↦ subst (λ t. Has c t) e hx
    | inr (k, lk, filled, ends) ↦
        let (i, seat) = s.seats.placed k lk in
        let link : joined i ≡ true = seated_filled (home plan u) sectors i (get_or (corners_at u faces) k (0, 0, 0, 0)) seat ∙ filled in
        let lp : prior i < length sectors = before_below (length sectors) i seat.within in
        let same = class_joined i seat.within link in
        let forth : at i ≡ x → at (prior i) ≡ y → Has c y = λ ex ey p l e.
        ap class (s.near.once p (prior i) l lp (e ∙ sym ey)) ∙ sym same ∙ hx i seat.within ex in
        let back : at i ≡ y → at (prior i) ≡ x → Has c y = λ ey ex p l e.
        ap class (s.near.once p i l seat.within (e ∙ sym ey)) ∙ same ∙ hx (prior i) lp ex in
        elim seat.ends [
          | inl a ↦ elim ends [ inl b ↦ forth (a.0 ∙ b.0) (a.1 ∙ b.1) | inr b ↦ back (a.0 ∙ b.0) (a.1 ∙ b.1) ]
          | inr a ↦ elim ends [ inl b ↦ back (a.0 ∙ b.1) (a.1 ∙ b.0) | inr b ↦ forth (a.0 ∙ b.1) (a.1 ∙ b.0) ]
        ]
  ]

  pub many_parted : 1 < count_below (length sectors) start → AreLinkedBy g faces plan u → ⊥
  many_parted many linked =
      let (i, li, si, ci) = counted_at (length sectors) 0 start (omega (arith, many)) in
      let (j, lj, sj, cj) = counted_at (length sectors) 1 start (omega (arith, many)) in
      let hi = (and_parts (home plan u (at i)) (not (joined i)) si).0 in
      let hj = (and_parts (home plan u (at j)) (not (joined j)) sj).0 in
      let path = linked.joined (at i) (at j) (mate_at i li hi) (mate_at j lj hj) in
      let here : Has 1 (at i) = λ p l e. ap class (s.near.once p i l li e) ∙ class_is i 0 ci in
      let first : Has 1 (at i) × IsIn g (is_mate g plan u) (at i) = (here, mate_at i li hi) in
      let there = path_stays (link_graph g faces (home plan u) u) (is_mate g plan u) (λ v. Has 1 v × IsIn g (is_mate g plan u) v)
      (λ v w h iw a. (has_on 1 v w h.0 (near_link g faces (home plan u) u v w h.1.0 a), iw)) (at i) (at j) path first in
      let one : class j ≡ 1 = there.0 j lj refl in
      let two : class j ≡ 2 = class_is j 1 cj in
      omega (arith, one, two)

  -- with no start, the last neighbor is in the set if one is
  last_in : (i last : ℕ) → suc last ≡ length sectors → count_below (length sectors) start ≡ 0 → i < length sectors → home plan u (at i) ≡ true → home plan u (at last) ≡ true
  unfolding count_below
  last_in i last end none li hi =
      let most : count_below (suc i) start ≤ count_below (length sectors) start = count_longer (length sectors) (suc i) start (omega (arith, li)) in
      let first : count_below 1 start ≤ count_below (suc i) start = count_longer (suc i) 1 start (omega arith) in
      let front = run i 0 (omega arith) li hi (omega (arith, none, most, first)) in
      let off : start 0 ≡ false = elim (cases_Bool (start 0)) [
        | inr e ↦ e
        | inl e ↦
            let one : cond {A = ℕ} (start 0) 1 0 ≡ 1 = cond-true {A = ℕ} (start 0) 1 0 e in
            absurd (omega (arith, none, most, first, one))
      ] in
      let same : prior 0 ≡ last = omega (arith, end) in
      subst (λ t. home plan u (at t) ≡ true) same (joined_in 0 (joined_at 0 front.0 off)).1

  -- the neighbors are linked exactly if one is a start, or none is and the last one is in the set
  pub in_order : (ending : Bool) (starts k : ℕ) → 0 < length sectors → k ≡ length sectors → ending ≡ home plan u (at (prior k)) → starts ≡ count_below k start
      → (((starts == 1) || (ending && (starts == 0))) ≡ true → AreLinkedBy g faces plan u) × (AreLinkedBy g faces plan u → ((starts == 1) || (ending && (starts == 0))) ≡ true)
  in_order ending starts k some end ending_is starts_are =
      let all : starts ≡ count_below (length sectors) start = starts_are ∙ ap (λ t. count_below t start) end in
      let final : suc (prior k) ≡ length sectors = ap (λ t. suc (prior t)) end ∙ before_end (length sectors) some in (
        λ h. elim (or_cases (starts == 1) (ending && (starts == 0)) h) [
          | inl e ↦
              let one = eqb-true starts 1 e in
              let (i, li, si, ci) = counted_at (length sectors) 0 start (omega (arith, one, all)) in
              few_linked (omega (arith, one, all)) i li (and_parts (home plan u (at i)) (not (joined i)) si).0
          | inr e ↦
              let parts = and_parts ending (starts == 0) e in
              let none = eqb-true starts 0 parts.1 in
              few_linked (omega (arith, none, all)) (prior k) (omega (arith, final)) (sym ending_is ∙ parts.0)
        ],
        λ linked.
            let mate = linked.inhabited in
            let parts = and_parts (adjacent g u mate.0) (home plan u mate.0) mate.1.1 in
            let (i, li, is) = s.near.all mate.0 parts.0 in
            elim (cases_lt 1 starts) [
              | inl many ↦ absurd (many_parted (omega (arith, many, all)) linked)
              | inr few ↦ elim (cases_eq starts 0) [
                | inl none ↦
                    or_right (starts == 1) (ending && (starts == 0)) (and_from ending (starts == 0)
                    (ending_is ∙ last_in i (prior k) final (omega (arith, none, all)) li (subst (λ t. home plan u t ≡ true) (sym is) parts.1))
                    (eq-eqb starts 0 none))
                | inr off ↦ or_left (starts == 1) (ending && (starts == 0)) (eq-eqb starts 1 (omega (arith, few, off)))
              ]
            ],
      )

-- ---- one more sector

abbrev pub Looked : List ℕ → ℕ → List Sector → ℕ → Bool → ℕ → Type 0
Looked plan u sectors k prior starts =
    (prior ≡ home plan u (near_at sectors (before (length sectors) k)))
    × (starts ≡ count_below k (is_start (home plan u) sectors))

regrouped : (f a b x : Bool) → (((f && a) && b) && x) ≡ (f && (a && (b && x)))
regrouped false a b x = refl
regrouped true false b x = refl
regrouped true true false x = refl
regrouped true true true x = refl

pub looked_step : (plan : List ℕ) (u : ℕ) (sectors : List Sector) (k : ℕ) (prior : Bool) (starts : ℕ) → Looked plan u sectors k prior starts
    → Looked plan u sectors (k + 1) (home plan u (near_at sectors k))
    (starts + cond {A = ℕ} (home plan u (near_at sectors k)
    && not ((((sector_at sectors k).faced && home plan u (near_at sectors k)) && prior) && home plan u (sector_at sectors k).far)) 1 0)
unfolding count_below
looked_step plan u sectors k prior starts h =
    let next : suc k ≡ k + 1 = sym (add-one k) in
    let tests : Bool → Bool = λ b. home plan u (near_at sectors k) && not b in
    let here : ((((sector_at sectors k).faced && home plan u (near_at sectors k)) && prior) && home plan u (sector_at sectors k).far) ≡ is_joined (home plan u) sectors k =
    regrouped (sector_at sectors k).faced (home plan u (near_at sectors k)) prior (home plan u (sector_at sectors k).far)
    ∙ ap (λ b. (sector_at sectors k).faced && (home plan u (near_at sectors k) && (b && home plan u (sector_at sectors k).far))) h.0 in (
      ap (λ t. home plan u (near_at sectors t)) (sym (before_next (length sectors) k)),
      ap (λ b. starts + cond {A = ℕ} (home plan u (near_at sectors k) && not b) 1 0) here
          ∙ ap (λ t. t + cond {A = ℕ} (is_start (home plan u) sectors k) 1 0) h.1
          ∙ ap (λ t. count_below t (is_start (home plan u) sectors)) next,
    )

-- ---- one more sector, for the counts of two districts

apart_last : (f p q : Bool) → (((f && p) && q) && true) ≡ (f && (true && (p && q)))
apart_last false p q = refl
apart_last true false q = refl
apart_last true true false = refl
apart_last true true true = refl

eqb_turned : (m n : ℕ) → (m == n) ≡ (n == m)
eqb_turned m n = elim (cases_eq m n) [
  | inl e ↦ eq-eqb m n e ∙ sym (eq-eqb n m (sym e))
  | inr off ↦ ne_eqb m n off ∙ sym (ne_eqb n m (λ e. off (sym e)))
]

-- three numbers equal one another and a fourth if each equals the fourth
compared : (f : Bool) (h b x o : ℕ) → (((f && (h == b)) && (x == h)) && (h == o)) ≡ (f && ((h == o) && ((b == o) && (x == o))))
compared f h b x o = elim (cases_eq h o) [
  | inl e ↦ subst (λ t. (((f && (t == b)) && (x == t)) && (t == o)) ≡ (f && ((t == o) && ((b == o) && (x == o))))) (sym e)
      (ap (λ t. ((f && t) && (x == o)) && (o == o)) (eqb_turned o b)
      ∙ ap (λ t. ((f && (b == o)) && (x == o)) && t) (eq-eqb o o refl)
      ∙ apart_last f (b == o) (x == o)
      ∙ ap (λ t. f && (t && ((b == o) && (x == o)))) (sym (eq-eqb o o refl)))
  | inr off ↦ and_right ((f && (h == b)) && (x == h)) (h == o) (ne_eqb h o off)
      ∙ sym (and_right f ((h == o) && ((b == o) && (x == o))) (and_left (h == o) ((b == o) && (x == o)) (ne_eqb h o off)))
]

pub joined_step : (plan : List ℕ) (sectors : List Sector) (k o prior count : ℕ) → prior ≡ get_or plan (near_at sectors (before (length sectors) k)) 0
    → count ≡ count_below k (is_joined (in_district plan o) sectors)
    → count + cond {A = ℕ} ((((sector_at sectors k).faced && (get_or plan (near_at sectors k) 0 == prior)) && (get_or plan (sector_at sectors k).far 0 == get_or plan (near_at sectors k) 0))
    && (get_or plan (near_at sectors k) 0 == o)) 1 0 ≡ count_below (k + 1) (is_joined (in_district plan o) sectors)
unfolding count_below
joined_step plan sectors k o prior count is counted =
    ap (λ b. count + cond {A = ℕ} b 1 0)
    (compared (sector_at sectors k).faced (get_or plan (near_at sectors k) 0) prior (get_or plan (sector_at sectors k).far 0) o
    ∙ ap (λ t. (sector_at sectors k).faced && ((get_or plan (near_at sectors k) 0 == o) && ((t == o) && (get_or plan (sector_at sectors k).far 0 == o)))) is)
    ∙ ap (λ t. t + cond {A = ℕ} (is_joined (in_district plan o) sectors k) 1 0) counted
    ∙ ap (λ t. count_below t (is_joined (in_district plan o) sectors)) (sym (add-one k))

-- one more sector, for the count of one district
pub joined_in_step : (plan : List ℕ) (sectors : List Sector) (k d : ℕ) (prior : Bool) (count : ℕ) → prior ≡ in_district plan d (near_at sectors (before (length sectors) k))
    → count ≡ count_below k (is_joined (in_district plan d) sectors)
    → count + cond {A = ℕ} ((((sector_at sectors k).faced && in_district plan d (near_at sectors k)) && prior) && in_district plan d (sector_at sectors k).far) 1 0
    ≡ count_below (k + 1) (is_joined (in_district plan d) sectors)
unfolding count_below
joined_in_step plan sectors k d prior count is counted =
    ap (λ b. count + cond {A = ℕ} b 1 0)
    (regrouped (sector_at sectors k).faced (in_district plan d (near_at sectors k)) prior (in_district plan d (sector_at sectors k).far)
    ∙ ap (λ b. (sector_at sectors k).faced && (in_district plan d (near_at sectors k) && (b && in_district plan d (sector_at sectors k).far))) is)
    ∙ ap (λ t. t + cond {A = ℕ} (is_joined (in_district plan d) sectors k) 1 0) counted
    ∙ ap (λ t. count_below t (is_joined (in_district plan d) sectors)) (sym (add-one k))
