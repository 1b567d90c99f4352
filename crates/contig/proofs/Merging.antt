-- Merging classes of neighbors, corner by corner.
use Rattle.std.proofs.Common.{◌≡◌, ◌≢◌, ℕ, ◌+◌, ◌<◌, ◌≤◌, Bool, true, false, not, ◌&&◌, List, [], ◌∷◌, length, get_or, take, refl, sym, ap, ◌∙◌, subst, inl, inr, arith}
use Rattle.std.specs.Prelude.{◌==◌, ◌⊎◌, slice_index, All}
use Rattle.std.proofs.lemmas.Bool.{and_parts, and_from, cases_eq, eq-eqb, ne_eqb, cond-true, cond-false}
use Rattle.std.proofs.lemmas.List.{get_or-take, length-take-le, get_or_default}
use Rattle.std.proofs.lemmas.List.Elements.{All-get_or}
use Rattle.audit_model.specs.Below.{map_below}
use Rattle.audit_model.specs.Graph.{Graph, IsGraph, adjacent, IsIn}
use Rattle.audit_model.specs.Local.{is_mate}
use Rattle.audit_model.specs.Path.{IsPath, HasPath}
use Rattle.audit_model.specs.District.{in_district}
use Rattle.audit_model.proofs.Below.{get_or-map_below}
use Rattle.audit_model.proofs.ListFacts.{has_at, at_has}
use Rattle.audit_model.proofs.Rows.{row_rises}
use Rattle.contig.specs.Faces.{AreRings, AreLinkedBy, share_face, link_graph}
use Rattle.contig.proofs.RingLinks.{link_near, near_link, share_turned}
use Rattle.audit_model.proofs.Paths.{path_one, path_before, joined_from}
use Rattle.contig.specs.declared.corner.Corner.{Corner}
use Rattle.contig.specs.Corners.{IsOnRow}
use Rattle.contig.specs.Links.{AreClasses, AreLinks, AreMerged, is_link}
use Rattle.contig.proofs.Counting.{rising_once}
use Rattle.audit_model.specs.Replaced.{Replaced}

-- the invariant of the classes, if the corners link only neighbors that share a ring
abbrev pub Kept : Graph → List ℕ → ℕ → Bool → List Corner → List ℕ → List ℕ → Type 0
Kept g plan u spare corners old new = (rings : List (List ℕ)) → AreRings g rings → AreLinks g rings plan u spare corners
    → AreClasses g rings plan u old → AreClasses g rings plan u new

-- the neighbors of u, and its district
abbrev pub row : Graph → ℕ → List ℕ
row g u = get_or g.neighbours u []

abbrev pub home : List ℕ → ℕ → ℕ → Bool
home plan u = in_district plan (slice_index plan u)

-- the positions i and j are those of x and y, and have one class
abbrev pub HaveOneClass : List ℕ → List ℕ → ℕ → ℕ → Type 0
HaveOneClass neighbors classes x y = (i : ℕ) × (j : ℕ) × (i < length neighbors) × (j < length neighbors)
    × (get_or neighbors i 0 ≡ x) × (get_or neighbors j 0 ≡ y) × (get_or classes i 0 ≡ get_or classes j 0)

-- neighbors that share a face have one class
abbrev pub AreCovered : Graph → List (List ℕ) → List ℕ → ℕ → List ℕ → Type 0
AreCovered g faces plan u classes = (x y : ℕ) → share_face faces (home plan u) u x y ≡ true → (x ≡ y) ⊎ HaveOneClass (row g u) classes x y

-- ---- one more corner

-- after one more corner, its two neighbors have one class if it links them, and earlier corners stay merged
pub merged_step : (g : Graph) (plan : List ℕ) (u : ℕ) (spare : Bool) (corners : List Corner) (k : ℕ) (d : Corner) (old new : List ℕ) → k < length corners
    → length (row g u) ≤ 32 → All (IsOnRow g (row g u)) corners
    → ((a b : ℕ) → a < 32 → b < 32 → get_or old a 0 ≡ get_or old b 0 → get_or new a 0 ≡ get_or new b 0)
    → (is_link g plan u spare (get_or corners k d) ≡ true → get_or new (get_or corners k d).one 0 ≡ get_or new (get_or corners k d).other 0)
    → AreMerged g plan u spare (take k corners) old → AreMerged g plan u spare (take (k + 1) corners) new
merged_step g plan u spare corners k d old new lt few placed coarser here before j e lj inner =
    let small : j < k + 1 = omega (arith, lj, length-take-le (k + 1) corners (omega (arith, lt))) in
    let in_all : get_or (take (k + 1) corners) j e ≡ get_or corners j e = get_or-take (k + 1) corners j e small in
    let inner_all : is_link g plan u spare (get_or corners j e) ≡ true = subst (λ (c : Corner). is_link g plan u spare c ≡ true) in_all inner in
    subst (λ (c : Corner). get_or new c.one 0 ≡ get_or new c.other 0) (sym in_all)
    (elim (cases_eq j k) [
      | inl at ↦
          let same : get_or corners j e ≡ get_or corners k d = get_or_default corners j e d (omega (arith, at, lt)) ∙ ap (λ t. get_or corners t d) at in
          subst (λ (c : Corner). get_or new c.one 0 ≡ get_or new c.other 0) (sym same) (here (subst (λ (c : Corner). is_link g plan u spare c ≡ true) same inner_all))
      | inr off ↦
          let less : j < k = omega (arith, small, off) in
          let in_front : get_or (take k corners) j e ≡ get_or corners j e = get_or-take k corners j e less in
          let shorter : j < length (take k corners) = omega (arith, less, length-take-le k corners (omega (arith, lt))) in
          let is : IsOnRow g (row g u) (get_or corners j e) = All-get_or (IsOnRow g (row g u)) corners j e (omega (arith, less, lt)) placed in
          coarser (get_or corners j e).one (get_or corners j e).other (omega (arith, is.one, few)) (omega (arith, is.other, few))
          (subst (λ (c : Corner). get_or old c.one 0 ≡ get_or old c.other 0) in_front
          (before j e shorter (subst (λ (c : Corner). is_link g plan u spare c ≡ true) (sym in_front) inner_all)))
    ])

-- ---- merging two classes

module _ (old new : List ℕ) (from into : ℕ) (width : length old ≡ 32) (lf : from < 32) (li : into < 32) (replaced : Replaced old new from into) where
  new_at : (k : ℕ) → k < 32 → get_or old k 0 ≡ get_or old from 0 → get_or new k 0 ≡ get_or old into 0
  new_at k l e = replaced k (omega (arith, l, width)) ∙ cond-true {A = ℕ} (get_or old k 0 == get_or old from 0) (get_or old into 0) (get_or old k 0) (eq-eqb (get_or old k 0) (get_or old from 0) e)

  new_off : (k : ℕ) → k < 32 → (get_or old k 0 ≡ get_or old from 0 → ⊥) → get_or new k 0 ≡ get_or old k 0
  new_off k l e = replaced k (omega (arith, l, width)) ∙ cond-false {A = ℕ} (get_or old k 0 == get_or old from 0) (get_or old into 0) (get_or old k 0) (ne_eqb (get_or old k 0) (get_or old from 0) e)

  pub joined_coarser : (a b : ℕ) → a < 32 → b < 32 → get_or old a 0 ≡ get_or old b 0 → get_or new a 0 ≡ get_or new b 0
  joined_coarser a b la lb e = elim (cases_eq (get_or old a 0) (get_or old from 0)) [
    | inl f ↦ new_at a la f ∙ sym (new_at b lb (sym e ∙ f))
    | inr f ↦ new_off a la f ∙ e ∙ sym (new_off b lb (λ h. f (e ∙ h)))
  ]

  pub joined_one : get_or new from 0 ≡ get_or new into 0
  joined_one = elim (cases_eq (get_or old into 0) (get_or old from 0)) [
    | inl f ↦ new_at from lf refl ∙ sym (new_at into li f)
    | inr f ↦ new_at from lf refl ∙ sym (new_off into li f)
  ]

  -- a relation within old classes, and between the two merged ones, holds within new classes
  joined_paths : (P : ℕ → ℕ → Type 0) → ((a b : ℕ) → a < 32 → b < 32 → get_or old a 0 ≡ get_or old b 0 → P a b)
      → ((a b : ℕ) → P a from → P from b → P a b) → ((a b : ℕ) → P a into → P into b → P a b) → P from into → P into from
      → (a b : ℕ) → a < 32 → b < 32 → get_or new a 0 ≡ get_or new b 0 → P a b
  joined_paths P had by_from by_into there back a b la lb e = elim (cases_eq (get_or old a 0) (get_or old from 0)) [
    | inl fa ↦ elim (cases_eq (get_or old b 0) (get_or old from 0)) [
      | inl fb ↦ had a b la lb (fa ∙ sym fb)
      | inr fb ↦ by_into a b (by_from a into (had a from la lf fa) there) (had into b li lb (sym (new_at a la fa) ∙ e ∙ new_off b lb fb))
    ]
    | inr fa ↦ elim (cases_eq (get_or old b 0) (get_or old from 0)) [
      | inl fb ↦ by_into a b (had a into la li (sym (new_off a la fa) ∙ e ∙ new_at b lb fb)) (by_from into b back (had from b lf lb (sym fb)))
      | inr fb ↦ had a b la lb (sym (new_off a la fa) ∙ e ∙ new_off b lb fb)
    ]
  ]

-- ---- links

module _ (g : Graph) (plan : List ℕ) (u : ℕ) (sound : IsGraph g) (lu : u < g.units) (faces : List (List ℕ)) (are : AreRings g faces) where
  links : Graph
  links = link_graph g faces (home plan u) u

  in_home : home plan u u ≡ true
  in_home = eq-eqb (get_or plan u 0) (get_or plan u 0) refl

  near_mate : (i : ℕ) → i < length (row g u) → home plan u (get_or (row g u) i 0) ≡ true → IsIn g (is_mate g plan u) (get_or (row g u) i 0)
  near_mate i l h =
      let near : adjacent g u (get_or (row g u) i 0) ≡ true = at_has (row g u) i l in
      (sound.below u (get_or (row g u) i 0) near, and_from (adjacent g u (get_or (row g u) i 0)) (home plan u (get_or (row g u) i 0)) near h)

  -- a link is a path in both directions
  linked_path : (x y : ℕ) → IsIn g (is_mate g plan u) x → IsIn g (is_mate g plan u) y → share_face faces (home plan u) u x y ≡ true
      → HasPath (link_graph g faces (home plan u) u) (is_mate g plan u) x y
  linked_path x y ix iy h =
      path_before (link_graph g faces (home plan u) u) (is_mate g plan u) x y y ix (link_near g faces (home plan u) u x y ix.0 iy.0 h)
      (path_one (link_graph g faces (home plan u) u) (is_mate g plan u) y iy)

  -- the two neighbors of a corner that links them are mates
  link_parts : (spare : Bool) (corner : Corner) → is_link g plan u spare corner ≡ true
      → (home plan u (get_or (row g u) corner.one 0) ≡ true) × (home plan u (get_or (row g u) corner.other 0) ≡ true)
  link_parts true corner h =
      let first = and_parts (home plan u (get_or (row g u) corner.one 0))
      (home plan u (get_or (row g u) corner.other 0) && (home plan u corner.far && not (home plan u corner.further))) h in
      (first.0, (and_parts (home plan u (get_or (row g u) corner.other 0)) (home plan u corner.far && not (home plan u corner.further)) first.1).0)
  link_parts false corner h =
      let first = and_parts (home plan u (get_or (row g u) corner.one 0))
      (home plan u (get_or (row g u) corner.other 0) && (home plan u corner.far && home plan u corner.further)) h in
      (first.0, (and_parts (home plan u (get_or (row g u) corner.other 0)) (home plan u corner.far && home plan u corner.further) first.1).0)

  module _ (spare : Bool) (corners : List Corner) (links_of : AreLinks g faces plan u spare corners) (placed : All (IsOnRow g (row g u)) corners) (few : length (row g u) ≤ 32)
      (old new : List ℕ) (k : ℕ) (d : Corner) (l : k < length corners) (inner : is_link g plan u spare (get_or corners k d) ≡ true) where
    corner_is : IsOnRow g (row g u) (get_or corners k d)
    corner_is = All-get_or (IsOnRow g (row g u)) corners k d l placed

    inner_parts : (home plan u (get_or (row g u) (get_or corners k d).one 0) ≡ true) × (home plan u (get_or (row g u) (get_or corners k d).other 0) ≡ true)
    inner_parts = link_parts spare (get_or corners k d) inner

    abbrev IsLinked : ℕ → ℕ → Type 0
    IsLinked a b = a < length (row g u) → b < length (row g u) → IsIn g (is_mate g plan u) (get_or (row g u) a 0) → IsIn g (is_mate g plan u) (get_or (row g u) b 0)
        → HasPath (link_graph g faces (home plan u) u) (is_mate g plan u) (get_or (row g u) a 0) (get_or (row g u) b 0)

    by : (m : ℕ) → m < length (row g u) → home plan u (get_or (row g u) m 0) ≡ true → (a b : ℕ) → IsLinked a m → IsLinked m b → IsLinked a b
    by m lm hm a b first then la lb ma mb =
        let im = near_mate m lm hm in
        let path = first la lm ma im in
        joined_from (link_graph g faces (home plan u) u) (is_mate g plan u) path.0 (get_or (row g u) a 0) (get_or (row g u) m 0) (get_or (row g u) b 0) path.1 (then lm lb im mb)

    -- mates in one class after the merge are linked
    pub classes_joined : Replaced old new (get_or corners k d).one (get_or corners k d).other → length new ≡ 32 → AreClasses g faces plan u old → AreClasses g faces plan u new
    classes_joined replaced wide s = record {
      width = wide;
      linked = λ i j li lj mi mj e.
          joined_paths old new (get_or corners k d).one (get_or corners k d).other s.width (omega (arith, corner_is.one, few)) (omega (arith, corner_is.other, few)) replaced
          IsLinked (λ a b _ _ f la lb ma mb. s.linked a b la lb ma mb f)
          (by (get_or corners k d).one corner_is.one inner_parts.0) (by (get_or corners k d).other corner_is.other inner_parts.1)
          (λ la lb ma mb. linked_path (get_or (row g u) (get_or corners k d).one 0) (get_or (row g u) (get_or corners k d).other 0) ma mb (links_of k d l inner))
          (λ la lb ma mb. linked_path (get_or (row g u) (get_or corners k d).other 0) (get_or (row g u) (get_or corners k d).one 0) ma mb
          (share_turned (home plan u) u (get_or (row g u) (get_or corners k d).one 0) (get_or (row g u) (get_or corners k d).other 0) faces (links_of k d l inner)))
          i j (omega (arith, li, few)) (omega (arith, lj, few)) e li lj mi mj;
    }

  -- ---- all corners

  module _ (classes : List ℕ) (covered : AreCovered g faces plan u classes) where
    -- some mate has this class
    abbrev Has : ℕ → ℕ → Type 0
    Has class v = (i : ℕ) → i < length (row g u) → get_or (row g u) i 0 ≡ v → get_or classes i 0 ≡ class

    has_on : (class x y : ℕ) → Has class x → share_face faces (home plan u) u x y ≡ true → Has class y
    has_on class x y hx h = elim (covered x y h) [
      | inl e ↦ subst (λ t. Has class t) e hx
      | inr (i, j, li, lj, at_x, at_y, same) ↦ λ k lk e.
          ap (λ t. get_or classes t 0) (rising_once (row g u) (row_rises g u sound) k j lk lj (e ∙ sym at_y)) ∙ sym same ∙ hx i li at_x
    ]

    along : (class : ℕ) (units : List ℕ) (x y : ℕ) → IsPath (link_graph g faces (home plan u) u) (is_mate g plan u) units x y → Has class x → Has class y
    along class [] x y p h = absurd p
    along class (w ∷ []) x y p h = subst (λ t. Has class t) (sym p.0 ∙ p.1) h
    along class (w ∷ v ∷ rest) x y p h =
        along class (v ∷ rest) v y p.3 (has_on class w v (subst (λ t. Has class t) (sym p.0) h) (near_link g faces (home plan u) u w v p.1.0 p.2))

    -- mates of two classes are not linked
    pub parted : (i j : ℕ) → i < length (row g u) → j < length (row g u) → IsIn g (is_mate g plan u) (get_or (row g u) i 0) → IsIn g (is_mate g plan u) (get_or (row g u) j 0)
        → get_or classes j 0 ≢ get_or classes i 0 → AreLinkedBy g faces plan u → ⊥
    parted i j li lj mi mj off linked =
        let path = linked.joined (get_or (row g u) i 0) (get_or (row g u) j 0) mi mj in
        off (along (get_or classes i 0) path.0 (get_or (row g u) i 0) (get_or (row g u) j 0) path.1
        (λ k lk e. ap (λ t. get_or classes t 0) (rising_once (row g u) (row_rises g u sound) k i lk li e)) j lj refl)

  -- mates that are all in one class are linked
  pub all_linked : (classes : List ℕ) (i : ℕ) → AreClasses g faces plan u classes → i < length (row g u) → IsIn g (is_mate g plan u) (get_or (row g u) i 0)
      → ((j : ℕ) → j < length (row g u) → IsIn g (is_mate g plan u) (get_or (row g u) j 0) → get_or classes j 0 ≡ get_or classes i 0) → AreLinkedBy g faces plan u
  all_linked classes i s li mi one = record {
    inhabited = (get_or (row g u) i 0, mi);
    joined = λ x y ix iy.
        let px = has_at (row g u) x (and_parts (adjacent g u x) (home plan u x) ix.1).0 in
        let py = has_at (row g u) y (and_parts (adjacent g u y) (home plan u y) iy.1).0 in
        let mx = subst (λ t. IsIn g (is_mate g plan u) t) (sym px.2) ix in
        let my = subst (λ t. IsIn g (is_mate g plan u) t) (sym py.2) iy in
        subst (λ t. HasPath (link_graph g faces (home plan u) u) (is_mate g plan u) t y) px.2
        (subst (λ t. HasPath (link_graph g faces (home plan u) u) (is_mate g plan u) (get_or (row g u) px.0 0) t) py.2
        (s.linked px.0 py.0 px.1 py.1 mx my (one px.0 px.1 mx ∙ sym (one py.0 py.1 my))));
  }

  -- at first, each neighbor has its own class
  pub own_classes : (classes : List ℕ) → length (row g u) ≤ 32 → classes ≡ map_below 32 (λ k. k) → AreClasses g faces plan u classes
  own_classes classes few is = record {
    width = ap (length {A = ℕ}) is;
    linked = λ i j li lj mi mj e.
        let same : i ≡ j = sym (own i (omega (arith, li, few))) ∙ e ∙ own j (omega (arith, lj, few)) in
        subst (λ t. HasPath (link_graph g faces (home plan u) u) (is_mate g plan u) (get_or (row g u) i 0) (get_or (row g u) t 0)) same
        (path_one (link_graph g faces (home plan u) u) (is_mate g plan u) (get_or (row g u) i 0) mi);
  }
    where
      own : (k : ℕ) → k < 32 → get_or classes k 0 ≡ k
      own k l = ap (λ (t : List ℕ). get_or t k 0) is ∙ get_or-map_below 32 (λ k. k) k 0 l
