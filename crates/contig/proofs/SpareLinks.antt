-- Links through inner faces and active spares.
use Rattle.std.proofs.Common.{◌≡◌, ℕ, ◌<◌, ◌≤◌, Bool, true, false, List, [], ◌∷◌, length, get_or, map, refl, sym, ap, ◌∙◌, subst, inl, inr, arith}
use Rattle.std.specs.Prelude.{◌⊎◌, All}
use Rattle.std.proofs.lemmas.Bool.{eq-eqb, both_ways}
use Rattle.std.proofs.lemmas.List.{get_or-map, length-map}
use Rattle.std.proofs.lemmas.List.Elements.{All-get_or}
use Rattle.audit_model.specs.Graph.{Graph}
use Rattle.audit_model.specs.Local.{is_mate}
use Rattle.audit_model.specs.Path.{IsPath}
use Rattle.audit_model.proofs.Paths.{first_in}
use Rattle.contig.specs.declared.corner.Corner.{Corner}
use Rattle.contig.specs.Corners.{IsOnRow, is_filled, is_spared, units_of, corners_at, spares_at}
use Rattle.contig.specs.Faces.{SparedFace, AreFaces, AreLinkedBy, own_rings, chosen, share_face, link_graph}
use Rattle.contig.specs.Links.{AreLinks, AreMerged, is_active_at, is_link}
use Rattle.contig.proofs.Choosing.{own_are_rings, own_shared}
use Rattle.contig.proofs.Merging.{row, home, HaveOneClass, AreCovered}
use Rattle.contig.proofs.RingLinks.{link_near, near_link}
use Rattle.contig.proofs.Seeing.{corners_share, shared_corner}
use Rattle.contig.proofs.Sparing.{spares_share, chosen_corner}

-- ---- more links

module _ (g : Graph) (plan : List ℕ) (u : ℕ) (few many : List (List ℕ))
    (all : (x y : ℕ) → share_face few (home plan u) u x y ≡ true → share_face many (home plan u) u x y ≡ true) where
  path_as : (units : List ℕ) (x y : ℕ) → IsPath (link_graph g few (home plan u) u) (is_mate g plan u) units x y → IsPath (link_graph g many (home plan u) u) (is_mate g plan u) units x y
  path_as [] x y p = p
  path_as (w ∷ []) x y p = p
  path_as (w ∷ v ∷ rest) x y p =
      let there = first_in (link_graph g few (home plan u) u) (is_mate g plan u) v rest v y p.3 in
      (p.0, p.1, link_near g many (home plan u) u w v p.1.0 there.0 (all w v (near_link g few (home plan u) u w v p.1.0 p.2)), path_as (v ∷ rest) v y p.3)

  -- mates linked through some rings are linked through more
  pub linked_as : AreLinkedBy g few plan u → AreLinkedBy g many plan u
  linked_as linked = record {
    inhabited = linked.inhabited;
    joined = λ x y ix iy. let path = linked.joined x y ix iy in (path.0, path_as path.0 x y path.1);
  }

-- ---- corners

-- no corner
abbrev none : Corner
none = record { one = 0; other = 0; far = 0; further = 0 }

-- the units of the corner at a position
units_at : (row : List ℕ) (corners : List Corner) (cs : List (ℕ × ℕ × ℕ × ℕ)) (k : ℕ) (d : Corner) → map (units_of row) corners ≡ cs → k < length corners
    → units_of row (get_or corners k d) ≡ get_or cs k (0, 0, 0, 0)
units_at row corners cs k d is l = sym (get_or-map (units_of row) corners k d (0, 0, 0, 0) l) ∙ ap (λ (t : List (ℕ × ℕ × ℕ × ℕ)). get_or t k (0, 0, 0, 0)) is

as_many : (row : List ℕ) (corners : List Corner) (cs : List (ℕ × ℕ × ℕ × ℕ)) → map (units_of row) corners ≡ cs → length corners ≡ length cs
as_many row corners cs is = sym (length-map corners (units_of row)) ∙ ap (length {A = ℕ × ℕ × ℕ × ℕ}) is

module _ (g : Graph) (plan : List ℕ) (u : ℕ) (faces : List SparedFace) (are : AreFaces g faces) where
  in_home : home plan u u ≡ true
  in_home = eq-eqb (get_or plan u 0) (get_or plan u 0) refl

  -- a merged corner gives its neighbors one class
  one_class : (spare : Bool) (all : List Corner) (cs : List (ℕ × ℕ × ℕ × ℕ)) (classes : List ℕ) (x y k : ℕ) → map (units_of (row g u)) all ≡ cs
      → All (IsOnRow g (row g u)) all → AreMerged g plan u spare all classes → k < length cs → is_link g plan u spare (get_or all k none) ≡ true
      → (((get_or cs k (0, 0, 0, 0)).0 ≡ x) × ((get_or cs k (0, 0, 0, 0)).1 ≡ y)) ⊎ (((get_or cs k (0, 0, 0, 0)).0 ≡ y) × ((get_or cs k (0, 0, 0, 0)).1 ≡ x))
      → HaveOneClass (row g u) classes x y
  one_class spare all cs classes x y k is_all placed merged lk test ends =
      let l : k < length all = omega (arith, lk, as_many (row g u) all cs is_all) in
      let at = units_at (row g u) all cs k none is_all l in
      let one_is : get_or (row g u) (get_or all k none).one 0 ≡ (get_or cs k (0, 0, 0, 0)).0 = ap (λ (t : ℕ × ℕ × ℕ × ℕ). t.0) at in
      let other_is : get_or (row g u) (get_or all k none).other 0 ≡ (get_or cs k (0, 0, 0, 0)).1 = ap (λ (t : ℕ × ℕ × ℕ × ℕ). t.1) at in
      let there : IsOnRow g (row g u) (get_or all k none) = All-get_or (IsOnRow g (row g u)) all k none l placed in
      let same = merged k none l test in
      elim ends [
        | inl both ↦ ((get_or all k none).one, (get_or all k none).other, there.one, there.other, one_is ∙ both.0, other_is ∙ both.1, same)
        | inr both ↦ ((get_or all k none).other, (get_or all k none).one, there.other, there.one, other_is ∙ both.1, one_is ∙ both.0, sym same)
      ]

  module _ (spares : List Corner) (of_spares : map (units_of (row g u)) spares ≡ spares_at u faces) where
    -- the corner of an active spare links neighbors that share a chosen ring
    pub spares_link : AreLinks g (chosen (home plan u) faces) plan u true spares
    spares_link k d l inner =
        subst (λ (t : ℕ × ℕ × ℕ × ℕ). is_spared (home plan u) t ≡ true → share_face (chosen (home plan u) faces) (home plan u) u t.0 t.1 ≡ true)
        (sym (units_at (row g u) spares (spares_at u faces) k d of_spares l))
        (spares_share (home plan u) u in_home g faces are k (0, 0, 0, 0) (omega (arith, l, as_many (row g u) spares (spares_at u faces) of_spares))) inner

    spared_link : (k : ℕ) → k < length (spares_at u faces) → is_spared (home plan u) (get_or (spares_at u faces) k (0, 0, 0, 0)) ≡ true
        → is_link g plan u true (get_or spares k none) ≡ true
    spared_link k lk h =
        subst (λ (t : ℕ × ℕ × ℕ × ℕ). is_spared (home plan u) t ≡ true)
        (sym (units_at (row g u) spares (spares_at u faces) k none of_spares (omega (arith, lk, as_many (row g u) spares (spares_at u faces) of_spares)))) h

    -- without an active spare at u, neighbors that share a chosen ring share a ring
    pub only_rings : ((k : ℕ) (d : Corner) → k < length spares → is_active_at g plan u (get_or spares k d) ≡ false)
        → (x y : ℕ) → share_face (chosen (home plan u) faces) (home plan u) u x y ≡ true → share_face (own_rings faces) (home plan u) u x y ≡ true
    only_rings idle x y h = elim (chosen_corner (home plan u) u in_home g faces x y are h) [
      | inl own ↦ own
      | inr (k, lk, found) ↦ absurd (both_ways (is_active_at g plan u (get_or spares k none))
          (idle k none (omega (arith, lk, as_many (row g u) spares (spares_at u faces) of_spares))) (spared_link k lk found.0))
    ]

    module _ (corners : List Corner) (is : map (units_of (row g u)) corners ≡ corners_at u (own_rings faces)) where
      -- an inner corner links neighbors that share a chosen ring, too
      pub rings_link : AreLinks g (chosen (home plan u) faces) plan u false corners
      rings_link k d l inner =
          own_shared (home plan u) u (get_or (row g u) (get_or corners k d).one 0) (get_or (row g u) (get_or corners k d).other 0) faces
          (subst (λ (t : ℕ × ℕ × ℕ × ℕ). is_filled (home plan u) t ≡ true → share_face (own_rings faces) (home plan u) u t.0 t.1 ≡ true)
          (sym (units_at (row g u) corners (corners_at u (own_rings faces)) k d is l))
          (corners_share (home plan u) u in_home g (own_rings faces) (own_are_rings g faces are) k (0, 0, 0, 0)
          (omega (arith, l, as_many (row g u) corners (corners_at u (own_rings faces)) is))) inner)

      filled_link : (k : ℕ) → k < length (corners_at u (own_rings faces)) → is_filled (home plan u) (get_or (corners_at u (own_rings faces)) k (0, 0, 0, 0)) ≡ true
          → is_link g plan u false (get_or corners k none) ≡ true
      filled_link k lk h =
          subst (λ (t : ℕ × ℕ × ℕ × ℕ). is_filled (home plan u) t ≡ true)
          (sym (units_at (row g u) corners (corners_at u (own_rings faces)) k none is (omega (arith, lk, as_many (row g u) corners (corners_at u (own_rings faces)) is)))) h

      -- after all merges, neighbors that share a chosen ring have one class
      pub all_covered : (classes : List ℕ) → All (IsOnRow g (row g u)) corners → All (IsOnRow g (row g u)) spares
          → AreMerged g plan u false corners classes → AreMerged g plan u true spares classes → AreCovered g (chosen (home plan u) faces) plan u classes
      all_covered classes placed placed_spares merged merged_spares x y h = elim (chosen_corner (home plan u) u in_home g faces x y are h) [
        | inl own ↦ elim (shared_corner (home plan u) u in_home g (own_rings faces) x y (own_are_rings g faces are) own) [
          | inl e ↦ inl e
          | inr (k, lk, filled, ends) ↦ inr (one_class false corners (corners_at u (own_rings faces)) classes x y k is placed merged lk (filled_link k lk filled) ends)
        ]
        | inr (k, lk, found) ↦ elim found.1 [
          | inl e ↦ inl e
          | inr both ↦ inr (one_class true spares (spares_at u faces) classes x y k of_spares placed_spares merged_spares lk (spared_link k lk found.0) both)
        ]
      ]

-- merged corners stay merged in coarser classes
pub still_merged : (g : Graph) (plan : List ℕ) (u : ℕ) (spare : Bool) (corners : List Corner) (old new : List ℕ) → length (row g u) ≤ 32 → All (IsOnRow g (row g u)) corners
    → ((a b : ℕ) → a < 32 → b < 32 → get_or old a 0 ≡ get_or old b 0 → get_or new a 0 ≡ get_or new b 0)
    → AreMerged g plan u spare corners old → AreMerged g plan u spare corners new
still_merged g plan u spare corners old new few placed coarser merged k d l test =
    let there : IsOnRow g (row g u) (get_or corners k d) = All-get_or (IsOnRow g (row g u)) corners k d l placed in
    coarser (get_or corners k d).one (get_or corners k d).other (omega (arith, there.one, few)) (omega (arith, there.other, few)) (merged k d l test)
