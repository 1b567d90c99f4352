-- The change of a district's active spares when a unit comes or goes.
use Rattle.std.proofs.Common.{◌≡◌, ℕ, ◌+◌, ◌-◌, ◌<◌, ◌≤◌, Bool, true, false, cond, not, ◌&&◌, List, [], ◌∷◌, length, get_or, set, refl, sym, ap, ◌∙◌, subst, inl, inr, arith, length-set, get_or-set_same, get_or-set_other}
use Rattle.std.specs.Prelude.{count_by}
use Rattle.std.specs.List.{list_all}
use Rattle.std.proofs.lemmas.Bool.{and_left, cases_eq}
use Rattle.audit_model.specs.Graph.{Graph}
use Rattle.contig.specs.Counts.{AreSpareCounts}
use Rattle.contig.specs.Corners.{is_ending, is_starting, spares_at}
use Rattle.contig.specs.Faces.{SparedFace, IsRing, own_ring, spare_ring, AreFaces, is_active, count_active}
use Rattle.contig.proofs.Changing.{all_alike}
use Rattle.contig.proofs.Sparing.{spares_change}

-- sets that agree on all units have equally many active spares
pub active_alike : (g : Graph) (p q : ℕ → Bool) (faces : List SparedFace) → AreFaces g faces → ((v : ℕ) → v < g.units → p v ≡ q v) → count_active p faces ≡ count_active q faces
active_alike g p q [] are same = refl
active_alike g p q (face ∷ later) are same =
    let rest = active_alike g p q later are.4 same in
    let spare = all_alike p q (spare_ring face) (λ v h. same v (are.1.below v h)) in
    let ring = all_alike p q (own_ring face) (λ v h. same v (are.0.below v h)) in
    let one : cond {A = ℕ} (is_active p face) 1 0 ≡ cond (is_active q face) 1 0 =
    ap (λ b. cond {A = ℕ} (b && not (list_all p (own_ring face))) 1 0) spare ∙ ap (λ b. cond {A = ℕ} (list_all q (spare_ring face) && not b) 1 0) ring in
    omega (arith, rest, one)

-- there are at most as many active spares as faces
pub active_few : (inside : ℕ → Bool) (faces : List SparedFace) → count_active inside faces ≤ length faces
active_few inside [] = omega arith
active_few inside (face ∷ later) = omega (arith, active_few inside later, one (is_active inside face))
  where
    one : (b : Bool) → cond {A = ℕ} b 1 0 ≤ 1
    one true = omega arith
    one false = omega arith

-- a set without units has no ring inside
none_inside : (g : Graph) (p : ℕ → Bool) (ring : List ℕ) → ((v : ℕ) → p v ≡ false) → IsRing g ring → list_all p ring ≡ false
none_inside g p [] none is = absurd (omega (arith, is.size.0))
none_inside g p (v ∷ rest) none is = and_left (p v) (list_all p rest) (none v)

-- a set without units has no active spare
pub none_active : (g : Graph) (p : ℕ → Bool) (faces : List SparedFace) → ((v : ℕ) → p v ≡ false) → AreFaces g faces → count_active p faces ≡ 0
none_active g p [] none are = refl
none_active g p (face ∷ later) none are =
    let out : is_active p face ≡ false = and_left (list_all p (spare_ring face)) (not (list_all p (own_ring face))) (none_inside g p (spare_ring face) none are.1) in
    omega (arith, none_active g p later none are.4, ap (λ b. cond {A = ℕ} b 1 0) out)

-- equal sets have equally many active spares
pub spared_alike : (g : Graph) (faces : List SparedFace) (p q : ℕ → ℕ → Bool) (n : ℕ) (spared : List ℕ) → AreFaces g faces → ((x v : ℕ) → v < g.units → p x v ≡ q x v)
    → AreSpareCounts faces p n spared → AreSpareCounts faces q n spared
spared_alike g faces p q n spared are same s = record { places = s.places; active = λ d l. s.active d l ∙ active_alike g (p d) (q d) faces are (same d) }

-- before the first unit
pub none_spared : (g : Graph) (faces : List SparedFace) (p : ℕ → ℕ → Bool) (n : ℕ) (spared : List ℕ) → AreFaces g faces → ((x v : ℕ) → p x v ≡ false) → length spared ≡ n
    → ((d : ℕ) → get_or spared d 0 ≡ 0) → AreSpareCounts faces p n spared
none_spared g faces p n spared are none long zero = record { places = long; active = λ d l. zero d ∙ sym (none_active g (p d) faces (none d) are) }

module _ (g : Graph) (faces : List SparedFace) (are : AreFaces g faces) (before after : ℕ → ℕ → Bool) (d n : ℕ) (old : List ℕ) (ld : d < n)
    (others : (x v : ℕ) → v < g.units → (x ≡ d → ⊥) → after x v ≡ before x v) (s : AreSpareCounts faces before n old) where
  -- some spares stay active, these many end, and these many begin
  abbrev pub Shift : ℕ → ℕ → Type 0
  Shift ending starting = (both : ℕ) × (count_active (before d) faces ≡ both + ending) × (count_active (after d) faces ≡ both + starting)

  -- if none end and none begin, the counts stay the same
  pub unchanged : Shift 0 0 → AreSpareCounts faces after n old
  unchanged change = record {
    places = s.places;
    active = λ x l. elim (cases_eq x d) [
      | inl e ↦ subst (λ t. get_or old t 0 ≡ count_active (after t) faces) (sym e) (let was = s.active d ld in omega (arith, was, change.1, change.2))
      | inr off ↦ s.active x l ∙ active_alike g (before x) (after x) faces are (λ v lv. sym (others x v lv off))
    ];
  }

  module _ (ending starting : ℕ) (change : Shift ending starting) where
    pub shift_fits : ending ≤ get_or old d 0
    shift_fits = let was = s.active d ld in omega (arith, was, change.1)

    pub shift_few : get_or old d 0 - ending + starting ≤ length faces
    shift_few =
        let was = s.active d ld in
        let few = active_few (after d) faces in
        omega (arith, was, change.1, change.2, few)

    pub shifted : (new : List ℕ) → new ≡ set old d (get_or old d 0 - ending + starting) → AreSpareCounts faces after n new
    shifted new is = record {
      places = ap (length {A = ℕ}) is ∙ length-set old d (get_or old d 0 - ending + starting) ∙ s.places;
      active = λ x l. ap (λ (t : List ℕ). get_or t x 0) is ∙ elim (cases_eq x d) [
        | inl e ↦ subst (λ t. get_or (set old d (get_or old d 0 - ending + starting)) t 0 ≡ count_active (after t) faces) (sym e)
            (get_or-set_same old d (get_or old d 0 - ending + starting) 0 (subst (λ t. d < t) (sym s.places) ld)
            ∙ (let was = s.active d ld in omega (arith, was, change.1, change.2)))
        | inr off ↦ get_or-set_other old d x (get_or old d 0 - ending + starting) 0 off ∙ s.active x l
            ∙ active_alike g (before x) (after x) faces are (λ v lv. sym (others x v lv off))
      ];
    }

module _ (g : Graph) (faces : List SparedFace) (are : AreFaces g faces) (before after : ℕ → ℕ → Bool) (d u ending starting : ℕ) (test : ℕ → Bool)
    (others : (v : ℕ) → v < g.units → (v ≡ u → ⊥) → after d v ≡ before d v) (tests : (v : ℕ) → v < g.units → (v ≡ u → ⊥) → test v ≡ before d v)
    (are_ending : ending ≡ count_by (is_ending test u) (spares_at u faces)) (are_starting : starting ≡ count_by (is_starting test u) (spares_at u faces)) where
  -- when a unit goes
  pub going : before d u ≡ true → after d u ≡ false → (both : ℕ) × (count_active (before d) faces ≡ both + ending) × (count_active (after d) faces ≡ both + starting)
  going there absent =
      let change = spares_change g (before d) (after d) test u there absent (λ v l off. sym (others v l off)) (λ v l off. tests v l off ∙ sym (others v l off)) faces are in
      (change.0, omega (arith, change.1, are_ending), omega (arith, change.2, are_starting))

  -- when a unit comes
  pub coming : after d u ≡ true → before d u ≡ false → (both : ℕ) × (count_active (before d) faces ≡ both + starting) × (count_active (after d) faces ≡ both + ending)
  coming there absent =
      let change = spares_change g (after d) (before d) test u there absent others tests faces are in
      (change.0, omega (arith, change.2, are_starting), omega (arith, change.1, are_ending))
