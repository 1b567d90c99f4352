-- Long faces: cycles of any length beside the faces. They count for a district without holes.
use Rattle.std.proofs.Common.{◌≡◌, ℕ, suc, ◌+◌, ◌<◌, ◌≤◌, Bool, true, false, ◌&&◌, ◌||◌, List, [], ◌∷◌, ◌++◌, length, refl, sym, ap, ◌∙◌, subst, inl, inr, arith}
use Rattle.std.specs.Prelude.{◌≢◌, nat_lt, slice_index}
use Rattle.std.specs.List.{list_any, list_all, slice_index_or}
use Rattle.std.proofs.lemmas.Bool.{and_parts, or_cases, or_from, cases_Bool, cond-true, cond-false, lt-ltb, le-ltb, both_ways, false≢true, false_from_ne_true}
use Rattle.std.proofs.lemmas.List.Folds.{list_any-append}
use Rattle.audit_model.specs.Apart.{AllApart}
use Rattle.audit_model.specs.Graph.{Graph, has, adjacent}
use Rattle.audit_model.specs.Local.{IsSimple, MayLeave}
use Rattle.audit_model.specs.Path.{IsConnected}
use Rattle.audit_model.specs.District.{in_district}
use Rattle.audit_model.proofs.ListFacts.{has_at}
use Rattle.contig.specs.Counts.{missing_faces}
use Rattle.contig.specs.Cycles.{next_place}
use Rattle.contig.specs.Faces.{is_pair, has_side_from, has_side, SparedFace, own_ring, spare_ring, OwnsSide, IsCycle, AreCycles, AreFaces, AreClear, AreLinked, is_active, chosen, count_units, count_inner_edges, count_inner_faces, share_face}
use Rattle.contig.proofs.Choosing.{spare_owns, chosen_are_rings}
use Rattle.contig.proofs.RingLinks.{leaving_is_linked}
use Rattle.contig.proofs.Rings.{pair_is, side_in, rings_are_cycles}
use Rattle.contig.proofs.SpareLinks.{linked_as}

-- ---- sides by positions

-- some side of the ring, from a position to the next, is the pair of x and y
abbrev IsPlaced : List ℕ → ℕ → ℕ → Type 0
IsPlaced ring x y = (i : ℕ) × (i < length ring) × (is_pair (slice_index ring i) (slice_index ring (next_place (length ring) i)) x y ≡ true)

-- the position after another than the last
next_inner : (n i : ℕ) → i + 1 < n → next_place n i ≡ i + 1
next_inner n i l = cond-true {A = ℕ} (nat_lt (i + 1) n) (i + 1) 0 (lt-ltb (i + 1) n l)

-- the position after the last
next_last : (n i : ℕ) → n ≤ i + 1 → next_place n i ≡ 0
next_last n i l = cond-false {A = ℕ} (nat_lt (i + 1) n) (i + 1) 0 (le-ltb (i + 1) n l)

-- the unit at a position and the one at the next are a side
placed_at : (ring : List ℕ) (i j p q x y : ℕ) → i < length ring → next_place (length ring) i ≡ j → slice_index ring i ≡ p → slice_index ring j ≡ q
    → is_pair p q x y ≡ true → IsPlaced ring x y
placed_at ring i j p q x y l next at-i at-j h = (
  i,
  l,
  ap (λ t. is_pair (slice_index ring i) (slice_index ring t) x y) next ∙ ap (λ t. is_pair t (slice_index ring j) x y) at-i ∙ ap (λ t. is_pair p t x y) at-j ∙ h,
)

-- a side that is found from position k on is the pair of the units at a position and the next
from_places : (ring : List ℕ) (first last k : ℕ) (found : Bool) (rest : List ℕ) (x y : ℕ) → slice_index ring 0 ≡ first → slice_index ring k ≡ last
    → ((j : ℕ) → slice_index rest j ≡ slice_index ring (k + 1 + j)) → length ring ≡ k + 1 + length rest → (found ≡ true → IsPlaced ring x y)
    → has_side_from first last found rest x y ≡ true → IsPlaced ring x y
from_places ring first last k found [] x y at-first at-last each len f h = elim (or_cases found (is_pair last first x y) h) [
  | inl e ↦ f e
  | inr e ↦ placed_at ring k 0 last first x y (omega (arith, len)) (next_last (length ring) k (omega (arith, len))) at-last at-first e
]
from_places ring first last k found (next ∷ rest) x y at-first at-last each len f h =
    from_places ring first next (k + 1) (found || is_pair last next x y) rest x y at-first at-next
    (λ j. each (suc j) ∙ ap (slice_index ring) (omega arith)) (omega (arith, len))
    (λ e. elim (or_cases found (is_pair last next x y) e) [
      | inl d ↦ f d
      | inr d ↦ placed_at ring k (k + 1) last next x y (omega (arith, len)) (next_inner (length ring) k (omega (arith, len))) at-last at-next d
    ]) h
  where
    at-next : slice_index ring (k + 1) ≡ next
    at-next = sym (each 0 ∙ ap (slice_index ring) (omega arith))

-- a side is the pair of the units at a position and the next
pub side_places : (ring : List ℕ) (x y : ℕ) → has_side ring x y ≡ true
    → (i : ℕ) × (i < length ring) × (is_pair (slice_index ring i) (slice_index ring (next_place (length ring) i)) x y ≡ true)
side_places [] x y h = absurd (false≢true h)
side_places (a ∷ []) x y h = absurd (false≢true h)
side_places (a ∷ b ∷ []) x y h = absurd (false≢true h)
side_places (a ∷ b ∷ c ∷ rest) x y h =
    from_places (a ∷ b ∷ c ∷ rest) a c 2 (is_pair a b x y || is_pair b c x y) rest x y refl refl
    (λ j. let same : suc (suc (suc j)) ≡ 2 + 1 + j = omega arith in ap (slice_index (a ∷ b ∷ c ∷ rest)) same) (omega arith)
    (λ e. elim (or_cases (is_pair a b x y) (is_pair b c x y) e) [
      | inl d ↦ placed_at (a ∷ b ∷ c ∷ rest) 0 1 a b x y (omega arith) (next_inner (length (a ∷ b ∷ c ∷ rest)) 0 (omega arith)) refl refl d
      | inr d ↦ placed_at (a ∷ b ∷ c ∷ rest) 1 2 b c x y (omega arith) (next_inner (length (a ∷ b ∷ c ∷ rest)) 1 (omega arith)) refl refl d
    ]) h

-- numbers that differ at each two positions are distinct
pub apart_from_places : (ring : List ℕ) → ((i j : ℕ) → i < j → j < length ring → slice_index ring i ≢ slice_index ring j) → AllApart ring
apart_from_places [] differ = tt
apart_from_places (x ∷ xs) differ = (
  false_from_ne_true (has xs x) (λ h. let found = has_at xs x h in differ 0 (suc found.0) (omega arith) (omega (arith, found.1)) (sym found.2)),
  apart_from_places xs (λ i j l m. differ (suc i) (suc j) (omega (arith, l)) (omega (arith, m))),
)

-- distinct units, each adjacent to the one at the next position, are a cycle
pub cycle_from_places : (g : Graph) (ring : List ℕ) → 3 ≤ length ring → AllApart ring → ((i : ℕ) → i < length ring → slice_index ring i < g.units)
    → ((i : ℕ) → i < length ring → adjacent g (slice_index ring i) (slice_index ring (next_place (length ring) i)) ≡ true)
    → ((v w : ℕ) → adjacent g v w ≡ adjacent g w v) → IsCycle g ring
cycle_from_places g ring size apart below near symmetric = record {
  size = size;
  apart = apart;
  below = λ v h. let found = has_at ring v h in subst (λ t. t < g.units) found.2 (below found.0 found.1);
  sides = λ x y h.
      let (i, l, pair) = side_places ring x y h in
      elim (pair_is (slice_index ring i) (slice_index ring (next_place (length ring) i)) x y pair) [
        | inl e ↦ sym (ap (λ t. adjacent g t (slice_index ring (next_place (length ring) i))) e.0 ∙ ap (adjacent g x) e.1) ∙ near i l
        | inr e ↦ symmetric x y ∙ sym (ap (λ t. adjacent g t (slice_index ring (next_place (length ring) i))) e.0 ∙ ap (adjacent g y) e.1) ∙ near i l
      ];
}

-- ---- faces and long faces in one list

-- the own side of each ring belongs to none of these cycles
abbrev AllOwn : List (List ℕ) → List (List ℕ) → Type 0
AllOwn [] cycles = Unit {0}
AllOwn (ring ∷ later) cycles = OwnsSide ring cycles × AllOwn later cycles

-- the own sides of the chosen rings belong to no clear cycle
own_all : (inside : ℕ → Bool) (faces : List SparedFace) (cycles : List (List ℕ)) → AreClear faces cycles → AllOwn (chosen inside faces) cycles
own_all inside [] cycles clear = tt
own_all inside (face ∷ later) cycles clear = (
  elim (cases_Bool (is_active inside face)) [
    | inl e ↦ subst (λ (ring : List ℕ). OwnsSide ring cycles) (sym (cond-true {A = List ℕ} (is_active inside face) (spare_ring face) (own_ring face) e)) (spare_owns face cycles clear.0)
    | inr e ↦ subst (λ (ring : List ℕ). OwnsSide ring cycles) (sym (cond-false {A = List ℕ} (is_active inside face) (spare_ring face) (own_ring face) e)) clear.0
  ],
  own_all inside later cycles clear.1,
)

-- a side that belongs to none of two lists belongs to none of both
owns_appended : (ring : List ℕ) (xs ys : List (List ℕ)) → OwnsSide ring xs → OwnsSide ring ys → OwnsSide ring (xs ++ ys)
owns_appended [] xs ys h k = h
owns_appended (a ∷ []) xs ys h k = h
owns_appended (a ∷ b ∷ rest) xs ys h k =
    list_any-append (λ face. has_side face a b) xs ys ∙ or_from (list_any (λ face. has_side face a b) xs) (list_any (λ face. has_side face a b) ys) h k

-- cycles whose own sides belong to none of the second list may precede it
cycles_appended : (g : Graph) (xs ys : List (List ℕ)) → AreCycles g xs → AllOwn xs ys → AreCycles g ys → AreCycles g (xs ++ ys)
cycles_appended g [] ys are own cycles = cycles
cycles_appended g (ring ∷ later) ys are own cycles = (are.0, owns_appended ring later ys are.1 own.0, cycles_appended g later ys are.2 own.1 cycles)

-- the chosen rings and the long faces are cycles, each with a side that no later one has
pub chosen_with_cycles : (g : Graph) (inside : ℕ → Bool) (faces : List SparedFace) (long : List (List ℕ)) → AreFaces g faces → AreClear faces long → AreCycles g long
    → AreCycles g (chosen inside faces ++ long)
chosen_with_cycles g inside faces long are clear cycles =
    cycles_appended g (chosen inside faces) long (rings_are_cycles g (chosen inside faces) (chosen_are_rings g inside faces are)) (own_all inside faces long clear) cycles

-- the inner faces of two lists add up
pub inner_appended : (inside : ℕ → Bool) (xs ys : List (List ℕ)) → count_inner_faces inside (xs ++ ys) ≡ count_inner_faces inside xs + count_inner_faces inside ys
inner_appended inside [] ys = omega arith
inner_appended inside (face ∷ later) ys = omega (arith, inner_appended inside later ys)

-- ---- links through long faces

-- neighbors that share no inner ring of the second list share one of the first
share_first : (inside : ℕ → Bool) (u x y : ℕ) (xs ys : List (List ℕ)) → share_face ys inside u x y ≡ false → share_face (xs ++ ys) inside u x y ≡ true
    → share_face xs inside u x y ≡ true
share_first inside u x y xs ys none h =
    let joins : List ℕ → Bool = λ face. list_all inside face && (has_side face u x && has_side face u y) in
    elim (or_cases (share_face xs inside u x y) (share_face ys inside u x y) (sym (list_any-append joins xs ys) ∙ h)) [
      | inl e ↦ e
      | inr e ↦ absurd (both_ways (share_face ys inside u x y) none e)
    ]

-- without an inner long face at u, none is shared there
pub inner_shares : (long : List (List ℕ)) (inside : ℕ → Bool) (u : ℕ)
    → ((k : ℕ) (d : List ℕ) → k < length long → list_all inside (slice_index_or long k d) ≡ true → has (slice_index_or long k d) u ≡ false)
    → (x y : ℕ) → share_face long inside u x y ≡ false
inner_shares [] inside u each x y = refl
inner_shares (face ∷ later) inside u each x y =
    or_from (list_all inside face && (has_side face u x && has_side face u y)) (share_face later inside u x y)
    (false_from_ne_true (list_all inside face && (has_side face u x && has_side face u y)) (λ h.
    let parts = and_parts (list_all inside face) (has_side face u x && has_side face u y) h in
    let side = (and_parts (has_side face u x) (has_side face u y) parts.1).0 in
    both_ways (has face u) (each 0 face (omega arith) parts.0) (side_in face u x side)))
    (inner_shares later inside u (λ k d l. each (suc k) d (omega (arith, l))) x y)

-- if long faces close all holes of a district and none is shared at u, u may leave only if its mates are linked
pub closed_may_not : (g : Graph) (faces : List SparedFace) (long : List (List ℕ)) (plan : List ℕ) (u : ℕ) → IsSimple g → AreFaces g faces → AreClear faces long
    → AreCycles g long → u < g.units → IsConnected g (in_district plan (slice_index plan u))
    → missing_faces g faces (in_district plan (slice_index plan u)) ≤ count_inner_faces (in_district plan (slice_index plan u)) long
    → ((x y : ℕ) → share_face long (in_district plan (slice_index plan u)) u x y ≡ false)
    → (AreLinked g faces plan u → ⊥) → MayLeave g plan u → ⊥
closed_may_not g faces long plan u simple are clear cycles l connected missing none unlinked leaves =
    let inside = in_district plan (slice_index plan u) in
    let holes : count_inner_edges g inside + 1 ≤ count_units g inside + count_inner_faces inside (chosen inside faces ++ long) =
    omega (arith, missing, inner_appended inside (chosen inside faces) long) in
    unlinked (linked_as g plan u (chosen inside faces ++ long) (chosen inside faces)
    (λ x y h. share_first inside u x y (chosen inside faces) long (none x y) h)
    (leaving_is_linked g (chosen inside faces ++ long) plan u simple (chosen_with_cycles g inside faces long are clear cycles) l connected holes leaves))
