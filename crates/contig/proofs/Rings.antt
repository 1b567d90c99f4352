-- Sides of rings, and a path around a ring that avoids its own side.
use Rattle.std.proofs.Common.{◌≡◌, ℕ, ◌≤◌, Bool, true, false, ◌&&◌, ◌||◌, List, [], ◌∷◌, length, refl, sym, ap, ◌∙◌, subst, inl, inr, arith}
use Rattle.std.specs.Prelude.{◌==◌, ◌⊎◌}
use Rattle.std.proofs.lemmas.Bool.{and_parts, and_from, or_cases, or_left, or_right, or_parts, eq-eqb, eqb-true, false≢true, false_from_ne_true, both_ways}
use Rattle.audit_model.specs.Apart.{AllApart}
use Rattle.audit_model.specs.Graph.{Graph, has}
use Rattle.audit_model.proofs.ListFacts.{first_has, has_2, has_3, has_4}
use Rattle.audit_model.proofs.Bools.{in_1, in_2, in_3, in_4}
use Rattle.contig.specs.Faces.{is_pair, has_side_from, has_side, IsRing, IsCycle, AreRings, AreCycles}

-- ---- one of five

-- case analysis of a disjunction of five
pub by_five : (P : Type 0) (p q r s t : Bool) → (p ≡ true → P) → (q ≡ true → P) → (r ≡ true → P) → (s ≡ true → P) → (t ≡ true → P) → (p || q || r || s || t) ≡ true → P
by_five P true q r s t f1 f2 f3 f4 f5 h = f1 refl
by_five P false true r s t f1 f2 f3 f4 f5 h = f2 refl
by_five P false false true s t f1 f2 f3 f4 f5 h = f3 refl
by_five P false false false true t f1 f2 f3 f4 f5 h = f4 refl
by_five P false false false false true f1 f2 f3 f4 f5 h = f5 refl
by_five P false false false false false f1 f2 f3 f4 f5 h = absurd (false≢true h)

-- the first of five implies the disjunction
pub five_1 : (p q r s t : Bool) → p ≡ true → (p || q || r || s || t) ≡ true
five_1 p q r s t h = or_left (p || q || r || s) t (in_1 p q r s h)

-- the second of five implies the disjunction
pub five_2 : (p q r s t : Bool) → q ≡ true → (p || q || r || s || t) ≡ true
five_2 p q r s t h = or_left (p || q || r || s) t (in_2 p q r s h)

-- the third of five implies the disjunction
pub five_3 : (p q r s t : Bool) → r ≡ true → (p || q || r || s || t) ≡ true
five_3 p q r s t h = or_left (p || q || r || s) t (in_3 p q r s h)

-- the fourth of five implies the disjunction
pub five_4 : (p q r s t : Bool) → s ≡ true → (p || q || r || s || t) ≡ true
five_4 p q r s t h = or_left (p || q || r || s) t (in_4 p q r s h)

-- the fifth of five implies the disjunction
pub five_5 : (p q r s t : Bool) → t ≡ true → (p || q || r || s || t) ≡ true
five_5 p q r s t h = or_right (p || q || r || s) t h

-- case analysis of a member of a list of five
pub unit_of_five : (P : Type 0) (a b c d e v : ℕ) → (a ≡ v → P) → (b ≡ v → P) → (c ≡ v → P) → (d ≡ v → P) → (e ≡ v → P) → has (a ∷ b ∷ c ∷ d ∷ e ∷ []) v ≡ true → P
unit_of_five P a b c d e v f1 f2 f3 f4 f5 h = elim (or_cases (a == v) (has (b ∷ c ∷ d ∷ e ∷ []) v) h) [
  | inl k ↦ f1 (eqb-true a v k)
  | inr h2 ↦ elim (or_cases (b == v) (has (c ∷ d ∷ e ∷ []) v) h2) [
    | inl k ↦ f2 (eqb-true b v k)
    | inr h3 ↦ elim (or_cases (c == v) (has (d ∷ e ∷ []) v) h3) [
      | inl k ↦ f3 (eqb-true c v k)
      | inr h4 ↦ elim (or_cases (d == v) (has (e ∷ []) v) h4) [
        | inl k ↦ f4 (eqb-true d v k)
        | inr h5 ↦ elim (or_cases (e == v) (has [] v) h5) [ inl k ↦ f5 (eqb-true e v k) | inr z ↦ absurd (false≢true z) ]
      ]
    ]
  ]
]

-- the fifth item of a list is a member
pub has_5 : (a b c d e : ℕ) (xs : List ℕ) → has (a ∷ b ∷ c ∷ d ∷ e ∷ xs) e ≡ true
has_5 a b c d e xs = or_right (a == e) (has (b ∷ c ∷ d ∷ e ∷ xs) e) (has_4 b c d e xs)

-- ---- pairs

-- disjunction is commutative
or_comm : (a b : Bool) → (a || b) ≡ true → (b || a) ≡ true
or_comm a b h = elim (or_cases a b h) [
  | inl e ↦ or_right b a e
  | inr e ↦ or_left b a e
]

-- two units are their own pair
pub pair_same : (a b : ℕ) → is_pair a b a b ≡ true
pair_same a b = or_left ((a == a) && (b == b)) ((a == b) && (b == a)) (and_from (a == a) (b == b) (eq-eqb a a refl) (eq-eqb b b refl))

-- a pair is a pair in either order
pub pair_turned : (a b x y : ℕ) → is_pair a b x y ≡ true → is_pair a b y x ≡ true
pair_turned a b x y h = or_comm ((a == x) && (b == y)) ((a == y) && (b == x)) h

-- a pair has these units, in one order or the other
pub pair_is : (a b x y : ℕ) → is_pair a b x y ≡ true → ((a ≡ x) × (b ≡ y)) ⊎ ((a ≡ y) × (b ≡ x))
pair_is a b x y h = elim (or_cases ((a == x) && (b == y)) ((a == y) && (b == x)) h) [
  | inl e ↦ let p = and_parts (a == x) (b == y) e in inl (eqb-true a x p.0, eqb-true b y p.1)
  | inr e ↦ let p = and_parts (a == y) (b == x) e in inr (eqb-true a y p.0, eqb-true b x p.1)
]

-- units that match in neither order are no pair
pub not_pair : (a b x y : ℕ) → ((a ≡ x) → (b ≡ y) → ⊥) → ((a ≡ y) → (b ≡ x) → ⊥) → is_pair a b x y ≡ false
not_pair a b x y straight turned = false_from_ne_true (is_pair a b x y) (λ h. elim (pair_is a b x y h) [
  | inl e ↦ straight e.0 e.1
  | inr e ↦ turned e.0 e.1
])

-- ---- sides

-- a disjunction is monotone
or_map : (a b c d : Bool) → (a ≡ true → c ≡ true) → (b ≡ true → d ≡ true) → (a || b) ≡ true → (c || d) ≡ true
or_map a b c d f k h = elim (or_cases a b h) [
  | inl e ↦ or_left c d (f e)
  | inr e ↦ or_right c d (k e)
]

-- a side that was found stays found
from_found : (first last : ℕ) (found : Bool) (rest : List ℕ) (x y : ℕ) → found ≡ true → has_side_from first last found rest x y ≡ true
from_found first last found [] x y h = or_left found (is_pair last first x y) h
from_found first last found (next ∷ rest) x y h = from_found first next (found || is_pair last next x y) rest x y (or_left found (is_pair last next x y) h)

-- the same sides are found in either order
from_turned : (first last : ℕ) (found turned : Bool) (rest : List ℕ) (x y : ℕ) → (found ≡ true → turned ≡ true)
    → has_side_from first last found rest x y ≡ true → has_side_from first last turned rest y x ≡ true
from_turned first last found turned [] x y f h = or_map found (is_pair last first x y) turned (is_pair last first y x) f (pair_turned last first x y) h
from_turned first last found turned (next ∷ rest) x y f h =
    from_turned first next (found || is_pair last next x y) (turned || is_pair last next y x) rest x y
    (or_map found (is_pair last next x y) turned (is_pair last next y x) f (pair_turned last next x y)) h

-- the sides of a ring are symmetric
pub side_turned : (ring : List ℕ) (x y : ℕ) → has_side ring x y ≡ true → has_side ring y x ≡ true
side_turned [] x y h = absurd (false≢true h)
side_turned (a ∷ []) x y h = absurd (false≢true h)
side_turned (a ∷ b ∷ []) x y h = absurd (false≢true h)
side_turned (a ∷ b ∷ c ∷ rest) x y h =
    from_turned a c (is_pair a b x y || is_pair b c x y) (is_pair a b y x || is_pair b c y x) rest x y
    (or_map (is_pair a b x y) (is_pair b c x y) (is_pair a b y x) (is_pair b c y x) (pair_turned a b x y) (pair_turned b c x y)) h

-- a side that is the pair of a and b is the side from a to b
pub side_at : (ring : List ℕ) (a b x y : ℕ) → is_pair a b x y ≡ true → has_side ring x y ≡ true → has_side ring a b ≡ true
side_at ring a b x y pair h = elim (pair_is a b x y pair) [
  | inl e ↦ subst (λ w. has_side ring a w ≡ true) (sym e.1) (subst (λ v. has_side ring v y ≡ true) (sym e.0) h)
  | inr e ↦ subst (λ w. has_side ring a w ≡ true) (sym e.1) (subst (λ v. has_side ring v x ≡ true) (sym e.0) (side_turned ring x y h))
]

-- the first two units of a ring are a side of it
pub own_side : (a b : ℕ) (rest : List ℕ) → 3 ≤ length (a ∷ b ∷ rest) → has_side (a ∷ b ∷ rest) a b ≡ true
own_side a b [] size = absurd (omega (arith, size))
own_side a b (c ∷ rest) size = from_found a c (is_pair a b a b || is_pair b c a b) rest a b (or_left (is_pair a b a b) (is_pair b c a b) (pair_same a b))

-- the second and the third unit of a ring are a side of it
second_side : (a b c : ℕ) (rest : List ℕ) → has_side (a ∷ b ∷ c ∷ rest) b c ≡ true
second_side a b c rest = from_found a c (is_pair a b b c || is_pair b c b c) rest b c (or_right (is_pair a b b c) (is_pair b c b c) (pair_same b c))

module _ (at : ℕ → ℕ → ℕ) (label : ℕ → ℕ) (ring : List ℕ) (a b : ℕ) (own : has_side ring a b ≡ true)
    (edge : (x y : ℕ) → has_side ring x y ≡ true → is_pair a b x y ≡ false → label (at x y) ≡ label (at y x))
    (corner : (v x y : ℕ) → has_side ring v x ≡ true → has_side ring v y ≡ true → at v x ≡ at v y) where
  -- the label at `last`, on the side from the previous unit, is the label at the first unit
  walk : (previous last : ℕ) (found : ℕ → ℕ → Bool) (rest : List ℕ) → ((x y : ℕ) → has_side_from a last (found x y) rest x y ≡ true → has_side ring x y ≡ true)
      → has_side ring last previous ≡ true → (last ≡ a → ⊥) → (last ≡ b → ⊥) → has rest a ≡ false → has rest b ≡ false
      → label (at last previous) ≡ label (at a b)
  walk previous last found [] sides back off-a off-b no-a no-b =
      let side : has_side ring last a ≡ true = sides last a (or_right (found last a) (is_pair last a last a) (pair_same last a)) in
      ap label (corner last previous a back side) ∙ edge last a side (not_pair a b last a (λ e f. off-a (sym e)) (λ e f. off-b (sym f)))
      ∙ ap label (corner a last b (side_turned ring last a side) own)
  walk previous last found (next ∷ rest) sides back off-a off-b no-a no-b =
      let side : has_side ring last next ≡ true =
      sides last next (from_found a next (found last next || is_pair last next last next) rest last next
      (or_right (found last next) (is_pair last next last next) (pair_same last next))) in
      let next-a : next ≡ a → ⊥ = λ e. both_ways (next == a) (or_parts (next == a) (has rest a) no-a).0 (eq-eqb next a e) in
      let next-b : next ≡ b → ⊥ = λ e. both_ways (next == b) (or_parts (next == b) (has rest b) no-b).0 (eq-eqb next b e) in
      ap label (corner last previous next back side) ∙ edge last next side (not_pair a b last next (λ e f. next-b (sym f)) (λ e f. next-a (sym e)))
      ∙ walk last next (λ x y. found x y || is_pair last next x y) rest sides (side_turned ring last next side) next-a next-b
      (or_parts (next == a) (has rest a) no-a).1 (or_parts (next == b) (has rest b) no-b).1

-- a label that is equal along all other sides, and at both edges of each corner, is equal along the own side
pub round : (at : ℕ → ℕ → ℕ) (label : ℕ → ℕ) (a b : ℕ) (rest : List ℕ) → AllApart (a ∷ b ∷ rest) → has_side (a ∷ b ∷ rest) a b ≡ true
    → ((x y : ℕ) → has_side (a ∷ b ∷ rest) x y ≡ true → is_pair a b x y ≡ false → label (at x y) ≡ label (at y x))
    → ((v x y : ℕ) → has_side (a ∷ b ∷ rest) v x ≡ true → has_side (a ∷ b ∷ rest) v y ≡ true → at v x ≡ at v y)
    → label (at a b) ≡ label (at b a)
round at label a b [] apart own edge corner = absurd (false≢true own)
round at label a b (c ∷ rest) apart own edge corner =
    let side : has_side (a ∷ b ∷ c ∷ rest) b c ≡ true = second_side a b c rest in
    sym (ap label (corner b a c (side_turned (a ∷ b ∷ c ∷ rest) a b own) side) ∙ edge b c side (not_pair a b b c (λ e f. c-b (sym f)) (λ e f. c-a (sym e)))
    ∙ walk at label (a ∷ b ∷ c ∷ rest) a b own edge corner b c (λ x y. is_pair a b x y || is_pair b c x y) rest (λ x y h. h)
    (side_turned (a ∷ b ∷ c ∷ rest) b c side) c-a c-b (or_parts (c == a) (has rest a) no-a).1 (or_parts (c == b) (has rest b) apart.1.0).1)
  where
    no-a : has (c ∷ rest) a ≡ false
    no-a = (or_parts (b == a) (has (c ∷ rest) a) apart.0).1

    c-a : c ≡ a → ⊥
    c-a e = both_ways (c == a) (or_parts (c == a) (has rest a) no-a).0 (eq-eqb c a e)

    c-b : c ≡ b → ⊥
    c-b e = both_ways (c == b) (or_parts (c == b) (has rest b) apart.1.0).0 (eq-eqb c b e)

-- ---- the units of a ring

-- both units of a pair from a ring are on the ring
pair_in : (ring : List ℕ) (a b x y : ℕ) → has ring a ≡ true → has ring b ≡ true → is_pair a b x y ≡ true → has ring x ≡ true
pair_in ring a b x y has-a has-b h = elim (pair_is a b x y h) [
  | inl e ↦ subst (λ k. has ring k ≡ true) e.0 has-a
  | inr e ↦ subst (λ k. has ring k ≡ true) e.1 has-b
]

-- the units of a side that is found are on the ring
from_in : (ring : List ℕ) (first last : ℕ) (found : Bool) (rest : List ℕ) (x y : ℕ) → has ring first ≡ true → has ring last ≡ true
    → ((v : ℕ) → has rest v ≡ true → has ring v ≡ true) → (found ≡ true → has ring x ≡ true) → has_side_from first last found rest x y ≡ true → has ring x ≡ true
from_in ring first last found [] x y has-first has-last each f h = elim (or_cases found (is_pair last first x y) h) [
  | inl e ↦ f e
  | inr e ↦ pair_in ring last first x y has-last has-first e
]
from_in ring first last found (next ∷ rest) x y has-first has-last each f h =
    from_in ring first next (found || is_pair last next x y) rest x y has-first has-next (λ v k. each v (or_right (next == v) (has rest v) k))
    (λ k. elim (or_cases found (is_pair last next x y) k) [ inl e ↦ f e | inr e ↦ pair_in ring last next x y has-last has-next e ]) h
  where
    has-next : has ring next ≡ true
    has-next = each next (first_has next rest)

-- the units of a side are on the ring
pub side_in : (ring : List ℕ) (x y : ℕ) → has_side ring x y ≡ true → has ring x ≡ true
side_in [] x y h = absurd (false≢true h)
side_in (a ∷ []) x y h = absurd (false≢true h)
side_in (a ∷ b ∷ []) x y h = absurd (false≢true h)
side_in (a ∷ b ∷ c ∷ rest) x y h =
    from_in (a ∷ b ∷ c ∷ rest) a c (is_pair a b x y || is_pair b c x y) rest x y (first_has a (b ∷ c ∷ rest)) (has_3 a b c rest)
    (λ v k. or_right (a == v) (has (b ∷ c ∷ rest) v) (or_right (b == v) (has (c ∷ rest) v) (or_right (c == v) (has rest v) k)))
    (λ k. elim (or_cases (is_pair a b x y) (is_pair b c x y) k) [
      | inl e ↦ pair_in (a ∷ b ∷ c ∷ rest) a b x y (first_has a (b ∷ c ∷ rest)) (has_2 a b (c ∷ rest)) e
      | inr e ↦ pair_in (a ∷ b ∷ c ∷ rest) b c x y (has_2 a b (c ∷ rest)) (has_3 a b c rest) e
    ]) h

-- ---- rings as cycles

-- a ring of three to five units is a cycle
pub ring_is_cycle : (g : Graph) (ring : List ℕ) → IsRing g ring → IsCycle g ring
ring_is_cycle g ring is = record { size = is.size.0; apart = is.apart; below = is.below; sides = is.sides }

-- rings that own their sides are cycles that own their sides
pub rings_are_cycles : (g : Graph) (rings : List (List ℕ)) → AreRings g rings → AreCycles g rings
rings_are_cycles g [] are = tt
rings_are_cycles g (ring ∷ later) are = (ring_is_cycle g ring are.0, are.1, rings_are_cycles g later are.2)
