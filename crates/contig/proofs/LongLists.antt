-- Tests of long rings, and lists of them.
use Rattle.std.proofs.Common.{◌≡◌, ℕ, zero, suc, ◌+◌, ◌-◌, ◌<◌, ◌≤◌, Bool, true, false, ◌||◌, List, [], ◌∷◌, length, get_or, take, drop, refl, sym, ap, ◌∙◌, subst, inl, inr, arith}
use Rattle.std.specs.Prelude.{◌≢◌, nat_lt}
use Rattle.std.specs.List.{list_all, list_any}
use Rattle.std.proofs.lemmas.Bool.{both_ways, cases_lt, cond-true, cond-false, false_from_ne_true, le-ltb, lt-ltb, or_cases, or_right}
use Rattle.std.proofs.lemmas.List.{drop_all, drop_more, get_or-drop, get_or-map, length-drop, take_all}
use Rattle.std.proofs.lemmas.List.Folds.{list_any_more}
use Rattle.audit_model.specs.Graph.{Graph, has}
use Rattle.audit_model.proofs.ListFacts.{at_has, other}
use Rattle.contig.specs.Faces.{AreCycles, IsCycle, OwnsSide, count_inner_faces, has_side, has_side_from, is_pair}
use Rattle.contig.specs.Listed.{side}
use Rattle.contig.specs.Cycles.{next_place}
use Rattle.contig.specs.Long.{units_of_all, units_on}
use Rattle.contig.specs.declared.long.LongRing.{LongRing}
use Rattle.contig.proofs.Listing.{pair_side}
use Rattle.contig.proofs.LongFaces.{side_places}
use Rattle.contig.proofs.Rings.{pair_same}

-- ---- sides by place

-- a side that was found before is one of the rest
found_before : (first last : ℕ) (rest : List ℕ) (x y : ℕ) → has_side_from first last true rest x y ≡ true
found_before first last [] x y = refl
found_before first last (next ∷ rest) x y = found_before first next rest x y

-- a unit and the next one are a side of the rest of a ring
next_from : (first last : ℕ) (found : Bool) (rest : List ℕ) (i : ℕ) → i < length rest
    → has_side_from first last found rest (get_or (last ∷ rest) i 0) (get_or rest i 0) ≡ true
next_from first last found [] i l = absurd (omega (arith, l))
next_from first last found (next ∷ rest) zero l =
    ap (λ b. has_side_from first next b rest last next) (or_right found (is_pair last next last next) (pair_same last next)) ∙ found_before first next rest last next
next_from first last found (next ∷ rest) (suc i) l = next_from first next (found || is_pair last next (get_or (next ∷ rest) i 0) (get_or rest i 0)) rest i (omega (arith, l))

-- the last unit and the first are a side of the rest of a ring
last_from : (first last : ℕ) (found : Bool) (rest : List ℕ) → has_side_from first last found rest (get_or (last ∷ rest) (length rest) 0) first ≡ true
last_from first last found [] = or_right found (is_pair last first last first) (pair_same last first)
last_from first last found (next ∷ rest) = last_from first next (found || is_pair last next (get_or (next ∷ rest) (length rest) 0) first) rest

-- a unit and the one at the place after it are a side of the ring
pub side_here : (ring : List ℕ) (i : ℕ) → 3 ≤ length ring → i < length ring → has_side ring (get_or ring i 0) (get_or ring (next_place (length ring) i) 0) ≡ true
side_here [] i size l = absurd (omega (arith, size))
side_here (a ∷ []) i size l = absurd (omega (arith, size))
side_here (a ∷ b ∷ []) i size l = absurd (omega (arith, size))
side_here (a ∷ b ∷ c ∷ rest) i size l = elim (cases_lt (i + 1) (length (a ∷ b ∷ c ∷ rest))) [
  | inl more ↦
      let after : suc i ≡ i + 1 = omega arith in
      subst (λ j. has_side_from a a false (b ∷ c ∷ rest) (get_or (a ∷ b ∷ c ∷ rest) i 0) (get_or (a ∷ b ∷ c ∷ rest) j 0) ≡ true)
      (sym (cond-true {A = ℕ} (nat_lt (i + 1) (length (a ∷ b ∷ c ∷ rest))) (i + 1) 0 (lt-ltb (i + 1) (length (a ∷ b ∷ c ∷ rest)) more)))
      (subst (λ j. has_side_from a a false (b ∷ c ∷ rest) (get_or (a ∷ b ∷ c ∷ rest) i 0) (get_or (a ∷ b ∷ c ∷ rest) j 0) ≡ true) after
      (next_from a a false (b ∷ c ∷ rest) i (omega (arith, more))))
  | inr most ↦
      subst (λ j. has_side_from a a false (b ∷ c ∷ rest) (get_or (a ∷ b ∷ c ∷ rest) i 0) (get_or (a ∷ b ∷ c ∷ rest) j 0) ≡ true)
      (sym (cond-false {A = ℕ} (nat_lt (i + 1) (length (a ∷ b ∷ c ∷ rest))) (i + 1) 0 (le-ltb (i + 1) (length (a ∷ b ∷ c ∷ rest)) most)))
      (let e : length (b ∷ c ∷ rest) ≡ i = omega (arith, l, most) in
      subst (λ j. has_side_from a a false (b ∷ c ∷ rest) (get_or (a ∷ b ∷ c ∷ rest) j 0) a ≡ true) e (last_from a a false (b ∷ c ∷ rest)))
]

-- a pair that is at no place is no side of the ring
pub no_side : (ring : List ℕ) (x y : ℕ) → ((i : ℕ) → i < length ring → is_pair (get_or ring i 0) (get_or ring (next_place (length ring) i) 0) x y ≡ false)
    → has_side ring x y ≡ false
no_side ring x y none = false_from_ne_true (has_side ring x y) (λ h.
    let at = side_places ring x y h in
    both_ways (is_pair (get_or ring at.0 0) (get_or ring (next_place (length ring) at.0) 0) x y) (none at.0 at.1) at.2)

-- a test that passes the side at each place passes each side of the ring
pub sides_pass : (test : ℕ × ℕ → Bool) (ring : List ℕ) → ((i : ℕ) → i < length ring → test (side (get_or ring i 0) (get_or ring (next_place (length ring) i) 0)) ≡ true)
    → (x y : ℕ) → has_side ring x y ≡ true → test (side x y) ≡ true
sides_pass test ring each x y h =
    let at = side_places ring x y h in
    subst (λ (q : ℕ × ℕ). test q ≡ true) (pair_side (get_or ring at.0 0) (get_or ring (next_place (length ring) at.0) 0) x y at.2) (each at.0 at.1)

-- ---- distinct units

-- a unit that is not among the later ones is none of them
pub apart_here : (ring later : List ℕ) (i j : ℕ) → i < j → j < length ring → later ≡ take (length ring - (i + 1)) (drop (i + 1) ring) → has later (get_or ring i 0) ≡ false
    → get_or ring i 0 ≢ get_or ring j 0
apart_here ring later i j l lj is new same =
    let rest = drop (i + 1) ring in
    let k = j - (i + 1) in
    let at : (i + 1) + k ≡ j = omega (arith, l) in
    let long = length-drop (i + 1) ring in
    let all : later ≡ rest = is ∙ take_all (length ring - (i + 1)) rest (omega (arith, long)) in
    let here : get_or rest k 0 ≡ get_or ring j 0 = get_or-drop (i + 1) ring k 0 ∙ ap (λ t. get_or ring t 0) at in
    other rest (get_or ring i 0) (get_or rest k 0) (subst (λ (r : List ℕ). has r (get_or ring i 0) ≡ false) all new) (at_has rest k (omega (arith, long, l, lj))) (same ∙ sym here)

-- ---- own sides

-- the first two units of a ring are its own side
pub owns_first : (ring : List ℕ) (later : List (List ℕ)) → 3 ≤ length ring → list_any (λ face. has_side face (get_or ring 0 0) (get_or ring 1 0)) later ≡ false → OwnsSide ring later
owns_first [] later size h = absurd (omega (arith, size))
owns_first (a ∷ []) later size h = absurd (omega (arith, size))
owns_first (a ∷ b ∷ rest) later size h = h

-- a test of some ring's units
pub any_ring : (test : List ℕ → Bool) (rings : List LongRing) → list_any test (units_of_all rings) ≡ list_any (λ (ring : LongRing). test (units_on ring)) rings
any_ring test [] = refl
any_ring test (ring ∷ rings) = ap (λ b. test (units_on ring) || b) (any_ring test rings)

-- a test that is false of all rings
pub none_of_all : (test : List ℕ → Bool) (rings : List LongRing) (k : ℕ) → length rings ≤ k → list_any (λ (ring : LongRing). test (units_on ring)) (take k rings) ≡ false
    → list_any test (units_of_all rings) ≡ false
none_of_all test rings k l h = any_ring test rings ∙ ap (list_any (λ (ring : LongRing). test (units_on ring))) (sym (take_all k rings l)) ∙ h

-- if one of the first rings passes a test, it is the last of them or one before
pub any_more : (test : List ℕ → Bool) (P : Type 0) (rings : List LongRing) (k : ℕ) (d : LongRing) → k < length rings
    → (list_any (λ (ring : LongRing). test (units_on ring)) (take k rings) ≡ true → P) → (test (units_on (get_or rings k d)) ≡ true → P)
    → list_any (λ (ring : LongRing). test (units_on ring)) (take (k + 1) rings) ≡ true → P
any_more test P rings k d l before here h =
    elim (or_cases (list_any (λ (ring : LongRing). test (units_on ring)) (take k rings)) (test (units_on (get_or rings k d)))
    (sym (list_any_more (λ (ring : LongRing). test (units_on ring)) rings k d l) ∙ h)) [ inl e ↦ before e | inr e ↦ here e ]

-- if one of all rings passes a test, so does one of the first as many
pub any_of_all : (test : List ℕ → Bool) (rings : List LongRing) (k : ℕ) → length rings ≤ k → list_any test (units_of_all rings) ≡ true
    → list_any (λ (ring : LongRing). test (units_on ring)) (take k rings) ≡ true
any_of_all test rings k l h = ap (list_any (λ (ring : LongRing). test (units_on ring))) (take_all k rings l) ∙ sym (any_ring test rings) ∙ h

-- ---- cycles of a list

-- each ring of a list of cycles is a cycle
pub cycle_at : (g : Graph) (rings : List LongRing) (k : ℕ) (d : LongRing) → k < length rings → AreCycles g (units_of_all rings) → IsCycle g (units_on (get_or rings k d))
cycle_at g [] k d l h = absurd (omega (arith, l))
cycle_at g (ring ∷ rings) zero d l h = h.0
cycle_at g (ring ∷ rings) (suc k) d l h = cycle_at g rings k d (omega (arith, l)) h.2

-- ---- counting

-- one more ring is counted if its units are in the set
pub inner_more : (inside : ℕ → Bool) (rings : List LongRing) (k : ℕ) (d : LongRing) (all count : ℕ) → k < length rings → list_all inside (units_on (get_or rings k d)) ≡ true
    → count + count_inner_faces inside (units_of_all (drop k rings)) ≡ all → (count + 1) + count_inner_faces inside (units_of_all (drop (k + 1) rings)) ≡ all
inner_more inside rings k d all count l here before =
    let step = ap (λ (rs : List LongRing). count_inner_faces inside (units_of_all rs)) (drop_more rings k d l) in
    let one = cond-true {A = ℕ} (list_all inside (units_on (get_or rings k d))) 1 0 here in
    omega (arith, step, one, before)

-- one more ring is not counted if one of its units is outside the set
pub outer_more : (inside : ℕ → Bool) (rings : List LongRing) (k : ℕ) (d : LongRing) (all count : ℕ) → k < length rings → list_all inside (units_on (get_or rings k d)) ≡ false
    → count + count_inner_faces inside (units_of_all (drop k rings)) ≡ all → count + count_inner_faces inside (units_of_all (drop (k + 1) rings)) ≡ all
outer_more inside rings k d all count l here before =
    let step = ap (λ (rs : List LongRing). count_inner_faces inside (units_of_all rs)) (drop_more rings k d l) in
    let none = cond-false {A = ℕ} (list_all inside (units_on (get_or rings k d))) 1 0 here in
    omega (arith, step, none, before)

-- ---- units by place

-- a property of all units of a ring holds at each place
pub below_at : (n : ℕ) (ring : List ℕ) → ((v : ℕ) → has ring v ≡ true → v < n) → (i : ℕ) → i < length ring → get_or ring i 0 < n
below_at n ring below i l = below (get_or ring i 0) (at_has ring i l)

-- the units of the ring at a place
pub units_at : (rings : List LongRing) (k : ℕ) (d : LongRing) (e : List ℕ) → k < length rings → get_or (units_of_all rings) k e ≡ units_on (get_or rings k d)
units_at rings k d e l = get_or-map units_on rings k d e l

-- there are as many lists of units as rings
pub rings_length : (rings : List LongRing) → length (units_of_all rings) ≡ length rings
rings_length [] = refl
rings_length (ring ∷ rings) = ap suc (rings_length rings)

-- at the end of the list, all inner rings are counted
pub counted_all : (inside : ℕ → Bool) (rings : List LongRing) (k all count : ℕ) → length rings ≤ k → count + count_inner_faces inside (units_of_all (drop k rings)) ≡ all → count ≡ all
counted_all inside rings k all count l h =
    let none = ap (λ (rs : List LongRing). count_inner_faces inside (units_of_all rs)) (drop_all k rings l) in
    omega (arith, none, h)

-- if two tests exclude each other on the rings before a place and on the one there, they do so on all of these
pub apart_more : (test other : List ℕ → Bool) (rings : List LongRing) (k : ℕ) (d : LongRing) → k < length rings
    → ((j : ℕ) (e : List ℕ) → j < k → test (get_or (units_of_all rings) j e) ≡ true → other (get_or (units_of_all rings) j e) ≡ false)
    → (test (units_on (get_or rings k d)) ≡ true → other (units_on (get_or rings k d)) ≡ false)
    → (j : ℕ) (e : List ℕ) → j < k + 1 → test (get_or (units_of_all rings) j e) ≡ true → other (get_or (units_of_all rings) j e) ≡ false
apart_more test other rings k d l before here j e lj h = elim (cases_lt j k) [
  | inl less ↦ before j e less h
  | inr most ↦
      let same : j ≡ k = omega (arith, lj, most) in
      let is : get_or (units_of_all rings) j e ≡ units_on (get_or rings k d) = ap (λ i. get_or (units_of_all rings) i e) same ∙ units_at rings k d e l in
      ap other is ∙ here (ap test (sym is) ∙ h)
]
