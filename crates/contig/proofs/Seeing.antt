-- The corners at a unit describe its faces.
use Rattle.std.proofs.Common.{◌≡◌, ℕ, ◌+◌, ◌<◌, ◌≤◌, Bool, true, false, cond, ◌&&◌, ◌||◌, List, [], ◌∷◌, ◌++◌, length, get_or, refl, sym, ap, ◌∙◌, subst, inl, inr, arith}
use Rattle.std.specs.Prelude.{◌==◌, ◌⊎◌, All, count_by}
use Rattle.std.specs.List.{list_all}
use Rattle.std.proofs.lemmas.Bool.{and_parts, and_from, or_cases, or_left, or_right, cases_Bool, cases_eq, eq-eqb, ne_eqb, eqb-true, cond-true, cond-false, false≢true, false_from_ne_true, both_ways}
use Rattle.std.proofs.lemmas.List.{append-nil, length_push, get_or_append_left, get_or_push}
use Rattle.std.proofs.lemmas.List.Elements.{All-push, All-weaker, All-nil}
use Rattle.std.proofs.lemmas.List.Sums.{sum_by-append, sum_by-cons}
use Rattle.audit_model.specs.Apart.{AllApart}
use Rattle.audit_model.specs.Graph.{Graph, has}
use Rattle.audit_model.proofs.ListFacts.{first_has, other, has_2, has_3, has_4}
use Rattle.audit_model.proofs.Bools.{in_1, in_4}
use Rattle.audit_model.proofs.Every.{each_from_all, all_from_each}
use Rattle.contig.specs.Faces.{is_pair, has_side, IsRing, AreRings, share_face, count_inner_faces_at}
use Rattle.contig.proofs.Rings.{pair_same, pair_turned, pair_is, side_in, by_five, five_1, five_5, unit_of_five, has_5}
use Rattle.contig.proofs.Around.{turn_three, turn_four, turn_five}
use Rattle.contig.specs.Corners.{with_corner, with_face, corners_at, is_filled}

-- ---- the corner of a ring

-- the corner of a ring at u
pub record IsCornerOf (ring : List ℕ) (u : ℕ) (t : ℕ × ℕ × ℕ × ℕ) : Type 0 where
  pub own : has ring u ≡ true
  pub one : has_side ring u t.0 ≡ true
  pub other : has_side ring u t.1 ≡ true
  pub units : (has ring t.0 ≡ true) × (has ring t.1 ≡ true) × (has ring t.2 ≡ true) × (has ring t.3 ≡ true)
  pub all : (v : ℕ) → has ring v ≡ true → (v ≡ u) ⊎ ((v ≡ t.0) ⊎ ((v ≡ t.1) ⊎ ((v ≡ t.2) ⊎ (v ≡ t.3))))
  pub ends : (x : ℕ) → has_side ring u x ≡ true → (x ≡ t.0) ⊎ (x ≡ t.1)
  pub off : (t.0 ≡ u → ⊥) × (t.1 ≡ u → ⊥) × (t.2 ≡ u → ⊥) × (t.3 ≡ u → ⊥)

-- a disjunction of three, rotated
round3 : (p q r : Bool) → (p || (q || (r || false))) ≡ true → (q || (r || (p || false))) ≡ true
round3 true true r h = refl
round3 true false true h = refl
round3 true false false h = refl
round3 false true r h = refl
round3 false false true h = refl
round3 false false false h = absurd (false≢true h)

-- a disjunction of four, rotated
round4 : (p q r s : Bool) → (p || (q || (r || (s || false)))) ≡ true → (q || (r || (s || (p || false)))) ≡ true
round4 true true r s h = refl
round4 true false true s h = refl
round4 true false false true h = refl
round4 true false false false h = refl
round4 false true r s h = refl
round4 false false true s h = refl
round4 false false false true h = refl
round4 false false false false h = absurd (false≢true h)

-- rotating a triangle keeps its units
has3 : (a b c v : ℕ) → has (a ∷ b ∷ c ∷ []) v ≡ true → has (b ∷ c ∷ a ∷ []) v ≡ true
has3 a b c v h = round3 (a == v) (b == v) (c == v) h

-- rotating a square keeps its units
has4 : (a b c d v : ℕ) → has (a ∷ b ∷ c ∷ d ∷ []) v ≡ true → has (b ∷ c ∷ d ∷ a ∷ []) v ≡ true
has4 a b c d v h = round4 (a == v) (b == v) (c == v) (d == v) h

-- rotating a triangle keeps its corners
pub turned3 : (a b c u : ℕ) (t : ℕ × ℕ × ℕ × ℕ) → IsCornerOf (b ∷ c ∷ a ∷ []) u t → IsCornerOf (a ∷ b ∷ c ∷ []) u t
turned3 a b c u t s = record {
  own = back u s.own;
  one = side t.0 s.one;
  other = side t.1 s.other;
  units = (back t.0 s.units.0, back t.1 s.units.1, back t.2 s.units.2, back t.3 s.units.3);
  all = λ v h. s.all v (has3 a b c v h);
  ends = λ x h. s.ends x (turn_three a b c u x h);
  off = s.off;
}
  where
    back : (v : ℕ) → has (b ∷ c ∷ a ∷ []) v ≡ true → has (a ∷ b ∷ c ∷ []) v ≡ true
    back v h = has3 c a b v (has3 b c a v h)

    side : (x : ℕ) → has_side (b ∷ c ∷ a ∷ []) u x ≡ true → has_side (a ∷ b ∷ c ∷ []) u x ≡ true
    side x h = turn_three c a b u x (turn_three b c a u x h)

-- rotating a square keeps its corners
turned4 : (a b c d u : ℕ) (t : ℕ × ℕ × ℕ × ℕ) → IsCornerOf (b ∷ c ∷ d ∷ a ∷ []) u t → IsCornerOf (a ∷ b ∷ c ∷ d ∷ []) u t
turned4 a b c d u t s = record {
  own = back u s.own;
  one = side t.0 s.one;
  other = side t.1 s.other;
  units = (back t.0 s.units.0, back t.1 s.units.1, back t.2 s.units.2, back t.3 s.units.3);
  all = λ v h. s.all v (has4 a b c d v h);
  ends = λ x h. s.ends x (turn_four a b c d u x h);
  off = s.off;
}
  where
    back : (v : ℕ) → has (b ∷ c ∷ d ∷ a ∷ []) v ≡ true → has (a ∷ b ∷ c ∷ d ∷ []) v ≡ true
    back v h = has4 d a b c v (has4 c d a b v (has4 b c d a v h))

    side : (x : ℕ) → has_side (b ∷ c ∷ d ∷ a ∷ []) u x ≡ true → has_side (a ∷ b ∷ c ∷ d ∷ []) u x ≡ true
    side x h = turn_four d a b c u x (turn_four c d a b u x (turn_four b c d a u x h))

-- rotating a pentagon keeps its units
has5 : (a b c d e v : ℕ) → has (a ∷ b ∷ c ∷ d ∷ e ∷ []) v ≡ true → has (b ∷ c ∷ d ∷ e ∷ a ∷ []) v ≡ true
has5 a b c d e v h = unit_of_five (has (b ∷ c ∷ d ∷ e ∷ a ∷ []) v ≡ true) a b c d e v
    (λ k. subst (λ t. has (b ∷ c ∷ d ∷ e ∷ a ∷ []) t ≡ true) k (has_5 b c d e a []))
    (λ k. subst (λ t. has (b ∷ c ∷ d ∷ e ∷ a ∷ []) t ≡ true) k (first_has b (c ∷ d ∷ e ∷ a ∷ [])))
    (λ k. subst (λ t. has (b ∷ c ∷ d ∷ e ∷ a ∷ []) t ≡ true) k (has_2 b c (d ∷ e ∷ a ∷ [])))
    (λ k. subst (λ t. has (b ∷ c ∷ d ∷ e ∷ a ∷ []) t ≡ true) k (has_3 b c d (e ∷ a ∷ [])))
    (λ k. subst (λ t. has (b ∷ c ∷ d ∷ e ∷ a ∷ []) t ≡ true) k (has_4 b c d e (a ∷ [])))
    h

-- rotating a pentagon keeps its corners
turned5 : (a b c d e u : ℕ) (t : ℕ × ℕ × ℕ × ℕ) → IsCornerOf (b ∷ c ∷ d ∷ e ∷ a ∷ []) u t → IsCornerOf (a ∷ b ∷ c ∷ d ∷ e ∷ []) u t
turned5 a b c d e u t s = record {
  own = back u s.own;
  one = side t.0 s.one;
  other = side t.1 s.other;
  units = (back t.0 s.units.0, back t.1 s.units.1, back t.2 s.units.2, back t.3 s.units.3);
  all = λ v h. s.all v (has5 a b c d e v h);
  ends = λ x h. s.ends x (turn_five a b c d e u x h);
  off = s.off;
}
  where
    back : (v : ℕ) → has (b ∷ c ∷ d ∷ e ∷ a ∷ []) v ≡ true → has (a ∷ b ∷ c ∷ d ∷ e ∷ []) v ≡ true
    back v h = has5 e a b c d v (has5 d e a b c v (has5 c d e a b v (has5 b c d e a v h)))

    side : (x : ℕ) → has_side (b ∷ c ∷ d ∷ e ∷ a ∷ []) u x ≡ true → has_side (a ∷ b ∷ c ∷ d ∷ e ∷ []) u x ≡ true
    side x h = turn_five e a b c d u x (turn_five d e a b c u x (turn_five c d e a b u x (turn_five b c d e a u x h)))

-- the corner of a triangle at its first unit
pub first3 : (a b c : ℕ) → (a ≡ b → ⊥) → (a ≡ c → ⊥) → IsCornerOf (a ∷ b ∷ c ∷ []) a (b, c, c, c)
first3 a b c ab ac = record {
  own = first_has a (b ∷ c ∷ []);
  one = or_left (is_pair a b a b || is_pair b c a b) (is_pair c a a b) (or_left (is_pair a b a b) (is_pair b c a b) (pair_same a b));
  other = or_right (is_pair a b a c || is_pair b c a c) (is_pair c a a c) (pair_turned c a c a (pair_same c a));
  units = (has_2 a b (c ∷ []), has_3 a b c [], has_3 a b c [], has_3 a b c []);
  all = λ v h. elim (or_cases (a == v) ((b == v) || ((c == v) || false)) h) [
    | inl e ↦ inl (sym (eqb-true a v e))
    | inr f ↦ elim (or_cases (b == v) ((c == v) || false) f) [
      | inl e ↦ inr (inl (sym (eqb-true b v e)))
      | inr k ↦ elim (or_cases (c == v) false k) [ inl e ↦ inr (inr (inl (sym (eqb-true c v e)))) | inr n ↦ absurd (false≢true n) ]
    ]
  ];
  ends = λ x h. elim (or_cases (is_pair a b a x || is_pair b c a x) (is_pair c a a x) h) [
    | inl f ↦ elim (or_cases (is_pair a b a x) (is_pair b c a x) f) [
      | inl p ↦ elim (pair_is a b a x p) [ inl e ↦ inl (sym e.1) | inr e ↦ absurd (ab (sym e.1)) ]
      | inr p ↦ elim (pair_is b c a x p) [ inl e ↦ absurd (ab (sym e.0)) | inr e ↦ absurd (ac (sym e.1)) ]
    ]
    | inr p ↦ elim (pair_is c a a x p) [ inl e ↦ absurd (ac (sym e.0)) | inr e ↦ inr (sym e.0) ]
  ];
  off = (λ e. ab (sym e), λ e. ac (sym e), λ e. ac (sym e), λ e. ac (sym e));
}

-- the corner of a square at its first unit
first4 : (a b c d : ℕ) → (a ≡ b → ⊥) → (a ≡ c → ⊥) → (a ≡ d → ⊥) → IsCornerOf (a ∷ b ∷ c ∷ d ∷ []) a (b, d, c, c)
first4 a b c d ab ac ad = record {
  own = first_has a (b ∷ c ∷ d ∷ []);
  one = in_1 (is_pair a b a b) (is_pair b c a b) (is_pair c d a b) (is_pair d a a b) (pair_same a b);
  other = in_4 (is_pair a b a d) (is_pair b c a d) (is_pair c d a d) (is_pair d a a d) (pair_turned d a d a (pair_same d a));
  units = (has_2 a b (c ∷ d ∷ []), has_4 a b c d [], has_3 a b c (d ∷ []), has_3 a b c (d ∷ []));
  all = λ v h. elim (or_cases (a == v) ((b == v) || ((c == v) || ((d == v) || false))) h) [
    | inl e ↦ inl (sym (eqb-true a v e))
    | inr f ↦ elim (or_cases (b == v) ((c == v) || ((d == v) || false)) f) [
      | inl e ↦ inr (inl (sym (eqb-true b v e)))
      | inr k ↦ elim (or_cases (c == v) ((d == v) || false) k) [
        | inl e ↦ inr (inr (inr (inl (sym (eqb-true c v e)))))
        | inr n ↦ elim (or_cases (d == v) false n) [ inl e ↦ inr (inr (inl (sym (eqb-true d v e)))) | inr z ↦ absurd (false≢true z) ]
      ]
    ]
  ];
  ends = λ x h. elim (or_cases (is_pair a b a x || is_pair b c a x || is_pair c d a x) (is_pair d a a x) h) [
    | inl f ↦ elim (or_cases (is_pair a b a x || is_pair b c a x) (is_pair c d a x) f) [
      | inl k ↦ elim (or_cases (is_pair a b a x) (is_pair b c a x) k) [
        | inl p ↦ elim (pair_is a b a x p) [ inl e ↦ inl (sym e.1) | inr e ↦ absurd (ab (sym e.1)) ]
        | inr p ↦ elim (pair_is b c a x p) [ inl e ↦ absurd (ab (sym e.0)) | inr e ↦ absurd (ac (sym e.1)) ]
      ]
      | inr p ↦ elim (pair_is c d a x p) [ inl e ↦ absurd (ac (sym e.0)) | inr e ↦ absurd (ad (sym e.1)) ]
    ]
    | inr p ↦ elim (pair_is d a a x p) [ inl e ↦ absurd (ad (sym e.0)) | inr e ↦ inr (sym e.0) ]
  ];
  off = (λ e. ab (sym e), λ e. ad (sym e), λ e. ac (sym e), λ e. ac (sym e));
}

-- the corner of a pentagon at its first unit
first5 : (a b c d e : ℕ) → (a ≡ b → ⊥) → (a ≡ c → ⊥) → (a ≡ d → ⊥) → (a ≡ e → ⊥) → IsCornerOf (a ∷ b ∷ c ∷ d ∷ e ∷ []) a (b, e, c, d)
first5 a b c d e ab ac ad ae = record {
  own = first_has a (b ∷ c ∷ d ∷ e ∷ []);
  one = five_1 (is_pair a b a b) (is_pair b c a b) (is_pair c d a b) (is_pair d e a b) (is_pair e a a b) (pair_same a b);
  other = five_5 (is_pair a b a e) (is_pair b c a e) (is_pair c d a e) (is_pair d e a e) (is_pair e a a e) (pair_turned e a e a (pair_same e a));
  units = (has_2 a b (c ∷ d ∷ e ∷ []), has_5 a b c d e [], has_3 a b c (d ∷ e ∷ []), has_4 a b c d (e ∷ []));
  all = λ v h. unit_of_five ((v ≡ a) ⊎ ((v ≡ b) ⊎ ((v ≡ e) ⊎ ((v ≡ c) ⊎ (v ≡ d))))) a b c d e v
      (λ k. inl (sym k)) (λ k. inr (inl (sym k))) (λ k. inr (inr (inr (inl (sym k))))) (λ k. inr (inr (inr (inr (sym k))))) (λ k. inr (inr (inl (sym k)))) h;
  ends = λ x h. by_five ((x ≡ b) ⊎ (x ≡ e)) (is_pair a b a x) (is_pair b c a x) (is_pair c d a x) (is_pair d e a x) (is_pair e a a x)
      (λ k. elim (pair_is a b a x k) [ inl m ↦ inl (sym m.1) | inr m ↦ absurd (ab (sym m.1)) ])
      (λ k. elim (pair_is b c a x k) [ inl m ↦ absurd (ab (sym m.0)) | inr m ↦ absurd (ac (sym m.1)) ])
      (λ k. elim (pair_is c d a x k) [ inl m ↦ absurd (ac (sym m.0)) | inr m ↦ absurd (ad (sym m.1)) ])
      (λ k. elim (pair_is d e a x k) [ inl m ↦ absurd (ad (sym m.0)) | inr m ↦ absurd (ae (sym m.1)) ])
      (λ k. elim (pair_is e a a x k) [ inl m ↦ absurd (ae (sym m.0)) | inr m ↦ inr (sym m.0) ])
      h;
  off = (λ k. ab (sym k), λ k. ae (sym k), λ k. ac (sym k), λ k. ad (sym k));
}

-- ---- one more face

-- a corner at the unit is appended
pub with_here : (u v : ℕ) (cs : List (ℕ × ℕ × ℕ × ℕ)) (t : ℕ × ℕ × ℕ × ℕ) → v ≡ u → with_corner u cs v t ≡ cs ++ t ∷ []
with_here u v cs t e = ap (λ (xs : List (ℕ × ℕ × ℕ × ℕ)). cs ++ xs) (cond-true {A = List (ℕ × ℕ × ℕ × ℕ)} (v == u) (t ∷ []) [] (eq-eqb v u e))

-- a corner at another unit changes nothing
pub with_off : (u v : ℕ) (cs : List (ℕ × ℕ × ℕ × ℕ)) (t : ℕ × ℕ × ℕ × ℕ) → (v ≡ u → ⊥) → with_corner u cs v t ≡ cs
with_off u v cs t off = ap (λ (xs : List (ℕ × ℕ × ℕ × ℕ)). cs ++ xs) (cond-false {A = List (ℕ × ℕ × ℕ × ℕ)} (v == u) (t ∷ []) [] (ne_eqb v u off)) ∙ append-nil cs

-- a face has one corner at u, or does not have u
abbrev Seen : ℕ → List (ℕ × ℕ × ℕ × ℕ) → List ℕ → Type 0
Seen u cs ring = ((with_face u cs ring ≡ cs) × (has ring u ≡ false)) ⊎ ((t : ℕ × ℕ × ℕ × ℕ) × (with_face u cs ring ≡ cs ++ t ∷ []) × IsCornerOf ring u t)

abbrev one3 : ℕ → List (ℕ × ℕ × ℕ × ℕ) → ℕ → ℕ → ℕ → List (ℕ × ℕ × ℕ × ℕ)
one3 u cs a b c = with_corner u cs a (b, c, c, c)

abbrev two3 : ℕ → List (ℕ × ℕ × ℕ × ℕ) → ℕ → ℕ → ℕ → List (ℕ × ℕ × ℕ × ℕ)
two3 u cs a b c = with_corner u (with_corner u cs a (b, c, c, c)) b (c, a, a, a)

abbrev one : ℕ → List (ℕ × ℕ × ℕ × ℕ) → ℕ → ℕ → ℕ → ℕ → List (ℕ × ℕ × ℕ × ℕ)
one u cs a b c d = with_corner u cs a (b, d, c, c)

abbrev two : ℕ → List (ℕ × ℕ × ℕ × ℕ) → ℕ → ℕ → ℕ → ℕ → List (ℕ × ℕ × ℕ × ℕ)
two u cs a b c d = with_corner u (with_corner u cs a (b, d, c, c)) b (c, a, d, d)

abbrev three : ℕ → List (ℕ × ℕ × ℕ × ℕ) → ℕ → ℕ → ℕ → ℕ → List (ℕ × ℕ × ℕ × ℕ)
three u cs a b c d = with_corner u (with_corner u (with_corner u cs a (b, d, c, c)) b (c, a, d, d)) c (d, b, a, a)

-- a triangle has one corner at each of its units, and none elsewhere
seen3 : (u : ℕ) (cs : List (ℕ × ℕ × ℕ × ℕ)) (a b c : ℕ) → (a ≡ b → ⊥) → (a ≡ c → ⊥) → (b ≡ c → ⊥) → Seen u cs (a ∷ b ∷ c ∷ [])
seen3 u cs a b c ab ac bc = elim (cases_eq a u) [
  | inl e ↦ inr (
    (b, c, c, c),
    with_off u c (two3 u cs a b c) (a, b, b, b) (λ f. ac (e ∙ sym f)) ∙ with_off u b (one3 u cs a b c) (c, a, a, a) (λ f. ab (e ∙ sym f)) ∙ with_here u a cs (b, c, c, c) e,
    subst (λ k. IsCornerOf (a ∷ b ∷ c ∷ []) k (b, c, c, c)) e (first3 a b c ab ac),
  )
  | inr oa ↦ elim (cases_eq b u) [
    | inl e ↦ inr (
      (c, a, a, a),
      with_off u c (two3 u cs a b c) (a, b, b, b) (λ f. bc (e ∙ sym f)) ∙ with_here u b (one3 u cs a b c) (c, a, a, a) e ∙ ap (λ (xs : List (ℕ × ℕ × ℕ × ℕ)). xs ++ (c, a, a, a) ∷ []) (with_off u a cs (b, c, c, c) oa),
      subst (λ k. IsCornerOf (a ∷ b ∷ c ∷ []) k (c, a, a, a)) e (turned3 a b c b (c, a, a, a) (first3 b c a bc (λ f. ab (sym f)))),
    )
    | inr ob ↦ elim (cases_eq c u) [
      | inl e ↦ inr (
        (a, b, b, b),
        with_here u c (two3 u cs a b c) (a, b, b, b) e ∙ ap (λ (xs : List (ℕ × ℕ × ℕ × ℕ)). xs ++ (a, b, b, b) ∷ []) (with_off u b (one3 u cs a b c) (c, a, a, a) ob ∙ with_off u a cs (b, c, c, c) oa),
        subst (λ k. IsCornerOf (a ∷ b ∷ c ∷ []) k (a, b, b, b)) e
            (turned3 a b c c (a, b, b, b) (turned3 b c a c (a, b, b, b) (first3 c a b (λ f. ac (sym f)) (λ f. bc (sym f))))),
      )
      | inr oc ↦ inl (
        with_off u c (two3 u cs a b c) (a, b, b, b) oc ∙ with_off u b (one3 u cs a b c) (c, a, a, a) ob ∙ with_off u a cs (b, c, c, c) oa,
        false_from_ne_true (has (a ∷ b ∷ c ∷ []) u) (λ h. elim (or_cases (a == u) ((b == u) || ((c == u) || false)) h) [
          | inl f ↦ oa (eqb-true a u f)
          | inr k ↦ elim (or_cases (b == u) ((c == u) || false) k) [
            | inl f ↦ ob (eqb-true b u f)
            | inr n ↦ elim (or_cases (c == u) false n) [ inl f ↦ oc (eqb-true c u f) | inr z ↦ false≢true z ]
          ]
        ]),
      )
    ]
  ]
]

-- a square has one corner at each of its units, and none elsewhere
seen4 : (u : ℕ) (cs : List (ℕ × ℕ × ℕ × ℕ)) (a b c d : ℕ) → (a ≡ b → ⊥) → (a ≡ c → ⊥) → (a ≡ d → ⊥) → (b ≡ c → ⊥) → (b ≡ d → ⊥) → (c ≡ d → ⊥)
    → Seen u cs (a ∷ b ∷ c ∷ d ∷ [])
seen4 u cs a b c d ab ac ad bc bd cd = elim (cases_eq a u) [
  | inl e ↦ inr (
    (b, d, c, c),
    with_off u d (three u cs a b c d) (a, c, b, b) (λ f. ad (e ∙ sym f)) ∙ with_off u c (two u cs a b c d) (d, b, a, a) (λ f. ac (e ∙ sym f))
        ∙ with_off u b (one u cs a b c d) (c, a, d, d) (λ f. ab (e ∙ sym f)) ∙ with_here u a cs (b, d, c, c) e,
    subst (λ k. IsCornerOf (a ∷ b ∷ c ∷ d ∷ []) k (b, d, c, c)) e (first4 a b c d ab ac ad),
  )
  | inr oa ↦ elim (cases_eq b u) [
    | inl e ↦ inr (
      (c, a, d, d),
      with_off u d (three u cs a b c d) (a, c, b, b) (λ f. bd (e ∙ sym f)) ∙ with_off u c (two u cs a b c d) (d, b, a, a) (λ f. bc (e ∙ sym f))
          ∙ with_here u b (one u cs a b c d) (c, a, d, d) e ∙ ap (λ (xs : List (ℕ × ℕ × ℕ × ℕ)). xs ++ (c, a, d, d) ∷ []) (with_off u a cs (b, d, c, c) oa),
      subst (λ k. IsCornerOf (a ∷ b ∷ c ∷ d ∷ []) k (c, a, d, d)) e
          (turned4 a b c d b (c, a, d, d) (first4 b c d a bc bd (λ f. ab (sym f)))),
    )
    | inr ob ↦ elim (cases_eq c u) [
      | inl e ↦ inr (
        (d, b, a, a),
        with_off u d (three u cs a b c d) (a, c, b, b) (λ f. cd (e ∙ sym f)) ∙ with_here u c (two u cs a b c d) (d, b, a, a) e
            ∙ ap (λ (xs : List (ℕ × ℕ × ℕ × ℕ)). xs ++ (d, b, a, a) ∷ []) (with_off u b (one u cs a b c d) (c, a, d, d) ob ∙ with_off u a cs (b, d, c, c) oa),
        subst (λ k. IsCornerOf (a ∷ b ∷ c ∷ d ∷ []) k (d, b, a, a)) e
            (turned4 a b c d c (d, b, a, a) (turned4 b c d a c (d, b, a, a) (first4 c d a b cd (λ f. ac (sym f)) (λ f. bc (sym f))))),
      )
      | inr oc ↦ elim (cases_eq d u) [
        | inl e ↦ inr (
          (a, c, b, b),
          with_here u d (three u cs a b c d) (a, c, b, b) e
              ∙ ap (λ (xs : List (ℕ × ℕ × ℕ × ℕ)). xs ++ (a, c, b, b) ∷ [])
              (with_off u c (two u cs a b c d) (d, b, a, a) oc ∙ with_off u b (one u cs a b c d) (c, a, d, d) ob ∙ with_off u a cs (b, d, c, c) oa),
          subst (λ k. IsCornerOf (a ∷ b ∷ c ∷ d ∷ []) k (a, c, b, b)) e
              (turned4 a b c d d (a, c, b, b) (turned4 b c d a d (a, c, b, b) (turned4 c d a b d (a, c, b, b)
              (first4 d a b c (λ f. ad (sym f)) (λ f. bd (sym f)) (λ f. cd (sym f)))))),
        )
        | inr od ↦ inl (
          with_off u d (three u cs a b c d) (a, c, b, b) od ∙ with_off u c (two u cs a b c d) (d, b, a, a) oc
              ∙ with_off u b (one u cs a b c d) (c, a, d, d) ob ∙ with_off u a cs (b, d, c, c) oa,
          false_from_ne_true (has (a ∷ b ∷ c ∷ d ∷ []) u) (λ h. elim (or_cases (a == u) ((b == u) || ((c == u) || ((d == u) || false))) h) [
            | inl f ↦ oa (eqb-true a u f)
            | inr k ↦ elim (or_cases (b == u) ((c == u) || ((d == u) || false)) k) [
              | inl f ↦ ob (eqb-true b u f)
              | inr n ↦ elim (or_cases (c == u) ((d == u) || false) n) [
                | inl f ↦ oc (eqb-true c u f)
                | inr m ↦ elim (or_cases (d == u) false m) [ inl f ↦ od (eqb-true d u f) | inr z ↦ false≢true z ]
              ]
            ]
          ]),
        )
      ]
    ]
  ]
]

abbrev five_a : ℕ → List (ℕ × ℕ × ℕ × ℕ) → ℕ → ℕ → ℕ → ℕ → ℕ → List (ℕ × ℕ × ℕ × ℕ)
five_a u cs a b c d e = with_corner u cs a (b, e, c, d)

abbrev five_b : ℕ → List (ℕ × ℕ × ℕ × ℕ) → ℕ → ℕ → ℕ → ℕ → ℕ → List (ℕ × ℕ × ℕ × ℕ)
five_b u cs a b c d e = with_corner u (with_corner u cs a (b, e, c, d)) b (c, a, d, e)

abbrev five_c : ℕ → List (ℕ × ℕ × ℕ × ℕ) → ℕ → ℕ → ℕ → ℕ → ℕ → List (ℕ × ℕ × ℕ × ℕ)
five_c u cs a b c d e = with_corner u (with_corner u (with_corner u cs a (b, e, c, d)) b (c, a, d, e)) c (d, b, e, a)

abbrev five_d : ℕ → List (ℕ × ℕ × ℕ × ℕ) → ℕ → ℕ → ℕ → ℕ → ℕ → List (ℕ × ℕ × ℕ × ℕ)
five_d u cs a b c d e = with_corner u (with_corner u (with_corner u (with_corner u cs a (b, e, c, d)) b (c, a, d, e)) c (d, b, e, a)) d (e, c, a, b)

-- a pentagon has one corner at each of its units, and none elsewhere
seen5 : (u : ℕ) (cs : List (ℕ × ℕ × ℕ × ℕ)) (a b c d e : ℕ) → (a ≡ b → ⊥) → (a ≡ c → ⊥) → (a ≡ d → ⊥) → (a ≡ e → ⊥) → (b ≡ c → ⊥) → (b ≡ d → ⊥) → (b ≡ e → ⊥) → (c ≡ d → ⊥) → (c ≡ e → ⊥) → (d ≡ e → ⊥)
    → Seen u cs (a ∷ b ∷ c ∷ d ∷ e ∷ [])
seen5 u cs a b c d e ab ac ad ae bc bd be cd ce de = elim (cases_eq a u) [
  | inl h ↦ inr (
    (b, e, c, d),
    with_off u e (five_d u cs a b c d e) (a, d, b, c) (λ f. ae (h ∙ sym f)) ∙ with_off u d (five_c u cs a b c d e) (e, c, a, b) (λ f. ad (h ∙ sym f)) ∙ with_off u c (five_b u cs a b c d e) (d, b, e, a) (λ f. ac (h ∙ sym f)) ∙ with_off u b (five_a u cs a b c d e) (c, a, d, e) (λ f. ab (h ∙ sym f))
        ∙ with_here u a cs (b, e, c, d) h,
    subst (λ k. IsCornerOf (a ∷ b ∷ c ∷ d ∷ e ∷ []) k (b, e, c, d)) h (first5 a b c d e ab ac ad ae),
  )
  | inr oa ↦ elim (cases_eq b u) [
    | inl h ↦ inr (
      (c, a, d, e),
      with_off u e (five_d u cs a b c d e) (a, d, b, c) (λ f. be (h ∙ sym f)) ∙ with_off u d (five_c u cs a b c d e) (e, c, a, b) (λ f. bd (h ∙ sym f)) ∙ with_off u c (five_b u cs a b c d e) (d, b, e, a) (λ f. bc (h ∙ sym f))
          ∙ with_here u b (five_a u cs a b c d e) (c, a, d, e) h
          ∙ ap (λ (xs : List (ℕ × ℕ × ℕ × ℕ)). xs ++ (c, a, d, e) ∷ []) (with_off u a cs (b, e, c, d) oa),
      subst (λ k. IsCornerOf (a ∷ b ∷ c ∷ d ∷ e ∷ []) k (c, a, d, e)) h (turned5 a b c d e b (c, a, d, e) (first5 b c d e a bc bd be (λ f. ab (sym f)))),
    )
    | inr ob ↦ elim (cases_eq c u) [
      | inl h ↦ inr (
        (d, b, e, a),
        with_off u e (five_d u cs a b c d e) (a, d, b, c) (λ f. ce (h ∙ sym f)) ∙ with_off u d (five_c u cs a b c d e) (e, c, a, b) (λ f. cd (h ∙ sym f))
            ∙ with_here u c (five_b u cs a b c d e) (d, b, e, a) h
            ∙ ap (λ (xs : List (ℕ × ℕ × ℕ × ℕ)). xs ++ (d, b, e, a) ∷ []) (with_off u b (five_a u cs a b c d e) (c, a, d, e) ob ∙ with_off u a cs (b, e, c, d) oa),
        subst (λ k. IsCornerOf (a ∷ b ∷ c ∷ d ∷ e ∷ []) k (d, b, e, a)) h (turned5 a b c d e c (d, b, e, a) (turned5 b c d e a c (d, b, e, a) (first5 c d e a b cd ce (λ f. ac (sym f)) (λ f. bc (sym f))))),
      )
      | inr oc ↦ elim (cases_eq d u) [
        | inl h ↦ inr (
          (e, c, a, b),
          with_off u e (five_d u cs a b c d e) (a, d, b, c) (λ f. de (h ∙ sym f))
              ∙ with_here u d (five_c u cs a b c d e) (e, c, a, b) h
              ∙ ap (λ (xs : List (ℕ × ℕ × ℕ × ℕ)). xs ++ (e, c, a, b) ∷ []) (with_off u c (five_b u cs a b c d e) (d, b, e, a) oc ∙ with_off u b (five_a u cs a b c d e) (c, a, d, e) ob ∙ with_off u a cs (b, e, c, d) oa),
          subst (λ k. IsCornerOf (a ∷ b ∷ c ∷ d ∷ e ∷ []) k (e, c, a, b)) h (turned5 a b c d e d (e, c, a, b) (turned5 b c d e a d (e, c, a, b) (turned5 c d e a b d (e, c, a, b) (first5 d e a b c de (λ f. ad (sym f)) (λ f. bd (sym f)) (λ f. cd (sym f)))))),
        )
        | inr od ↦ elim (cases_eq e u) [
          | inl h ↦ inr (
            (a, d, b, c),
            with_here u e (five_d u cs a b c d e) (a, d, b, c) h
                ∙ ap (λ (xs : List (ℕ × ℕ × ℕ × ℕ)). xs ++ (a, d, b, c) ∷ []) (with_off u d (five_c u cs a b c d e) (e, c, a, b) od ∙ with_off u c (five_b u cs a b c d e) (d, b, e, a) oc ∙ with_off u b (five_a u cs a b c d e) (c, a, d, e) ob ∙ with_off u a cs (b, e, c, d) oa),
            subst (λ k. IsCornerOf (a ∷ b ∷ c ∷ d ∷ e ∷ []) k (a, d, b, c)) h (turned5 a b c d e e (a, d, b, c) (turned5 b c d e a e (a, d, b, c) (turned5 c d e a b e (a, d, b, c) (turned5 d e a b c e (a, d, b, c) (first5 e a b c d (λ f. ae (sym f)) (λ f. be (sym f)) (λ f. ce (sym f)) (λ f. de (sym f))))))),
          )
          | inr oe ↦ inl (
            with_off u e (five_d u cs a b c d e) (a, d, b, c) oe ∙ with_off u d (five_c u cs a b c d e) (e, c, a, b) od ∙ with_off u c (five_b u cs a b c d e) (d, b, e, a) oc ∙ with_off u b (five_a u cs a b c d e) (c, a, d, e) ob ∙ with_off u a cs (b, e, c, d) oa,
            false_from_ne_true (has (a ∷ b ∷ c ∷ d ∷ e ∷ []) u) (λ h. unit_of_five ⊥ a b c d e u oa ob oc od oe h),
          )
        ]
      ]
    ]
  ]
]

-- a ring has one corner at each of its units, and none elsewhere
seen : (g : Graph) (u : ℕ) (cs : List (ℕ × ℕ × ℕ × ℕ)) (ring : List ℕ) → IsRing g ring → Seen u cs ring
seen g u cs ring is = by_size ring is.size is.apart
  where
    by_size : (ring : List ℕ) → (3 ≤ length ring) × (length ring ≤ 5) → AllApart ring → Seen u cs ring
    by_size [] size apart = absurd (omega (arith, size.0))
    by_size (a ∷ []) size apart = absurd (omega (arith, size.0))
    by_size (a ∷ b ∷ []) size apart = absurd (omega (arith, size.0))
    by_size (a ∷ b ∷ c ∷ []) size apart =
        seen3 u cs a b c (λ e. other (b ∷ c ∷ []) a b apart.0 (first_has b (c ∷ [])) e) (λ e. other (b ∷ c ∷ []) a c apart.0 (has_2 b c []) e)
        (λ e. other (c ∷ []) b c apart.1.0 (first_has c []) e)
    by_size (a ∷ b ∷ c ∷ d ∷ []) size apart =
        seen4 u cs a b c d (λ e. other (b ∷ c ∷ d ∷ []) a b apart.0 (first_has b (c ∷ d ∷ [])) e) (λ e. other (b ∷ c ∷ d ∷ []) a c apart.0 (has_2 b c (d ∷ [])) e)
        (λ e. other (b ∷ c ∷ d ∷ []) a d apart.0 (has_3 b c d []) e) (λ e. other (c ∷ d ∷ []) b c apart.1.0 (first_has c (d ∷ [])) e)
        (λ e. other (c ∷ d ∷ []) b d apart.1.0 (has_2 c d []) e) (λ e. other (d ∷ []) c d apart.1.1.0 (first_has d []) e)
    by_size (a ∷ b ∷ c ∷ d ∷ e ∷ []) size apart =
        seen5 u cs a b c d e (λ h. other (b ∷ c ∷ d ∷ e ∷ []) a b apart.0 (first_has b (c ∷ d ∷ e ∷ [])) h)
        (λ h. other (b ∷ c ∷ d ∷ e ∷ []) a c apart.0 (has_2 b c (d ∷ e ∷ [])) h)
        (λ h. other (b ∷ c ∷ d ∷ e ∷ []) a d apart.0 (has_3 b c d (e ∷ [])) h)
        (λ h. other (b ∷ c ∷ d ∷ e ∷ []) a e apart.0 (has_4 b c d e []) h)
        (λ h. other (c ∷ d ∷ e ∷ []) b c apart.1.0 (first_has c (d ∷ e ∷ [])) h)
        (λ h. other (c ∷ d ∷ e ∷ []) b d apart.1.0 (has_2 c d (e ∷ [])) h)
        (λ h. other (c ∷ d ∷ e ∷ []) b e apart.1.0 (has_3 c d e []) h)
        (λ h. other (d ∷ e ∷ []) c d apart.1.1.0 (first_has d (e ∷ [])) h)
        (λ h. other (d ∷ e ∷ []) c e apart.1.1.0 (has_2 d e []) h)
        (λ h. other (e ∷ []) d e apart.1.1.1.0 (first_has e []) h)
    by_size (a ∷ b ∷ c ∷ d ∷ e ∷ f ∷ rest) size apart = absurd (omega (arith, size.1))

-- ---- all faces

module _ (inside : ℕ → Bool) (u : ℕ) (in_set : inside u ≡ true) where
  -- a face is inside if the units of its corner are
  filled_face : (ring : List ℕ) (t : ℕ × ℕ × ℕ × ℕ) → IsCornerOf ring u t → is_filled inside t ≡ true → list_all inside ring ≡ true
  filled_face ring t s h =
      let first = and_parts (inside t.0) (inside t.1 && (inside t.2 && inside t.3)) h in
      let rest = and_parts (inside t.1) (inside t.2 && inside t.3) first.1 in
      let last = and_parts (inside t.2) (inside t.3) rest.1 in
      all_from_each inside ring (λ v m. elim (s.all v m) [
        | inl e ↦ subst (λ k. inside k ≡ true) (sym e) in_set
        | inr k ↦ elim k [
          | inl e ↦ subst (λ k. inside k ≡ true) (sym e) first.0
          | inr n ↦ elim n [
            | inl e ↦ subst (λ k. inside k ≡ true) (sym e) rest.0
            | inr m ↦ elim m [
              | inl e ↦ subst (λ k. inside k ≡ true) (sym e) last.0
              | inr e ↦ subst (λ k. inside k ≡ true) (sym e) last.1
            ]
          ]
        ]
      ])

  face_filled : (ring : List ℕ) (t : ℕ × ℕ × ℕ × ℕ) → IsCornerOf ring u t → list_all inside ring ≡ true → is_filled inside t ≡ true
  face_filled ring t s h =
      and_from (inside t.0) (inside t.1 && (inside t.2 && inside t.3)) (each_from_all inside ring t.0 h s.units.0)
      (and_from (inside t.1) (inside t.2 && inside t.3) (each_from_all inside ring t.1 h s.units.1)
      (and_from (inside t.2) (inside t.3) (each_from_all inside ring t.2 h s.units.2) (each_from_all inside ring t.3 h s.units.3)))

  same_filled : (ring : List ℕ) (t : ℕ × ℕ × ℕ × ℕ) → IsCornerOf ring u t → list_all inside ring ≡ is_filled inside t
  same_filled ring t s = elim (cases_Bool (list_all inside ring)) [
    | inl e ↦ e ∙ sym (face_filled ring t s e)
    | inr e ↦ e ∙ sym (false_from_ne_true (is_filled inside t) (λ h. both_ways (list_all inside ring) e (filled_face ring t s h)))
  ]

  -- a corner that is inside has neighbors that share a face
  abbrev IsShared : List (List ℕ) → ℕ × ℕ × ℕ × ℕ → Type 0
  IsShared faces t = is_filled inside t ≡ true → share_face faces inside u t.0 t.1 ≡ true

  pub corners_share : (g : Graph) (faces : List (List ℕ)) → AreRings g faces → All (IsShared faces) (corners_at u faces)
  corners_share g [] are = All-nil (IsShared [])
  corners_share g (face ∷ later) are =
      let rest : All (IsShared (face ∷ later)) (corners_at u later) =
      All-weaker (IsShared later) (IsShared (face ∷ later))
      (λ t h f. or_right (list_all inside face && (has_side face u t.0 && has_side face u t.1)) (share_face later inside u t.0 t.1) (h f))
      (corners_at u later) (corners_share g later are.2) in
      elim (seen g u (corners_at u later) face are.0) [
        | inl off ↦ subst (λ (xs : List (ℕ × ℕ × ℕ × ℕ)). All (IsShared (face ∷ later)) xs) (sym off.0) rest
        | inr (t, is, s) ↦ subst (λ (xs : List (ℕ × ℕ × ℕ × ℕ)). All (IsShared (face ∷ later)) xs) (sym is)
            (All-push (IsShared (face ∷ later)) (corners_at u later) t rest
            (λ f. or_left (list_all inside face && (has_side face u t.0 && has_side face u t.1)) (share_face later inside u t.0 t.1)
            (and_from (list_all inside face) (has_side face u t.0 && has_side face u t.1) (filled_face face t s f)
            (and_from (has_side face u t.0) (has_side face u t.1) s.one s.other))))
      ]

  -- some corner has these two neighbors, which share a face
  abbrev IsBetween : List (ℕ × ℕ × ℕ × ℕ) → ℕ → ℕ → Type 0
  IsBetween cs x y = (k : ℕ) × (k < length cs) × (is_filled inside (get_or cs k (0, 0, 0, 0)) ≡ true)
      × ((((get_or cs k (0, 0, 0, 0)).0 ≡ x) × ((get_or cs k (0, 0, 0, 0)).1 ≡ y)) ⊎ (((get_or cs k (0, 0, 0, 0)).0 ≡ y) × ((get_or cs k (0, 0, 0, 0)).1 ≡ x)))

  between_more : (cs : List (ℕ × ℕ × ℕ × ℕ)) (t : ℕ × ℕ × ℕ × ℕ) (x y : ℕ) → IsBetween cs x y → IsBetween (cs ++ t ∷ []) x y
  between_more cs t x y b =
      let same : get_or (cs ++ t ∷ []) b.0 (0, 0, 0, 0) ≡ get_or cs b.0 (0, 0, 0, 0) = get_or_append_left cs (t ∷ []) (0, 0, 0, 0) b.0 b.1 in (
        b.0,
        omega (arith, b.1, length_push cs t),
        ap (is_filled inside) same ∙ b.2,
        subst (λ (c : ℕ × ℕ × ℕ × ℕ). ((c.0 ≡ x) × (c.1 ≡ y)) ⊎ ((c.0 ≡ y) × (c.1 ≡ x))) (sym same) b.3,
      )

  between_last : (cs : List (ℕ × ℕ × ℕ × ℕ)) (t : ℕ × ℕ × ℕ × ℕ) (x y : ℕ) → is_filled inside t ≡ true → ((t.0 ≡ x) × (t.1 ≡ y)) ⊎ ((t.0 ≡ y) × (t.1 ≡ x))
      → IsBetween (cs ++ t ∷ []) x y
  between_last cs t x y f ends =
      let same : get_or (cs ++ t ∷ []) (length cs) (0, 0, 0, 0) ≡ t = get_or_push cs t (0, 0, 0, 0) (length cs) refl in (
        length cs,
        omega (arith, length_push cs t),
        ap (is_filled inside) same ∙ f,
        subst (λ (c : ℕ × ℕ × ℕ × ℕ). ((c.0 ≡ x) × (c.1 ≡ y)) ⊎ ((c.0 ≡ y) × (c.1 ≡ x))) (sym same) ends,
      )

  pub shared_corner : (g : Graph) (faces : List (List ℕ)) (x y : ℕ) → AreRings g faces → share_face faces inside u x y ≡ true
      → (x ≡ y) ⊎ IsBetween (corners_at u faces) x y
  shared_corner g [] x y are h = absurd (false≢true h)
  shared_corner g (face ∷ later) x y are h =
      let here = seen g u (corners_at u later) face are.0 in
      elim (or_cases (list_all inside face && (has_side face u x && has_side face u y)) (share_face later inside u x y) h) [
        | inr old ↦ elim (shared_corner g later x y are.2 old) [
          | inl e ↦ inl e
          | inr b ↦ elim here [
            | inl off ↦ inr (subst (λ (xs : List (ℕ × ℕ × ℕ × ℕ)). IsBetween xs x y) (sym off.0) b)
            | inr (t, is, s) ↦ inr (subst (λ (xs : List (ℕ × ℕ × ℕ × ℕ)). IsBetween xs x y) (sym is) (between_more (corners_at u later) t x y b))
          ]
        ]
        | inl new ↦
            let parts = and_parts (list_all inside face) (has_side face u x && has_side face u y) new in
            let sides = and_parts (has_side face u x) (has_side face u y) parts.1 in
            elim here [
              | inl off ↦ absurd (both_ways (has face u) off.1 (side_in face u x sides.0))
              | inr (t, is, s) ↦
                  let last : ((t.0 ≡ x) × (t.1 ≡ y)) ⊎ ((t.0 ≡ y) × (t.1 ≡ x)) → IsBetween (corners_at u (face ∷ later)) x y =
                  λ ends. subst (λ (xs : List (ℕ × ℕ × ℕ × ℕ)). IsBetween xs x y) (sym is) (between_last (corners_at u later) t x y (face_filled face t s parts.0) ends) in
                  elim (s.ends x sides.0) [
                    | inl ex ↦ elim (s.ends y sides.1) [ inl ey ↦ inl (ex ∙ sym ey) | inr ey ↦ inr (last (inl (sym ex, sym ey))) ]
                    | inr ex ↦ elim (s.ends y sides.1) [ inl ey ↦ inr (last (inr (sym ey, sym ex))) | inr ey ↦ inl (ex ∙ sym ey) ]
                  ]
            ]
      ]

  count_push : (cs : List (ℕ × ℕ × ℕ × ℕ)) (t : ℕ × ℕ × ℕ × ℕ) → count_by (is_filled inside) (cs ++ t ∷ []) ≡ count_by (is_filled inside) cs + cond {A = ℕ} (is_filled inside t) 1 0
  count_push cs t =
      let split = sum_by-append (λ c. cond {A = ℕ} (is_filled inside c) 1 0) cs (t ∷ []) in
      let one = sum_by-cons (λ c. cond {A = ℕ} (is_filled inside c) 1 0) t [] in
      omega (arith, split, one)

  -- the faces at u that are inside are counted by their corners
  pub count_corners : (g : Graph) (faces : List (List ℕ)) → AreRings g faces → count_inner_faces_at u inside faces ≡ count_by (is_filled inside) (corners_at u faces)
  count_corners g [] are = refl
  count_corners g (face ∷ later) are =
      let rest = count_corners g later are.2 in
      elim (seen g u (corners_at u later) face are.0) [
        | inl off ↦
            let same = ap (count_by (is_filled inside)) off.0 in
            let none : cond {A = ℕ} (has face u && list_all inside face) 1 0 ≡ 0 = ap (λ b. cond {A = ℕ} (b && list_all inside face) 1 0) off.1 in
            omega (arith, rest, same, none)
        | inr (t, is, s) ↦
            let more = ap (count_by (is_filled inside)) is ∙ count_push (corners_at u later) t in
            let one : cond {A = ℕ} (has face u && list_all inside face) 1 0 ≡ cond (is_filled inside t) 1 0 =
            ap (λ b. cond {A = ℕ} (b && list_all inside face) 1 0) s.own ∙ ap (λ b. cond {A = ℕ} b 1 0) (same_filled face t s) in
            omega (arith, rest, more, one)
      ]

-- ---- the units of a corner differ from its own

abbrev pub IsOther : Graph → ℕ → ℕ → Type 0
IsOther g u v = (v < g.units) × (v ≡ u → ⊥)

abbrev pub AreOthers : Graph → ℕ → ℕ × ℕ × ℕ × ℕ → Type 0
AreOthers g u t = IsOther g u t.0 × IsOther g u t.1 × IsOther g u t.2 × IsOther g u t.3

-- the units of corners at u are other units of the graph
pub corners_other : (g : Graph) (u : ℕ) (faces : List (List ℕ)) → AreRings g faces → All (AreOthers g u) (corners_at u faces)
corners_other g u [] are = All-nil (AreOthers g u)
corners_other g u (face ∷ later) are = elim (seen g u (corners_at u later) face are.0) [
  | inl off ↦ subst (λ (xs : List (ℕ × ℕ × ℕ × ℕ)). All (AreOthers g u) xs) (sym off.0) (corners_other g u later are.2)
  | inr (t, is, s) ↦ subst (λ (xs : List (ℕ × ℕ × ℕ × ℕ)). All (AreOthers g u) xs) (sym is)
      (All-push (AreOthers g u) (corners_at u later) t (corners_other g u later are.2)
      ((are.0.below t.0 s.units.0, s.off.0), (are.0.below t.1 s.units.1, s.off.1), (are.0.below t.2 s.units.2, s.off.2), (are.0.below t.3 s.units.3, s.off.3)))
]
