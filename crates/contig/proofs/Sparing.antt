-- The spares at a unit: how they change with the unit, and which mates they link.
use Rattle.std.proofs.Common.{◌≡◌, ℕ, ◌+◌, ◌<◌, Bool, true, false, cond, not, ◌&&◌, List, [], ◌∷◌, ◌++◌, length, get_or, refl, sym, ap, ◌∙◌, subst, inl, inr, arith}
use Rattle.std.specs.Prelude.{◌==◌, ◌⊎◌, All, count_by}
use Rattle.std.specs.List.{list_all}
use Rattle.std.proofs.lemmas.Bool.{and_parts, and_from, and_left, and_right, or_cases, or_left, or_right, cases_Bool, cases_eq, eq-eqb, eqb-true, ne_eqb, cond-true, cond-false, not_from_true, not_from_false, both_ways, false≢true}
use Rattle.std.proofs.lemmas.List.{length_push, get_or_append_left, get_or_push}
use Rattle.std.proofs.lemmas.List.Elements.{All-push, All-weaker, All-nil}
use Rattle.std.proofs.lemmas.List.Sums.{sum_by-append, sum_by-cons}
use Rattle.audit_model.specs.Graph.{Graph, has}
use Rattle.audit_model.proofs.ListFacts.{first_has, other, has_2, has_3}
use Rattle.contig.specs.Faces.{SparedFace, WithoutSpare, WithSpare, has_side, IsRing, share_face, own_ring, spare_ring, own_rings, AreFaces, is_active, chosen, count_active}
use Rattle.contig.specs.Corners.{with_corner, add_spare, spares_at, is_spared, is_ending, is_starting}
use Rattle.contig.proofs.Choosing.{chosen_ring, active_parts, joins}
use Rattle.contig.proofs.Rings.{side_in}
use Rattle.contig.proofs.Seeing.{IsCornerOf, first3, turned3, with_here, with_off}

-- ---- four units

-- a, b and d are inside, and c is not
abbrev pub active : Bool → Bool → Bool → Bool → Bool
active a b d c = a && (b && (d && not c))

active_of : (a b d c : Bool) → ((a && (b && (d && true))) && not (a && (b && (c && true)))) ≡ active a b d c
active_of false b d c = refl
active_of true false d c = refl
active_of true true false c = refl
active_of true true true false = refl
active_of true true true true = refl

-- a spare is active exactly if its units are inside and the other unit of the ring is not
pub active_is : (inside : ℕ → Bool) (a b c d : ℕ) → is_active inside (WithSpare a b c d) ≡ active (inside a) (inside b) (inside d) (inside c)
active_is inside a b c d = active_of (inside a) (inside b) (inside d) (inside c)

at_a : (a b d c : Bool) → a ≡ true → active a b d c ≡ active b d d c
at_a false b d c h = absurd (false≢true h)
at_a true false d c h = refl
at_a true true false c h = refl
at_a true true true c h = refl

at_b : (a b d c : Bool) → b ≡ true → active a b d c ≡ active d a a c
at_b a false d c h = absurd (false≢true h)
at_b false true false c h = refl
at_b false true true c h = refl
at_b true true false c h = refl
at_b true true true c h = refl

at_d : (a b d c : Bool) → d ≡ true → active a b d c ≡ active a b b c
at_d a b false c h = absurd (false≢true h)
at_d false b true c h = refl
at_d true false true c h = refl
at_d true true true c h = refl

-- a face without a spare has none that is active
none_active : (inside : ℕ → Bool) (ring : List ℕ) → is_active inside (WithoutSpare ring) ≡ false
none_active inside ring = elim (cases_Bool (list_all inside ring)) [
  | inl e ↦ and_right (list_all inside ring) (not (list_all inside ring)) (not_from_true (list_all inside ring) e)
  | inr e ↦ and_left (list_all inside ring) (not (list_all inside ring)) e
]

-- u is a unit of the spare, x and y are the two others, and c is another unit
record IsSpareAt (a b c d u x y : ℕ) : Type 0 where
  corner : IsCornerOf (a ∷ b ∷ d ∷ []) u (x, y, y, y)
  off : c ≡ u → ⊥
  on : (inside : ℕ → Bool) → inside u ≡ true → is_active inside (WithSpare a b c d) ≡ active (inside x) (inside y) (inside y) (inside c)
  idle : (inside : ℕ → Bool) → inside u ≡ false → is_active inside (WithSpare a b c d) ≡ false

-- u is none of the four units
abbrev IsOff : ℕ → ℕ → ℕ → ℕ → ℕ → Type 0
IsOff a b c d u = (a ≡ u → ⊥) × (b ≡ u → ⊥) × (d ≡ u → ⊥) × (c ≡ u → ⊥)

-- the corner of a spare at u, if it has one: u is none of its four units, or one of the spare, or the one that the spare
-- has not
abbrev Seen : ℕ → List (ℕ × ℕ × ℕ × ℕ) → ℕ → ℕ → ℕ → ℕ → Type 0
Seen u cs a b c d = ((add_spare u cs (WithSpare a b c d) ≡ cs) × IsOff a b c d u)
    ⊎ (((x : ℕ) × (y : ℕ) × (add_spare u cs (WithSpare a b c d) ≡ cs ++ (x, y, y, c) ∷ []) × IsSpareAt a b c d u x y)
    ⊎ ((c ≡ u) × (add_spare u cs (WithSpare a b c d) ≡ cs ++ (a, b, d, c) ∷ [])))

-- the four units of a face with a spare are distinct
record AreFour (a b c d : ℕ) : Type 0 where
  ab : a ≡ b → ⊥
  ac : a ≡ c → ⊥
  ad : a ≡ d → ⊥
  bc : b ≡ c → ⊥
  bd : b ≡ d → ⊥
  cd : c ≡ d → ⊥

four : (g : Graph) (a b c d : ℕ) → IsRing g (a ∷ b ∷ c ∷ []) → IsRing g (a ∷ b ∷ d ∷ []) → (c ≡ d → ⊥) → AreFour a b c d
four g a b c d ring spare differ = record {
  ab = λ e. other (b ∷ c ∷ []) a b ring.apart.0 (first_has b (c ∷ [])) e;
  ac = λ e. other (b ∷ c ∷ []) a c ring.apart.0 (has_2 b c []) e;
  ad = λ e. other (b ∷ d ∷ []) a d spare.apart.0 (has_2 b d []) e;
  bc = λ e. other (c ∷ []) b c ring.apart.1.0 (first_has c []) e;
  bd = λ e. other (d ∷ []) b d spare.apart.1.0 (first_has d []) e;
  cd = differ;
}

module _ (u a b c d : ℕ) (f : AreFour a b c d) where
  at_first : a ≡ u → IsSpareAt a b c d u b d
  at_first e = record {
    corner = subst (λ k. IsCornerOf (a ∷ b ∷ d ∷ []) k (b, d, d, d)) e (first3 a b d f.ab f.ad);
    off = λ h. f.ac (e ∙ sym h);
    on = λ inside h. active_is inside a b c d ∙ at_a (inside a) (inside b) (inside d) (inside c) (ap inside e ∙ h);
    idle = λ inside h. active_is inside a b c d ∙ and_left (inside a) (inside b && (inside d && not (inside c))) (ap inside e ∙ h);
  }

  at_second : b ≡ u → IsSpareAt a b c d u d a
  at_second e = record {
    corner = subst (λ k. IsCornerOf (a ∷ b ∷ d ∷ []) k (d, a, a, a)) e (turned3 a b d b (d, a, a, a) (first3 b d a f.bd (λ h. f.ab (sym h))));
    off = λ h. f.bc (e ∙ sym h);
    on = λ inside h. active_is inside a b c d ∙ at_b (inside a) (inside b) (inside d) (inside c) (ap inside e ∙ h);
    idle = λ inside h. active_is inside a b c d
        ∙ and_right (inside a) (inside b && (inside d && not (inside c))) (and_left (inside b) (inside d && not (inside c)) (ap inside e ∙ h));
  }

  at_third : d ≡ u → IsSpareAt a b c d u a b
  at_third e = record {
    corner = subst (λ k. IsCornerOf (a ∷ b ∷ d ∷ []) k (a, b, b, b)) e
        (turned3 a b d d (a, b, b, b) (turned3 b d a d (a, b, b, b) (first3 d a b (λ h. f.ad (sym h)) (λ h. f.bd (sym h)))));
    off = λ h. f.cd (h ∙ sym e);
    on = λ inside h. active_is inside a b c d ∙ at_d (inside a) (inside b) (inside d) (inside c) (ap inside e ∙ h);
    idle = λ inside h. active_is inside a b c d
        ∙ and_right (inside a) (inside b && (inside d && not (inside c)))
        (and_right (inside b) (inside d && not (inside c)) (and_left (inside d) (not (inside c)) (ap inside e ∙ h)));
  }

  abbrev one : List (ℕ × ℕ × ℕ × ℕ) → List (ℕ × ℕ × ℕ × ℕ)
  one cs = with_corner u cs a (b, d, d, c)

  abbrev two : List (ℕ × ℕ × ℕ × ℕ) → List (ℕ × ℕ × ℕ × ℕ)
  two cs = with_corner u (with_corner u cs a (b, d, d, c)) b (d, a, a, c)

  abbrev three : List (ℕ × ℕ × ℕ × ℕ) → List (ℕ × ℕ × ℕ × ℕ)
  three cs = with_corner u (with_corner u (with_corner u cs a (b, d, d, c)) b (d, a, a, c)) d (a, b, b, c)

  -- a spare has one corner at each of its four units, and none elsewhere
  seen : (cs : List (ℕ × ℕ × ℕ × ℕ)) → Seen u cs a b c d
  seen cs = elim (cases_eq a u) [
    | inl e ↦ inr (inl (
      b,
      d,
      with_off u c (three cs) (a, b, d, c) (λ h. f.ac (e ∙ sym h)) ∙ with_off u d (two cs) (a, b, b, c) (λ h. f.ad (e ∙ sym h))
          ∙ with_off u b (one cs) (d, a, a, c) (λ h. f.ab (e ∙ sym h)) ∙ with_here u a cs (b, d, d, c) e,
      at_first e,
    ))
    | inr oa ↦ elim (cases_eq b u) [
      | inl e ↦ inr (inl (
        d,
        a,
        with_off u c (three cs) (a, b, d, c) (λ h. f.bc (e ∙ sym h)) ∙ with_off u d (two cs) (a, b, b, c) (λ h. f.bd (e ∙ sym h))
            ∙ with_here u b (one cs) (d, a, a, c) e ∙ ap (λ (xs : List (ℕ × ℕ × ℕ × ℕ)). xs ++ (d, a, a, c) ∷ []) (with_off u a cs (b, d, d, c) oa),
        at_second e,
      ))
      | inr ob ↦ elim (cases_eq d u) [
        | inl e ↦ inr (inl (
          a,
          b,
          with_off u c (three cs) (a, b, d, c) (λ h. f.cd (h ∙ sym e)) ∙ with_here u d (two cs) (a, b, b, c) e
              ∙ ap (λ (xs : List (ℕ × ℕ × ℕ × ℕ)). xs ++ (a, b, b, c) ∷ []) (with_off u b (one cs) (d, a, a, c) ob ∙ with_off u a cs (b, d, d, c) oa),
          at_third e,
        ))
        | inr od ↦
            let before = with_off u d (two cs) (a, b, b, c) od ∙ with_off u b (one cs) (d, a, a, c) ob ∙ with_off u a cs (b, d, d, c) oa in
            elim (cases_eq c u) [
              | inl e ↦ inr (inr (e, with_here u c (three cs) (a, b, d, c) e ∙ ap (λ (xs : List (ℕ × ℕ × ℕ × ℕ)). xs ++ (a, b, d, c) ∷ []) before))
              | inr oc ↦ inl (with_off u c (three cs) (a, b, d, c) oc ∙ before, (oa, ob, od, oc))
            ]
      ]
    ]
  ]

-- ---- one unit more or fewer

count_push : (p : ℕ × ℕ × ℕ × ℕ → Bool) (cs : List (ℕ × ℕ × ℕ × ℕ)) (t : ℕ × ℕ × ℕ × ℕ) → count_by p (cs ++ t ∷ []) ≡ count_by p cs + cond {A = ℕ} (p t) 1 0
count_push p cs t =
    let split = sum_by-append (λ c. cond {A = ℕ} (p c) 1 0) cs (t ∷ []) in
    let one = sum_by-cons (λ c. cond {A = ℕ} (p c) 1 0) t [] in
    omega (arith, split, one)

module _ (g : Graph) (large small test : ℕ → Bool) (u : ℕ) (there : large u ≡ true) (absent : small u ≡ false)
    (more : (v : ℕ) → v < g.units → (v ≡ u → ⊥) → large v ≡ small v) (tests : (v : ℕ) → v < g.units → (v ≡ u → ⊥) → test v ≡ small v) where
  -- the spares that are active with and without u, and the change
  abbrev pub Changes : ℕ → ℕ → List (ℕ × ℕ × ℕ × ℕ) → Type 0
  Changes with_u without cs = (both : ℕ) × (with_u ≡ both + count_by (is_ending test u) cs) × (without ≡ both + count_by (is_starting test u) cs)

  tested : (v : ℕ) → v < g.units → (v ≡ u → ⊥) → large v ≡ test v
  tested v l off = more v l off ∙ sym (tests v l off)

  same_active : (p q : ℕ → Bool) (a b c d : ℕ) → p a ≡ q a → p b ≡ q b → p d ≡ q d → p c ≡ q c → is_active p (WithSpare a b c d) ≡ is_active q (WithSpare a b c d)
  same_active p q a b c d ea eb ed ec =
      active_is p a b c d ∙ ap (λ t. active t (p b) (p d) (p c)) ea ∙ ap (λ t. active (q a) t (p d) (p c)) eb
      ∙ ap (λ t. active (q a) (q b) t (p c)) ed ∙ ap (λ t. active (q a) (q b) (q d) t) ec ∙ sym (active_is q a b c d)

  -- one more corner
  pushed : (cs new : List (ℕ × ℕ × ℕ × ℕ)) (t : ℕ × ℕ × ℕ × ℕ) (l s : Bool) (many few : ℕ) → new ≡ cs ++ t ∷ []
      → l ≡ is_ending test u t → s ≡ is_starting test u t → Changes many few cs → Changes (many + cond {A = ℕ} l 1 0) (few + cond {A = ℕ} s 1 0) new
  pushed cs new t l s many few is el es was =
      let ending = ap (count_by (is_ending test u)) is ∙ count_push (is_ending test u) cs t in
      let starting = ap (count_by (is_starting test u)) is ∙ count_push (is_starting test u) cs t in
      let one = ap (λ b. cond {A = ℕ} b 1 0) el in
      let other = ap (λ b. cond {A = ℕ} b 1 0) es in
      (was.0, omega (arith, was.1, ending, one), omega (arith, was.2, starting, other))

  module _ (a b c d : ℕ) (ring : IsRing g (a ∷ b ∷ c ∷ [])) (spare : IsRing g (a ∷ b ∷ d ∷ [])) (differ : c ≡ d → ⊥)
      (cs : List (ℕ × ℕ × ℕ × ℕ)) (many few : ℕ) (was : Changes many few cs) where
    la : a < g.units
    la = ring.below a (first_has a (b ∷ c ∷ []))

    lb : b < g.units
    lb = ring.below b (has_2 a b (c ∷ []))

    lc : c < g.units
    lc = ring.below c (has_3 a b c [])

    ld : d < g.units
    ld = spare.below d (has_3 a b d [])

    off_all : add_spare u cs (WithSpare a b c d) ≡ cs → IsOff a b c d u
        → Changes (many + cond {A = ℕ} (is_active large (WithSpare a b c d)) 1 0) (few + cond {A = ℕ} (is_active small (WithSpare a b c d)) 1 0) (add_spare u cs (WithSpare a b c d))
    off_all is off =
        let alike = ap (λ t. cond {A = ℕ} t 1 0) (same_active large small a b c d (more a la off.0) (more b lb off.1) (more d ld off.2) (more c lc off.3)) in
        subst (λ (xs : List (ℕ × ℕ × ℕ × ℕ)). Changes (many + cond {A = ℕ} (is_active large (WithSpare a b c d)) 1 0) (few + cond {A = ℕ} (is_active small (WithSpare a b c d)) 1 0) xs) (sym is)
        (was.0 + cond {A = ℕ} (is_active small (WithSpare a b c d)) 1 0, omega (arith, was.1, alike), omega (arith, was.2))

    on_spare : (x y : ℕ) → add_spare u cs (WithSpare a b c d) ≡ cs ++ (x, y, y, c) ∷ [] → IsSpareAt a b c d u x y
        → Changes (many + cond {A = ℕ} (is_active large (WithSpare a b c d)) 1 0) (few + cond {A = ℕ} (is_active small (WithSpare a b c d)) 1 0) (add_spare u cs (WithSpare a b c d))
    on_spare x y is s =
        let ex : large x ≡ test x = tested x (spare.below x s.corner.units.0) s.corner.off.0 in
        let ey : large y ≡ test y = tested y (spare.below y s.corner.units.1) s.corner.off.1 in
        let ec : large c ≡ test c = tested c lc s.off in
        let free : (c == u) ≡ false = ne_eqb c u s.off in
        pushed cs (add_spare u cs (WithSpare a b c d)) (x, y, y, c) (is_active large (WithSpare a b c d)) (is_active small (WithSpare a b c d)) many few is
        (s.on large there ∙ ap (λ t. active t (large y) (large y) (large c)) ex ∙ ap (λ t. active (test x) t t (large c)) ey ∙ ap (λ t. active (test x) (test y) (test y) t) ec
        ∙ ap (λ t. test x && (test y && (test y && (not t && not (test c))))) (sym free))
        (s.idle small absent ∙ sym (and_right (test x) (test y && (test y && (c == u))) (and_right (test y) (test y && (c == u)) (and_right (test y) (c == u) free))))
        was

    on_guard : c ≡ u → add_spare u cs (WithSpare a b c d) ≡ cs ++ (a, b, d, c) ∷ []
        → Changes (many + cond {A = ℕ} (is_active large (WithSpare a b c d)) 1 0) (few + cond {A = ℕ} (is_active small (WithSpare a b c d)) 1 0) (add_spare u cs (WithSpare a b c d))
    on_guard e is =
        let f = four g a b c d ring spare differ in
        let taken : (c == u) ≡ true = eq-eqb c u e in
        let in_large : large c ≡ true = ap large e ∙ there in
        let in_small : small c ≡ false = ap small e ∙ absent in
        let ea : small a ≡ test a = sym (tests a la (λ h. f.ac (h ∙ sym e))) in
        let eb : small b ≡ test b = sym (tests b lb (λ h. f.bc (h ∙ sym e))) in
        let ed : small d ≡ test d = sym (tests d ld (λ h. f.cd (e ∙ sym h))) in
        pushed cs (add_spare u cs (WithSpare a b c d)) (a, b, d, c) (is_active large (WithSpare a b c d)) (is_active small (WithSpare a b c d)) many few is
        (active_is large a b c d ∙ and_right (large a) (large b && (large d && not (large c)))
        (and_right (large b) (large d && not (large c)) (and_right (large d) (not (large c)) (not_from_true (large c) in_large)))
        ∙ sym (and_right (test a) (test b && (test d && (not (c == u) && not (test c))))
        (and_right (test b) (test d && (not (c == u) && not (test c)))
        (and_right (test d) (not (c == u) && not (test c)) (and_left (not (c == u)) (not (test c)) (not_from_true (c == u) taken))))))
        (active_is small a b c d ∙ ap (λ t. active t (small b) (small d) (small c)) ea ∙ ap (λ t. active (test a) t (small d) (small c)) eb
        ∙ ap (λ t. active (test a) (test b) t (small c)) ed ∙ ap (λ t. test a && (test b && (test d && t))) (not_from_false (small c) in_small ∙ sym taken))
        was

    changed : Changes (many + cond {A = ℕ} (is_active large (WithSpare a b c d)) 1 0) (few + cond {A = ℕ} (is_active small (WithSpare a b c d)) 1 0) (add_spare u cs (WithSpare a b c d))
    changed = elim (seen u a b c d (four g a b c d ring spare differ) cs) [
      | inl off ↦ off_all off.0 off.1
      | inr on ↦ elim on [
        | inl (x, y, is, s) ↦ on_spare x y is s
        | inr at ↦ on_guard at.0 at.1
      ]
    ]

  -- the active spares of the two sets differ by those that end and those that begin
  pub spares_change : (faces : List SparedFace) → AreFaces g faces → Changes (count_active large faces) (count_active small faces) (spares_at u faces)
  spares_change [] are = (0, refl, refl)
  spares_change (WithoutSpare ring ∷ later) are =
      let rest = spares_change later are.4 in
      let in_large = cond-false {A = ℕ} (is_active large (WithoutSpare ring)) 1 0 (none_active large ring) in
      let in_small = cond-false {A = ℕ} (is_active small (WithoutSpare ring)) 1 0 (none_active small ring) in
      (rest.0, omega (arith, rest.1, in_large), omega (arith, rest.2, in_small))
  spares_change (WithSpare a b c d ∷ later) are =
      changed a b c d are.0 are.1 are.2 (spares_at u later) (count_active large later) (count_active small later) (spares_change later are.4)

-- ---- links

-- some corner of a list has a property
abbrev pub Some : (ℕ × ℕ × ℕ × ℕ → Type 0) → List (ℕ × ℕ × ℕ × ℕ) → Type 0
Some P cs = (k : ℕ) × (k < length cs) × P (get_or cs k (0, 0, 0, 0))

some_more : (P : ℕ × ℕ × ℕ × ℕ → Type 0) (cs : List (ℕ × ℕ × ℕ × ℕ)) (t : ℕ × ℕ × ℕ × ℕ) → Some P cs → Some P (cs ++ t ∷ [])
some_more P cs t s = (s.0, omega (arith, s.1, length_push cs t), subst P (sym (get_or_append_left cs (t ∷ []) (0, 0, 0, 0) s.0 s.1)) s.2)

some_last : (P : ℕ × ℕ × ℕ × ℕ → Type 0) (cs : List (ℕ × ℕ × ℕ × ℕ)) (t : ℕ × ℕ × ℕ × ℕ) → P t → Some P (cs ++ t ∷ [])
some_last P cs t p = (length cs, omega (arith, length_push cs t), subst P (sym (get_or_push cs t (0, 0, 0, 0) (length cs) refl)) p)

-- the three units of a triangle
unit_of_three : (a b d u : ℕ) → has (a ∷ b ∷ d ∷ []) u ≡ true → (a ≡ u) ⊎ ((b ≡ u) ⊎ (d ≡ u))
unit_of_three a b d u h = elim (or_cases (a == u) (has (b ∷ d ∷ []) u) h) [
  | inl e ↦ inl (eqb-true a u e)
  | inr k ↦ elim (or_cases (b == u) (has (d ∷ []) u) k) [
    | inl e ↦ inr (inl (eqb-true b u e))
    | inr n ↦ elim (or_cases (d == u) (has [] u) n) [ inl e ↦ inr (inr (eqb-true d u e)) | inr z ↦ absurd (false≢true z) ]
  ]
]

module _ (inside : ℕ → Bool) (u : ℕ) (in_set : inside u ≡ true) where
  -- with its other unit inside, a spare is not active
  guarded : (a b c d : ℕ) → c ≡ u → is_active inside (WithSpare a b c d) ≡ false
  guarded a b c d e =
      active_is inside a b c d ∙ and_right (inside a) (inside b && (inside d && not (inside c)))
      (and_right (inside b) (inside d && not (inside c)) (and_right (inside d) (not (inside c)) (not_from_true (inside c) (ap inside e ∙ in_set))))

  -- the neighbors on an active corner share a chosen ring
  abbrev IsShared : List SparedFace → ℕ × ℕ × ℕ × ℕ → Type 0
  IsShared faces t = is_spared inside t ≡ true → share_face (chosen inside faces) inside u t.0 t.1 ≡ true

  pub spares_share : (g : Graph) (faces : List SparedFace) → AreFaces g faces → All (IsShared faces) (spares_at u faces)
  spares_share g [] are = All-nil (IsShared [])
  spares_share g (WithoutSpare ring ∷ later) are =
      All-weaker (IsShared later) (IsShared (WithoutSpare ring ∷ later))
      (λ t h f. or_right (joins inside u t.0 t.1 (chosen_ring inside (WithoutSpare ring))) (share_face (chosen inside later) inside u t.0 t.1) (h f))
      (spares_at u later) (spares_share g later are.4)
  spares_share g (WithSpare a b c d ∷ later) are =
      let rest : All (IsShared (WithSpare a b c d ∷ later)) (spares_at u later) =
      All-weaker (IsShared later) (IsShared (WithSpare a b c d ∷ later))
      (λ t h f. or_right (joins inside u t.0 t.1 (chosen_ring inside (WithSpare a b c d))) (share_face (chosen inside later) inside u t.0 t.1) (h f))
      (spares_at u later) (spares_share g later are.4) in
      elim (seen u a b c d (four g a b c d are.0 are.1 are.2) (spares_at u later)) [
        | inl off ↦ subst (λ (xs : List (ℕ × ℕ × ℕ × ℕ)). All (IsShared (WithSpare a b c d ∷ later)) xs) (sym off.0) rest
        | inr on ↦ elim on [
          | inl (x, y, is, s) ↦ subst (λ (xs : List (ℕ × ℕ × ℕ × ℕ)). All (IsShared (WithSpare a b c d ∷ later)) xs) (sym is)
              (All-push (IsShared (WithSpare a b c d ∷ later)) (spares_at u later) (x, y, y, c) rest (λ f.
              let acts : is_active inside (WithSpare a b c d) ≡ true = s.on inside in_set ∙ f in
              or_left (joins inside u x y (chosen_ring inside (WithSpare a b c d))) (share_face (chosen inside later) inside u x y)
              (subst (λ (ring : List ℕ). joins inside u x y ring ≡ true)
              (sym (cond-true {A = List ℕ} (is_active inside (WithSpare a b c d)) (a ∷ b ∷ d ∷ []) (a ∷ b ∷ c ∷ []) acts))
              (and_from (list_all inside (a ∷ b ∷ d ∷ [])) (has_side (a ∷ b ∷ d ∷ []) u x && has_side (a ∷ b ∷ d ∷ []) u y)
              (active_parts inside (WithSpare a b c d) acts).0
              (and_from (has_side (a ∷ b ∷ d ∷ []) u x) (has_side (a ∷ b ∷ d ∷ []) u y) s.corner.one s.corner.other)))))
          | inr at ↦ subst (λ (xs : List (ℕ × ℕ × ℕ × ℕ)). All (IsShared (WithSpare a b c d ∷ later)) xs) (sym at.1)
              (All-push (IsShared (WithSpare a b c d ∷ later)) (spares_at u later) (a, b, d, c) rest
              (λ f. absurd (both_ways (is_active inside (WithSpare a b c d)) (guarded a b c d at.0) (active_is inside a b c d ∙ f))))
        ]
      ]

  -- the corner is active, and x and y are its neighbors, or one of them twice
  abbrev pub Ends : ℕ → ℕ → ℕ × ℕ × ℕ × ℕ → Type 0
  Ends x y t = (is_spared inside t ≡ true) × ((x ≡ y) ⊎ (((t.0 ≡ x) × (t.1 ≡ y)) ⊎ ((t.0 ≡ y) × (t.1 ≡ x))))

  -- a ring that is chosen without an active spare is the face's own
  own_chosen : (face : SparedFace) (x y : ℕ) → is_active inside face ≡ false → joins inside u x y (chosen_ring inside face) ≡ true → joins inside u x y (own_ring face) ≡ true
  own_chosen face x y e h = subst (λ (ring : List ℕ). joins inside u x y ring ≡ true) (cond-false {A = List ℕ} (is_active inside face) (spare_ring face) (own_ring face) e) h

  -- neighbors that share an active spare are those on its corner
  active_corner : (g : Graph) (a b c d x y : ℕ) (cs : List (ℕ × ℕ × ℕ × ℕ)) → IsRing g (a ∷ b ∷ c ∷ []) → IsRing g (a ∷ b ∷ d ∷ []) → (c ≡ d → ⊥)
      → is_active inside (WithSpare a b c d) ≡ true → joins inside u x y (a ∷ b ∷ d ∷ []) ≡ true → Some (Ends x y) (add_spare u cs (WithSpare a b c d))
  active_corner g a b c d x y cs ring spare differ acts h =
      let parts = and_parts (list_all inside (a ∷ b ∷ d ∷ [])) (has_side (a ∷ b ∷ d ∷ []) u x && has_side (a ∷ b ∷ d ∷ []) u y) h in
      let sides = and_parts (has_side (a ∷ b ∷ d ∷ []) u x) (has_side (a ∷ b ∷ d ∷ []) u y) parts.1 in
      elim (seen u a b c d (four g a b c d ring spare differ) cs) [
        | inl off ↦ elim (unit_of_three a b d u (side_in (a ∷ b ∷ d ∷ []) u x sides.0)) [
          | inl e ↦ absurd (off.1.0 e)
          | inr k ↦ elim k [ inl e ↦ absurd (off.1.1 e) | inr e ↦ absurd (off.1.2 e) ]
        ]
        | inr on ↦ elim on [
          | inl (p, q, is, s) ↦ subst (λ (xs : List (ℕ × ℕ × ℕ × ℕ)). Some (Ends x y) xs) (sym is) (some_last (Ends x y) cs (p, q, q, c) (
            sym (s.on inside in_set) ∙ acts,
            elim (s.corner.ends x sides.0) [
              | inl ex ↦ elim (s.corner.ends y sides.1) [ inl ey ↦ inl (ex ∙ sym ey) | inr ey ↦ inr (inl (sym ex, sym ey)) ]
              | inr ex ↦ elim (s.corner.ends y sides.1) [ inl ey ↦ inr (inr (sym ey, sym ex)) | inr ey ↦ inl (ex ∙ sym ey) ]
            ],
          ))
          | inr at ↦ absurd (both_ways (is_active inside (WithSpare a b c d)) (guarded a b c d at.0) acts)
        ]
      ]

  more_corner : (g : Graph) (a b c d x y : ℕ) (cs : List (ℕ × ℕ × ℕ × ℕ)) → IsRing g (a ∷ b ∷ c ∷ []) → IsRing g (a ∷ b ∷ d ∷ []) → (c ≡ d → ⊥)
      → Some (Ends x y) cs → Some (Ends x y) (add_spare u cs (WithSpare a b c d))
  more_corner g a b c d x y cs ring spare differ found = elim (seen u a b c d (four g a b c d ring spare differ) cs) [
    | inl off ↦ subst (λ (xs : List (ℕ × ℕ × ℕ × ℕ)). Some (Ends x y) xs) (sym off.0) found
    | inr on ↦ elim on [
      | inl (p, q, is, s) ↦ subst (λ (xs : List (ℕ × ℕ × ℕ × ℕ)). Some (Ends x y) xs) (sym is) (some_more (Ends x y) cs (p, q, q, c) found)
      | inr at ↦ subst (λ (xs : List (ℕ × ℕ × ℕ × ℕ)). Some (Ends x y) xs) (sym at.1) (some_more (Ends x y) cs (a, b, d, c) found)
    ]
  ]

  -- neighbors that share a chosen ring share a ring, or are those on the corner of an active spare
  pub chosen_corner : (g : Graph) (faces : List SparedFace) (x y : ℕ) → AreFaces g faces → share_face (chosen inside faces) inside u x y ≡ true
      → (share_face (own_rings faces) inside u x y ≡ true) ⊎ Some (Ends x y) (spares_at u faces)
  chosen_corner g [] x y are h = absurd (false≢true h)
  chosen_corner g (WithoutSpare ring ∷ later) x y are h =
      elim (or_cases (joins inside u x y (chosen_ring inside (WithoutSpare ring))) (share_face (chosen inside later) inside u x y) h) [
        | inl e ↦ inl (or_left (joins inside u x y ring) (share_face (own_rings later) inside u x y)
            (own_chosen (WithoutSpare ring) x y (none_active inside ring) e))
        | inr e ↦ elim (chosen_corner g later x y are.4 e) [
          | inl own ↦ inl (or_right (joins inside u x y ring) (share_face (own_rings later) inside u x y) own)
          | inr found ↦ inr found
        ]
      ]
  chosen_corner g (WithSpare a b c d ∷ later) x y are h =
      elim (or_cases (joins inside u x y (chosen_ring inside (WithSpare a b c d))) (share_face (chosen inside later) inside u x y) h) [
        | inl e ↦ elim (cases_Bool (is_active inside (WithSpare a b c d))) [
          | inl acts ↦ inr (active_corner g a b c d x y (spares_at u later) are.0 are.1 are.2 acts
              (subst (λ (ring : List ℕ). joins inside u x y ring ≡ true)
              (cond-true {A = List ℕ} (is_active inside (WithSpare a b c d)) (a ∷ b ∷ d ∷ []) (a ∷ b ∷ c ∷ []) acts) e))
          | inr idle ↦ inl (or_left (joins inside u x y (a ∷ b ∷ c ∷ [])) (share_face (own_rings later) inside u x y) (own_chosen (WithSpare a b c d) x y idle e))
        ]
        | inr e ↦ elim (chosen_corner g later x y are.4 e) [
          | inl own ↦ inl (or_right (joins inside u x y (a ∷ b ∷ c ∷ [])) (share_face (own_rings later) inside u x y) own)
          | inr found ↦ inr (more_corner g a b c d x y (spares_at u later) are.0 are.1 are.2 found)
        ]
      ]
