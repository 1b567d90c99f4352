-- Proofs of the laws of unions.
use Rattle.std.proofs.Common.{◌≡◌, ◌⊎◌, ℕ, zero, suc, ◌<◌, Bool, true, false, cond, List, [], ◌∷◌, length, get_or, Option, Some, None, All, refl, sym, ap, ◌∙◌, subst, inl, inr, arith}
use Rattle.std.specs.Prelude.{bytes_eq}
use Rattle.std.proofs.lemmas.Bool.{cases_eq, eq-eqb, ne_eqb}
use Rattle.std.proofs.lemmas.Option.{none-some, same_Some}
use Rattle.std.proofs.lemmas.Slice.Eq.{bytes_eq-Decides}
use Rattle.audit_model.specs.declared.outcome.Outcome.{Outcome}
use Rattle.audit_model.specs.Run.{fits, total, with_id}
use Rattle.audit_model.specs.Trajectory.{without_histogram, empty_histogram, outcome, whole}
use Rattle.outcome_book.specs.Booked.{AreApart}
use Rattle.outcome_book.proofs.ById.{found_in}
use Rattle.outcome_book.specs.Laws.{GroupingDoesNotMatter, ConsistentOutcomesAgree, OrderDoesNotMatter, TwiceChangesNothing, UnionsAreConsistent, UnionsAreOne, UnionsAreRight, UnionsFit}
use Rattle.outcome_book.specs.Union.{Agree, AgreeIf, AgreesWith, AreAgreed, AreById, IsUnion, fuller, fuller_if}

-- ---- lookups

-- rising ids are distinct
apart_of : (xs : List Outcome) → AreById xs → AreApart xs
apart_of xs rising = λ i j d lt within e. absurd (omega (arith, rising i j d lt within, e))

-- distinct ids without the first are distinct
rest_of : (x : Outcome) (xs : List Outcome) → AreApart (x ∷ xs) → AreApart xs
rest_of x xs apart = λ i j d lt within. apart (suc i) (suc j) d (omega arith) (omega arith)

-- rising ids without the first rise
rises : (x : Outcome) (xs : List Outcome) → AreById (x ∷ xs) → AreById xs
rises x xs rising = λ i j d lt within. rising (suc i) (suc j) d (omega arith) (omega arith)

-- the lookup of an outcome's id finds it
found_at : (xs : List Outcome) (k : ℕ) (d : Outcome) → AreApart xs → k < length xs → with_id xs (get_or xs k d).id ≡ Some (get_or xs k d)
found_at [] k d apart l = absurd (omega arith)
found_at (x ∷ xs) zero d apart l = ap (λ b. cond b (Some x) (with_id xs x.id)) (eq-eqb x.id x.id refl)
found_at (x ∷ xs) (suc k) d apart l =
    ap (λ b. cond b (Some x) (with_id xs (get_or xs k d).id)) (ne_eqb x.id (get_or xs k d).id (apart 0 (suc k) d (omega arith) l))
    ∙ found_at xs k d (rest_of x xs apart) (omega arith)

-- a property of all outcomes holds of the one found
of_found : (P : Outcome → Type 0) (xs : List Outcome) (id : ℕ) (o : Outcome) → All P xs → with_id xs id ≡ Some o → P o
of_found P xs id o all e = (found_in P xs id o all e).0

-- a property of two outcomes holds of their combination
one_of : (P : Outcome → Type 0) (a b : Outcome) → P a → P b → P (fuller a b)
one_of P a b pa pb = by (bytes_eq a.bins empty_histogram)
  where
    by : (t : Bool) → P (cond t b a)
    by true = pb
    by false = pa

-- a property of both lists holds of their union
unions_add_nothing : (P : Outcome → Type 0) (xs ys both : List Outcome) → All P xs → All P ys → IsUnion xs ys both → All P both
unions_add_nothing P xs ys both all_xs all_ys u = λ k d l. of_options (get_or both k d) (with_id xs (get_or both k d).id) (with_id ys (get_or both k d).id) refl refl
    (sym (found_at both k d (apart_of both u.rising) l) ∙ u.each (get_or both k d).id)
  where
    of_options : (z : Outcome) (x y : Option Outcome) → with_id xs z.id ≡ x → with_id ys z.id ≡ y → Some z ≡ fuller_if x y → P z
    of_options z None None ex ey e = absurd (none-some z (sym e))
    of_options z None (Some b) ex ey e = subst P (sym (same_Some z b e)) (of_found P ys z.id b all_ys ey)
    of_options z (Some a) None ex ey e = subst P (sym (same_Some z a e)) (of_found P xs z.id a all_xs ex)
    of_options z (Some a) (Some b) ex ey e =
        subst P (sym (same_Some z (fuller a b) e)) (one_of P a b (of_found P xs z.id a all_xs ex) (of_found P ys z.id b all_ys ey))

-- the union of outcomes plausible for a job is plausible for it
pub unions_fit : UnionsFit
unions_fit job = unions_add_nothing (λ o. fits job o ≡ true)

-- the union of outcomes of a job's trajectories, histograms possibly missing, is of its trajectories too
pub unions_are_consistent : UnionsAreConsistent
unions_are_consistent job draws xs ys both hx hy u = record {
  apart = apart_of both u.rising;
  below = unions_add_nothing (λ o. o.id < total job) xs ys both hx.below hy.below u;
  found = unions_add_nothing (λ o. (o ≡ whole job draws o.id) ⊎ (o ≡ without_histogram (whole job draws o.id))) xs ys both hx.found hy.found u;
}

-- the union of outcomes of a job's trajectories is of its trajectories too
pub unions_are_right : UnionsAreRight
unions_are_right job draws xs ys both hx hy u = record {
  apart = apart_of both u.rising;
  below = unions_add_nothing (λ o. o.id < total job) xs ys both hx.below hy.below u;
  found = unions_add_nothing (λ o. o ≡ outcome job draws o.id) xs ys both hx.found hy.found u;
}

-- ---- agreement

-- outcomes of one job's trajectories agree
pub consistent_outcomes_agree : ConsistentOutcomesAgree
consistent_outcomes_agree job draws xs ys hx hy = λ k d l. with_one (get_or ys k d) (hy.found k d l) (with_id xs (get_or ys k d).id) refl
  where
    both : (a o w : Outcome) → ((a ≡ w) ⊎ (a ≡ without_histogram w)) → ((o ≡ w) ⊎ (o ≡ without_histogram w)) → Agree a o
    both a o w (inl e) (inl f) = inl (e ∙ sym f)
    both a o w (inl e) (inr f) = inr (inr (f ∙ ap without_histogram (sym e)))
    both a o w (inr e) (inl f) = inr (inl (e ∙ ap without_histogram (sym f)))
    both a o w (inr e) (inr f) = inl (e ∙ sym f)

    with_one : (o : Outcome) → ((o ≡ whole job draws o.id) ⊎ (o ≡ without_histogram (whole job draws o.id))) → (x : Option Outcome) → with_id xs o.id ≡ x → AgreeIf x (Some o)
    with_one o ho None e = tt
    with_one o ho (Some a) e =
        let found = found_in (λ (p : Outcome). (p ≡ whole job draws p.id) ⊎ (p ≡ without_histogram (whole job draws p.id))) xs o.id a hx.found e in
        both a o (whole job draws o.id)
        (subst (λ i. (a ≡ whole job draws i) ⊎ (a ≡ without_histogram (whole job draws i))) found.1 found.0) ho

-- an outcome and itself without its histogram combine to the first, in either order
joined_without_histogram : (a b : Outcome) → a ≡ without_histogram b → (fuller a b ≡ b) × (fuller b a ≡ b)
joined_without_histogram a b e = (first, by (bytes_eq b.bins empty_histogram) refl)
  where
    first : fuller a b ≡ b
    first = ap (λ t. cond t b a) ((bytes_eq-Decides a.bins empty_histogram).1 (ap (λ (o : Outcome). o.bins) e))

    by : (t : Bool) → bytes_eq b.bins empty_histogram ≡ t → cond t a b ≡ b
    by false f = refl
    by true f = e ∙ sym (ap (λ x. record b { bins = x }) ((bytes_eq-Decides b.bins empty_histogram).0 f))

-- combining an outcome with itself changes nothing
joined_own : (a : Outcome) → fuller a a ≡ a
joined_own a = by (bytes_eq a.bins empty_histogram)
  where
    by : (t : Bool) → cond t a a ≡ a
    by true = refl
    by false = refl

-- combining outcomes that agree is commutative
joined_either : (a b : Outcome) → Agree a b → fuller a b ≡ fuller b a
joined_either a b (inl e) = subst (λ x. fuller a x ≡ fuller x a) e refl
joined_either a b (inr (inl e)) = let h = joined_without_histogram a b e in h.0 ∙ sym h.1
joined_either a b (inr (inr e)) = let h = joined_without_histogram b a e in h.1 ∙ sym h.0

-- combining optional outcomes is commutative
joined_if_either : (x y : Option Outcome) → AgreeIf x y → fuller_if x y ≡ fuller_if y x
joined_if_either None None h = refl
joined_if_either None (Some b) h = refl
joined_if_either (Some a) None h = refl
joined_if_either (Some a) (Some b) h = ap Some (joined_either a b h)

-- lists that agree do so at each id
agreed_at : (xs ys : List Outcome) (id : ℕ) → AreAgreed xs ys → AgreeIf (with_id xs id) (with_id ys id)
agreed_at xs ys id agreed = by (with_id ys id) refl
  where
    none : (x : Option Outcome) → AgreeIf x None
    none None = tt
    none (Some a) = tt

    by : (y : Option Outcome) → with_id ys id ≡ y → AgreeIf (with_id xs id) y
    by None e = none (with_id xs id)
    by (Some b) e = let found = found_in (AgreesWith xs) ys id b agreed e in subst (λ i. AgreeIf (with_id xs i) (Some b)) found.1 found.0

-- the union of lists that agree is commutative
pub order_does_not_matter : OrderDoesNotMatter
order_does_not_matter xs ys both agreed u = record {
  rising = u.rising;
  each = λ id. u.each id ∙ joined_if_either (with_id xs id) (with_id ys id) (agreed_at xs ys id agreed);
}

-- ---- associativity

-- combining outcomes is associative
joined_thrice : (a b c : Outcome) → fuller (fuller a b) c ≡ fuller a (fuller b c)
joined_thrice a b c = by (bytes_eq a.bins empty_histogram) refl
  where
    by : (t : Bool) → bytes_eq a.bins empty_histogram ≡ t → fuller (cond t b a) c ≡ cond t (fuller b c) a
    by true e = refl
    by false e = ap (λ t. cond t c a) e

-- combining optional outcomes is associative
joined_if_thrice : (x y z : Option Outcome) → fuller_if (fuller_if x y) z ≡ fuller_if x (fuller_if y z)
joined_if_thrice None y z = refl
joined_if_thrice (Some a) None z = refl
joined_if_thrice (Some a) (Some b) None = refl
joined_if_thrice (Some a) (Some b) (Some c) = ap Some (joined_thrice a b c)

-- the union is associative
pub grouping_does_not_matter : GroupingDoesNotMatter
grouping_does_not_matter xs ys zs front back all u v w = record {
  rising = w.rising;
  each = λ id. w.each id ∙ ap (λ x. fuller_if x (with_id zs id)) (u.each id) ∙ joined_if_thrice (with_id xs id) (with_id ys id) (with_id zs id)
      ∙ ap (fuller_if (with_id xs id)) (sym (v.each id));
}

-- combining an optional outcome with itself changes nothing
joined_if_own : (y : Option Outcome) → fuller_if y y ≡ y
joined_if_own None = refl
joined_if_own (Some b) = ap Some (joined_own b)

-- adding a list again changes nothing
pub twice_changes_nothing : TwiceChangesNothing
twice_changes_nothing xs ys both u = record {
  rising = u.rising;
  each = λ id. u.each id ∙ ap (fuller_if (with_id xs id)) (sym (joined_if_own (with_id ys id)))
      ∙ sym (joined_if_thrice (with_id xs id) (with_id ys id) (with_id ys id)) ∙ ap (λ x. fuller_if x (with_id ys id)) (sym (u.each id));
}

-- ---- uniqueness

-- an id below all ids is missing
absent_before : (xs : List Outcome) (id : ℕ) → All (λ o. id < o.id) xs → with_id xs id ≡ None
absent_before [] id all = refl
absent_before (x ∷ xs) id all =
    ap (λ b. cond b (Some x) (with_id xs id)) (ne_eqb x.id id (λ e. absurd (omega (arith, all 0 x (omega arith), e))))
    ∙ absent_before xs id (λ k d l. all (suc k) d (omega arith))

-- an id up to the first of rising ids is below the others
greater : (x : Outcome) (xs : List Outcome) (id : ℕ) → AreById (x ∷ xs) → id < suc x.id → All (λ o. id < o.id) xs
greater x xs id rising l = λ k d inside. omega (arith, l, rising 0 (suc k) d (omega arith) (omega arith))

-- the lookup of the first id finds the first outcome
at_head : (x : Outcome) (xs : List Outcome) → with_id (x ∷ xs) x.id ≡ Some x
at_head x xs = ap (λ b. cond b (Some x) (with_id xs x.id)) (eq-eqb x.id x.id refl)

-- the lookup of another id continues after the first outcome
off_head : (x : Outcome) (xs : List Outcome) (id : ℕ) → (x.id ≡ id → ⊥) → with_id (x ∷ xs) id ≡ with_id xs id
off_head x xs id off = ap (λ b. cond b (Some x) (with_id xs id)) (ne_eqb x.id id off)

-- an id below the first of rising ids is missing
before_head : (x : Outcome) (xs : List Outcome) (id : ℕ) → AreById (x ∷ xs) → id < x.id → with_id (x ∷ xs) id ≡ None
before_head x xs id rising l = off_head x xs id (λ e. absurd (omega (arith, l, e))) ∙ absent_before xs id (greater x xs id rising (omega (arith, l)))

-- lists by rising id with equal lookups are equal
one_list : (xs ys : List Outcome) → AreById xs → AreById ys → ((id : ℕ) → with_id xs id ≡ with_id ys id) → xs ≡ ys
one_list [] [] rx ry same = refl
one_list [] (y ∷ ys) rx ry same = absurd (none-some y (same y.id ∙ at_head y ys))
one_list (x ∷ xs) [] rx ry same = absurd (none-some x (sym (same x.id) ∙ at_head x xs))
one_list (x ∷ xs) (y ∷ ys) rx ry same = elim (cases_eq x.id y.id) [
  | inl e ↦ both e (one_list xs ys (rises x xs rx) (rises y ys ry))
  | inr off ↦ absurd (elim (order x.id y.id off) [
    | inl l ↦ none-some x (sym (before_head y ys x.id ry l) ∙ sym (same x.id) ∙ at_head x xs)
    | inr l ↦ none-some y (sym (before_head x xs y.id rx l) ∙ same y.id ∙ at_head y ys)
  ])
]
  where
    order : (a b : ℕ) → (a ≡ b → ⊥) → (a < b) ⊎ (b < a)
    order zero zero off = absurd (off refl)
    order zero (suc b) off = inl (omega arith)
    order (suc a) zero off = inr (omega arith)
    order (suc a) (suc b) off = elim (order a b (λ e. off (ap suc e))) [
      | inl l ↦ inl (omega (arith, l))
      | inr l ↦ inr (omega (arith, l))
    ]

    both : x.id ≡ y.id → (((id : ℕ) → with_id xs id ≡ with_id ys id) → xs ≡ ys) → (x ∷ xs) ≡ (y ∷ ys)
    both e rest =
        let heads : x ≡ y = same_Some x y (sym (at_head x xs) ∙ same x.id ∙ ap (with_id (y ∷ ys)) e ∙ at_head y ys) in
        let rests : xs ≡ ys = rest (λ id. elim (cases_eq x.id id) [
          | inl at ↦ absent_before xs id (greater x xs id rx (omega (arith, at))) ∙ sym (absent_before ys id (greater y ys id ry (omega (arith, at, e))))
          | inr off ↦ sym (off_head x xs id off) ∙ same id ∙ off_head y ys id (λ at. off (e ∙ at))
        ]) in
        ap (λ (o : Outcome). o ∷ xs) heads ∙ ap (λ (os : List Outcome). y ∷ os) rests

-- the union is unique
pub unions_are_one : UnionsAreOne
unions_are_one xs ys both other u v = one_list both other u.rising v.rising (λ id. u.each id ∙ sym (v.each id))
