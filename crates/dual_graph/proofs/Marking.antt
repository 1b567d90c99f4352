-- Marking a unit and clearing all marks keep `IsMarked`.
use Rattle.std.proofs.Common.{◌≡◌, ℕ, zero, suc, ◌+◌, ◌<◌, ◌≤◌, true, false, List, [], ◌∷◌, ◌++◌, length, take, get_or, set, refl, sym, ap, ◌∙◌, subst, inl, inr, arith, length-append, length-set, get_or-set_same, get_or-set_other}
use Rattle.std.specs.Prelude.{◌⊎◌}
use Rattle.std.proofs.lemmas.Bool.{cases_eq, false≢true, false_from_ne_true}
use Rattle.std.proofs.lemmas.List.{length-take-le, take_more_set, take-set, set-get_or}
use Rattle.audit_model.specs.Apart.{AllApart}
use Rattle.audit_model.specs.Graph.{has}
use Rattle.audit_model.proofs.Connected.{has-append_left, has-append_right, has-append_parts}
use Rattle.audit_model.proofs.ListFacts.{has_one, one_has, has_at, apart_more, apart_le}
use Rattle.dual_graph.specs.Marked.{Marked, IsMarked}

-- a unit without a label is not in the list
pub absent : (m : Marked) (u : ℕ) → IsMarked m → get_or m.labels u 0 ≡ 0 → has m.items u ≡ false
absent m u marked none = false_from_ne_true (has m.items u) (λ h. let l = marked.labelled u h in absurd (omega (arith, l, none)))

-- at most all units are marked
pub items_le : (m : Marked) → IsMarked m → length m.items ≤ m.units
items_le m marked = apart_le m.units m.items marked.apart marked.below

-- after one more mark, all marked units are still units of the graph
has_more : (m : Marked) (u v : ℕ) → IsMarked m → u < m.units → has (m.items ++ u ∷ []) v ≡ true → v < m.units
has_more m u v marked l h = elim (has-append_parts m.items (u ∷ []) v h) [
  | inl e ↦ marked.below v e
  | inr e ↦ subst (λ t. t < m.units) (has_one u v e) l
]

-- an unmarked unit leaves capacity for one more mark
pub has_room : (m : Marked) (u : ℕ) → IsMarked m → u < m.units → get_or m.labels u 0 ≡ 0 → length m.items < m.units
has_room m u marked l none =
    let le = apart_le m.units (m.items ++ u ∷ []) (apart_more m.items u marked.apart (absent m u marked none)) (λ v h. has_more m u v marked l h) in
    omega (arith, le, length-append m.items (u ∷ []))

-- marking an unlabelled unit keeps the invariant
pub marked_more : (m : Marked) (u l n : ℕ) (items : List ℕ) → IsMarked m → u < m.units → get_or m.labels u 0 ≡ 0 → 0 < l
    → n ≡ m.units → items ≡ m.items ++ u ∷ [] → IsMarked (record { units = n; items = items; labels = set m.labels u l })
marked_more m u l n items marked lt none pos same grown = record {
  width = length-set m.labels u l ∙ marked.width ∙ sym same;
  apart = subst AllApart (sym grown) (apart_more m.items u marked.apart (absent m u marked none));
  below = λ v h. subst (λ k. v < k) (sym same) (has_more m u v marked lt (subst (λ xs. has xs v ≡ true) grown h));
  labelled = λ v h. elim (cases_eq v u) [
    | inl e ↦ subst (λ k. 0 < get_or (set m.labels u l) k 0) (sym e) (subst (λ k. 0 < k) (sym (get_or-set_same m.labels u l 0 inside)) pos)
    | inr off ↦ subst (λ k. 0 < k) (sym (get_or-set_other m.labels u v l 0 off))
        (elim (has-append_parts m.items (u ∷ []) v (subst (λ xs. has xs v ≡ true) grown h)) [
          | inl e ↦ marked.labelled v e
          | inr e ↦ absurd (off (sym (has_one u v e)))
        ])
  ];
  listed = λ v p. subst (λ xs. has xs v ≡ true) (sym grown) (elim (cases_eq v u) [
    | inl e ↦ has-append_right m.items (u ∷ []) v (subst (λ k. has (u ∷ []) k ≡ true) (sym e) (one_has u))
    | inr off ↦ has-append_left m.items (u ∷ []) v (marked.listed v (subst (λ k. 0 < k) (get_or-set_other m.labels u v l 0 off) p))
  ]);
}
  where
    inside : u < length m.labels
    inside = subst (λ k. u < k) (sym marked.width) lt

-- a write past the end of the list, with or without a mark, keeps the invariant
pub marked_if : (labels order : List ℕ) (count u l t r : ℕ) → IsMarked (record { units = length labels; items = take count order; labels = labels })
    → length order ≡ length labels + 1 → count ≤ length labels → u < length labels → 0 < l
    → ((t ≡ l) × (r ≡ 1) × (get_or labels u 0 ≡ 0)) ⊎ ((t ≡ get_or labels u 0) × (r ≡ 0))
    → (count + r ≤ length (set labels u t)) × IsMarked (record { units = length (set labels u t); items = take (count + r) (set order count u); labels = set labels u t })
marked_if labels order count u l t r marked long le lt pos puts = elim puts [
  | inl e ↦
      let m : Marked = record { units = length labels; items = take count order; labels = labels } in
      let more = has_room m u marked lt e.2 in
      let room : count < length order = omega (arith, le, long) in (
        omega (arith, more, e.1, length-take-le count order (omega (arith, le, long)), length-set labels u t),
        subst (λ k. IsMarked (record { units = length (set labels u k); items = take (count + r) (set order count u); labels = set labels u k })) (sym e.0)
            (marked_more m u l (length (set labels u l)) (take (count + r) (set order count u)) marked lt e.2 pos (length-set labels u l)
            (ap (λ k. take (count + k) (set order count u)) e.1 ∙ take_more_set order count u room)),
      )
  | inr e ↦
      let labels_same : set labels u t ≡ labels = ap (λ k. set labels u k) e.0 ∙ set-get_or labels u 0 in
      let items_same : take (count + r) (set order count u) ≡ take count order =
      ap (λ k. take k (set order count u)) (omega (arith, e.1)) ∙ take-set order count u in (
        omega (arith, le, e.1, length-set labels u t),
        subst (λ (xs : List ℕ). IsMarked (record { units = length xs; items = take (count + r) (set order count u); labels = xs })) (sym labels_same)
            (subst (λ (xs : List ℕ). IsMarked (record { units = length labels; items = xs; labels = labels })) (sym items_same) marked),
      )
]

-- labels that are all 0 meet the invariant with an empty list
pub marked_none : (labels : List ℕ) → ((v : ℕ) → get_or labels v 0 ≡ 0) → IsMarked (record { units = length labels; items = []; labels = labels })
marked_none labels none = record {
  width = refl;
  apart = tt;
  below = λ v h. absurd (false≢true h);
  labelled = λ v h. absurd (false≢true h);
  listed = λ v p. absurd (omega (arith, p, none v));
}

-- the labels after the first k units of the list were cleared
pub record IsClearing (items before labels : List ℕ) (k : ℕ) : Type 0 where
  pub width : length labels ≡ length before
  pub gone : (v : ℕ) → 0 < get_or labels v 0 → (0 < get_or before v 0) × ((j : ℕ) → j < k → get_or items j 0 ≡ v → ⊥)

-- a number that is not above zero is zero
pub is_zero : (n : ℕ) → (0 < n → ⊥) → n ≡ 0
is_zero zero h = refl
is_zero (suc n) h = absurd (h (omega arith))

-- after all marked units were cleared, no unit has a label
pub clearing_done : (m : Marked) (labels : List ℕ) (k : ℕ) → IsMarked m → IsClearing m.items m.labels labels k → length m.items ≤ k → (v : ℕ) → get_or labels v 0 ≡ 0
clearing_done m labels k marked c l v = is_zero (get_or labels v 0) (λ p.
    let was = c.gone v p in
    let place = has_at m.items v (marked.listed v was.0) in
    was.1 place.0 (omega (arith, place.1)) place.2)
