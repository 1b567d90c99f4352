-- Marking the mates of a unit one after another.
use Rattle.std.proofs.Common.{◌≡◌, ℕ, ◌+◌, ◌<◌, true, List, [], ◌∷◌, ◌++◌, length, get_or, set, take, refl, sym, ap, ◌∙◌, subst, inl, inr, arith, get_or-set_same, get_or-set_other, length-append}
use Rattle.std.proofs.lemmas.Bool.{cases_eq, false≢true}
use Rattle.std.proofs.lemmas.List.{get_or-take, length-take-le, get_or_append_left, get_or_push}
use Rattle.audit_model.specs.Graph.{Graph, has, IsIn}
use Rattle.audit_model.specs.Local.{is_mate}
use Rattle.audit_model.proofs.Connected.{has-append_left, has-append_right, has-append_parts}
use Rattle.audit_model.proofs.ListFacts.{has_one, one_has, has_at, rises}
use Rattle.dual_graph.proofs.Marking.{is_zero}
use Rattle.dual_graph.specs.Marked.{Marked, IsMarked}
use Rattle.contig.proofs.Between.{IsSeeding}

-- an item of a rising list is not among those before it
pub not_before : (xs : List ℕ) (k : ℕ) → ((j : ℕ) → j + 1 < length xs → get_or xs j 0 < get_or xs (j + 1) 0) → k < length xs → has (take k xs) (get_or xs k 0) ≡ true → ⊥
not_before xs k rising b h =
    let found = has_at (take k xs) (get_or xs k 0) h in
    let before : found.0 < k = omega (arith, found.1, length-take-le k xs (omega arith)) in
    let same : get_or xs found.0 0 ≡ get_or xs k 0 = sym (get_or-take k xs found.0 0 before) ∙ found.2 in
    omega (arith, rises xs found.0 k rising before b, same)

module _ (g : Graph) (plan : List ℕ) (u : ℕ) where
  pub seeding_none : (m : Marked) → m.units ≡ g.units → IsMarked m → m.items ≡ [] → IsSeeding g plan u [] 0 m
  seeding_none m units marked none = record {
    units = units;
    marked = marked;
    small = λ v. let z = no_label v in omega (arith, z);
    seeds = λ l p le. absurd (omega arith);
    single = λ v w p e. let z = no_label v in absurd (omega (arith, z, p));
    mates = λ v p. let z = no_label v in absurd (omega (arith, z, p));
    complete = λ v i h. absurd (false≢true h);
    amount = ap length none;
    order = λ k l. absurd (omega (arith, l, ap length none));
  }
    where
      no_label : (v : ℕ) → get_or m.labels v 0 ≡ 0
      no_label v = is_zero (get_or m.labels v 0) (λ p. false≢true (subst (λ (xs : List ℕ). has xs v ≡ true) none (marked.listed v p)))

  module _ (row : List ℕ) (last : ℕ) (m : Marked) (v : ℕ) (s : IsSeeding g plan u row last m) where
    -- the next neighbor is not a mate
    pub seeding_passed : (IsIn g (is_mate g plan u) v → ⊥) → IsSeeding g plan u (row ++ v ∷ []) last m
    seeding_passed other = record {
      units = s.units;
      marked = s.marked;
      small = s.small;
      seeds = s.seeds;
      single = s.single;
      mates = λ w p. let was = s.mates w p in (was.0, has-append_left row (v ∷ []) w was.1);
      complete = λ w i h. elim (has-append_parts row (v ∷ []) w h) [
        | inl e ↦ s.complete w i e
        | inr e ↦ absurd (other (subst (λ t. IsIn g (is_mate g plan u) t) (sym (has_one v w e)) i))
      ];
      amount = s.amount;
      order = s.order;
    }

    -- the next neighbor is a mate, and has no label yet
    pub not_labelled : (has row v ≡ true → ⊥) → get_or m.labels v 0 ≡ 0
    not_labelled fresh = is_zero (get_or m.labels v 0) (λ p. fresh (s.mates v p).1)

    pub seeding_marked : (after : Marked) → (has row v ≡ true → ⊥) → IsIn g (is_mate g plan u) v → after.units ≡ m.units → after.items ≡ m.items ++ v ∷ [] → after.labels ≡ set m.labels v (last + 1) → IsMarked after
        → IsSeeding g plan u (row ++ v ∷ []) (last + 1) after
    seeding_marked after fresh i eu ei el marked = record {
      units = eu ∙ s.units;
      marked = marked;
      small = λ w. elim (cases_eq w v) [
        | inl e ↦ let a = at w e in omega (arith, a)
        | inr e ↦ let o = off w e in omega (arith, o, s.small w)
      ];
      seeds = λ l p le. elim (cases_eq l (last + 1)) [
        | inl e ↦ (v, at v refl ∙ sym e)
        | inr e ↦
            let seed = s.seeds l p (omega arith) in
            (seed.0, off seed.0 (λ h. let z : get_or m.labels seed.0 0 ≡ 0 = subst (λ t. get_or m.labels t 0 ≡ 0) (sym h) none in omega (arith, seed.1, z, p)) ∙ seed.1)
      ];
      single = λ a b p e. elim (cases_eq a v) [
        | inl ea ↦ elim (cases_eq b v) [
          | inl eb ↦ ea ∙ sym eb
          | inr eb ↦ let x = at a ea in let y = off b eb in let z = s.small b in absurd (omega (arith, e, x, y, z))
        ]
        | inr ea ↦ elim (cases_eq b v) [
          | inl eb ↦ let x = off a ea in let y = at b eb in let z = s.small a in absurd (omega (arith, e, x, y, z))
          | inr eb ↦ s.single a b (subst (λ t. 0 < t) (off a ea) p) (sym (off a ea) ∙ e ∙ off b eb)
        ]
      ];
      mates = λ w p. elim (cases_eq w v) [
        | inl e ↦ (subst (λ t. IsIn g (is_mate g plan u) t) (sym e) i, has-append_right row (v ∷ []) w (subst (λ t. has (v ∷ []) t ≡ true) (sym e) (one_has v)))
        | inr e ↦ let was = s.mates w (subst (λ t. 0 < t) (off w e) p) in (was.0, has-append_left row (v ∷ []) w was.1)
      ];
      complete = λ w j h. elim (cases_eq w v) [
        | inl e ↦ let a = at w e in omega (arith, a)
        | inr e ↦ elim (has-append_parts row (v ∷ []) w h) [
          | inl f ↦ subst (λ t. 0 < t) (sym (off w e)) (s.complete w j f)
          | inr f ↦ absurd (e (sym (has_one v w f)))
        ]
      ];
      amount = omega (arith, ap length ei, length-append m.items (v ∷ []), s.amount);
      order = λ k l. elim (cases_eq k last) [
        | inl e ↦
            let item : get_or after.items k 0 ≡ v = ap (λ (t : List ℕ). get_or t k 0) ei ∙ get_or_push m.items v 0 k (s.amount ∙ sym e) in
            at (get_or after.items k 0) item ∙ omega (arith, e)
        | inr off_last ↦
            let before : k < length m.items = omega (arith, l, ap length ei, length-append m.items (v ∷ []), s.amount) in
            let item : get_or after.items k 0 ≡ get_or m.items k 0 = ap (λ (t : List ℕ). get_or t k 0) ei ∙ get_or_append_left m.items (v ∷ []) 0 k before in
            let was : get_or m.labels (get_or m.items k 0) 0 ≡ k + 1 = s.order k before in
            ap (λ t. get_or after.labels t 0) item
            ∙ off (get_or m.items k 0) (λ h. let z : get_or m.labels (get_or m.items k 0) 0 ≡ 0 = subst (λ t. get_or m.labels t 0 ≡ 0) (sym h) none in omega (arith, was, z)) ∙ was
      ];
    }
      where
        none : get_or m.labels v 0 ≡ 0
        none = not_labelled fresh

        in_labels : v < length m.labels
        in_labels = subst (λ t. v < t) (sym (s.marked.width ∙ s.units)) i.0

        at : (w : ℕ) → w ≡ v → get_or after.labels w 0 ≡ last + 1
        at w e = ap (λ (t : List ℕ). get_or t w 0) el ∙ subst (λ t. get_or (set m.labels v (last + 1)) t 0 ≡ last + 1) (sym e) (get_or-set_same m.labels v (last + 1) 0 in_labels)

        off : (w : ℕ) → (w ≡ v → ⊥) → get_or after.labels w 0 ≡ get_or m.labels w 0
        off w e = ap (λ (t : List ℕ). get_or t w 0) el ∙ get_or-set_other m.labels v w (last + 1) 0 e
