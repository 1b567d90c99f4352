-- The steps of a search, and its result.
use Rattle.std.proofs.Common.{◌≡◌, ℕ, ◌+◌, ◌<◌, ◌≤◌, Bool, true, List, [], ◌∷◌, ◌++◌, length, get_or, refl, sym, ◌∙◌, subst, inl, inr, arith, length-append}
use Rattle.std.specs.Prelude.{◌↔◌}
use Rattle.std.proofs.lemmas.Bool.{cases_eq, false≢true}
use Rattle.std.proofs.lemmas.List.{get_or_append_left}
use Rattle.audit_model.specs.Graph.{Graph, IsGraph, has, adjacent, IsIn}
use Rattle.audit_model.specs.Path.{IsPath, HasPath, IsConnected}
use Rattle.audit_model.proofs.Connected.{has-append_left, has-append_right, has-append_parts}
use Rattle.audit_model.proofs.ListFacts.{has_one, one_has, has_at, at_has}
use Rattle.audit_model.proofs.Paths.{path_after, path_joined, path_stays}
use Rattle.audit_model.specs.Search.{AddsFrom, IsSearch}

module _ (g : Graph) (inside : ℕ → Bool) where
  pub adds_nothing : (found : List ℕ) → AddsFrom g inside [] found found
  adds_nothing found = record {
    longer = omega arith;
    front = λ k l. refl;
    kept = λ v h. h;
    added = λ v h. inl h;
    each = λ v i h. absurd (false≢true h);
  }

  -- the next unit of the row is already found, or is not in the set
  pub adds_passed : (row old new : List ℕ) (v : ℕ) → AddsFrom g inside row old new → (IsIn g inside v → has new v ≡ true) → AddsFrom g inside (row ++ v ∷ []) old new
  adds_passed row old new v adds there = record {
    longer = adds.longer;
    front = adds.front;
    kept = adds.kept;
    added = λ w h. elim (adds.added w h) [ inl e ↦ inl e | inr e ↦ inr (e.0, has-append_left row (v ∷ []) w e.1) ];
    each = λ w i h. elim (has-append_parts row (v ∷ []) w h) [
      | inl e ↦ adds.each w i e
      | inr e ↦ subst (λ t. has new t ≡ true) (has_one v w e) (there (subst (λ t. IsIn g inside t) (sym (has_one v w e)) i))
    ];
  }

  -- the next unit of the row is added
  pub adds_pushed : (row old new : List ℕ) (v : ℕ) → AddsFrom g inside row old new → IsIn g inside v → AddsFrom g inside (row ++ v ∷ []) old (new ++ v ∷ [])
  adds_pushed row old new v adds i = record {
    longer = omega (arith, adds.longer, length-append new (v ∷ []));
    front = λ k l. get_or_append_left new (v ∷ []) 0 k (omega (arith, adds.longer)) ∙ adds.front k l;
    kept = λ w h. has-append_left new (v ∷ []) w (adds.kept w h);
    added = λ w h. elim (has-append_parts new (v ∷ []) w h) [
      | inl e ↦ elim (adds.added w e) [ inl f ↦ inl f | inr f ↦ inr (f.0, has-append_left row (v ∷ []) w f.1) ]
      | inr e ↦ inr (subst (λ t. IsIn g inside t) (has_one v w e) i, has-append_right row (v ∷ []) w e)
    ];
    each = λ w j h. elim (has-append_parts row (v ∷ []) w h) [
      | inl e ↦ has-append_left new (v ∷ []) w (adds.each w j e)
      | inr e ↦ has-append_right new (v ∷ []) w e
    ];
  }

  -- ---- the search

  module _ (start : ℕ) where
    pub search_begins : IsIn g inside start → IsSearch g inside start 0 (start ∷ [])
    search_begins i = record {
      start_in = one_has start;
      paths = λ v h. (v ∷ [], (sym (has_one start v h), refl, subst (λ t. IsIn g inside t) (has_one start v h) i));
      closed = λ k l. absurd (omega arith);
    }

    pub search_goes_on : (next : ℕ) (old new row : List ℕ) → row ≡ get_or g.neighbours (get_or old next 0) [] → next < length old
        → IsSearch g inside start next old → AddsFrom g inside row old new → IsSearch g inside start (next + 1) new
    search_goes_on next old new row is l search adds = record {
      start_in = adds.kept start search.start_in;
      paths = λ v h. elim (adds.added v h) [
        | inl e ↦ search.paths v e
        | inr e ↦ path_after g inside start (get_or old next 0) v (search.paths (get_or old next 0) (at_has old next l)) e.0 (subst (λ r. has r v ≡ true) is e.1)
      ];
      closed = λ k below v i h. elim (cases_eq k next) [
        | inl at ↦ adds.each v i (subst (λ r. has r v ≡ true) (sym is)
            (subst (λ t. adjacent g t v ≡ true) (adds.front next l) (subst (λ j. adjacent g (get_or new j 0) v ≡ true) at h)))
        | inr off ↦ adds.kept v (search.closed k (omega arith) v i
            (subst (λ t. adjacent g t v ≡ true) (adds.front k (omega arith)) h))
      ];
    }

    pub search_ends : (found : List ℕ) (next : ℕ) → length found ≤ next → IsSearch g inside start next found
        → (v : ℕ) → (has found v ≡ true) ↔ HasPath g inside start v
    search_ends found next l search v = (
      search.paths v,
      λ path. path_stays g inside (λ t. has found t ≡ true)
          (λ x w hx i a. let place = has_at found x hx in
          search.closed place.0 (omega (arith, place.1)) w i (subst (λ t. adjacent g t w ≡ true) (sym place.2) a))
          start v path search.start_in,
    )

  -- ---- connectedness

  module _ (graph : IsGraph g) where
    flip : (units : List ℕ) (x y : ℕ) → IsPath g inside units x y → HasPath g inside y x
    flip [] x y p = absurd p
    flip (w ∷ []) x y p = (w ∷ [], (p.1, p.0, p.2))
    flip (w ∷ t ∷ rest) x y p = subst (λ v. HasPath g inside y v) p.0 (path_after g inside y t w (flip (t ∷ rest) t y p.3) p.1 (graph.symmetric t w ∙ p.2))

    pub path_turned : (x y : ℕ) → HasPath g inside x y → HasPath g inside y x
    path_turned x y path = flip path.0 x y path.1

    pub whole : (start : ℕ) (found : List ℕ) → IsIn g inside start → ((v : ℕ) → (has found v ≡ true) ↔ HasPath g inside start v)
        → (((v : ℕ) → IsIn g inside v → has found v ≡ true) ↔ IsConnected g inside)
    whole start found i reached = (
      λ all. record {
        inhabited = (start, i);
        joined = λ x y ix iy.
            let to_x = (reached x).0 (all x ix) in
            path_joined g inside x start y (flip to_x.0 start x to_x.1) ((reached y).0 (all y iy));
      },
      λ connected v iv. (reached v).1 (connected.joined start v i iv),
    )
