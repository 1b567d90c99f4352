-- Two searches of a set, each from a unit of its own.
use Rattle.std.proofs.Common.{◌≡◌, ℕ, ◌+◌, ◌<◌, ◌≤◌, Bool, true, false, not, ◌&&◌, ◌||◌, List, [], ◌∷◌, ◌++◌, length, take, get_or, sym, subst, ◌∙◌, inl, inr}
use Rattle.std.specs.Prelude.{◌↔◌}
use Rattle.std.proofs.lemmas.Bool.{and_parts, and_from, both_ways, cases_Bool, or_cases, or_parts, not_from_false, false_from_ne_true, true_from_ne_false}
use Rattle.std.proofs.lemmas.List.{take_more}
use Rattle.audit_model.specs.Graph.{Graph, IsGraph, has, adjacent}
use Rattle.audit_model.specs.Path.{HasPath}
use Rattle.audit_model.specs.Search.{AddsFrom, IsSearch}
use Rattle.audit_model.proofs.Connected.{has-append_left, has-append_right, has-append_parts}
use Rattle.audit_model.proofs.ListFacts.{at_has, has_one, one_has}
use Rattle.audit_model.proofs.Paths.{path_after, path_end, path_joined}
use Rattle.audit_model.proofs.Searching.{adds_passed, adds_pushed, path_turned, search_ends}
use Rattle.dual_graph.specs.Marked.{Marked}

-- ---- one more neighbor of the visited unit

module _ (row : List ℕ) (i : ℕ) (lt : i < length row) where
  more : take i row ++ get_or row i 0 ∷ [] ≡ take (i + 1) row
  more = sym (take_more row i 0 lt)

  -- the neighbor is marked if it is in the set and not marked yet
  pub added_more : (g : Graph) (inside : ℕ → Bool) (old : List ℕ) (before after : Marked) (holds there : Bool)
      → AddsFrom g inside (take i row) old before.items → get_or row i 0 < g.units → holds ≡ inside (get_or row i 0)
      → ((there ≡ true) ↔ (has before.items (get_or row i 0) ≡ true))
      → ((holds && not there) ≡ true → after.items ≡ before.items ++ get_or row i 0 ∷ []) → ((holds && not there) ≡ false → after ≡ before)
      → AddsFrom g inside (take (i + 1) row) old after.items
  added_more g inside old before after holds there adds below is marked fresh same =
      subst (λ (r : List ℕ). AddsFrom g inside r old after.items) more (elim (cases_Bool (holds && not there)) [
        | inl new ↦ subst (λ (t : List ℕ). AddsFrom g inside (take i row ++ get_or row i 0 ∷ []) old t) (sym (fresh new))
            (adds_pushed g inside (take i row) old before.items (get_or row i 0) adds (below, sym is ∙ (and_parts holds (not there) new).0))
        | inr none ↦ subst (λ (t : Marked). AddsFrom g inside (take i row ++ get_or row i 0 ∷ []) old t.items) (sym (same none))
            (adds_passed g inside (take i row) old before.items (get_or row i 0) adds
            (λ is_in. marked.0 (true_from_ne_false there (λ off. both_ways (holds && not there) none (and_from holds (not there) (is ∙ is_in.1) (not_from_false there off))))))
      ])

  -- the sides meet at the neighbor, or have met before
  pub met_more : (others : List ℕ) (met there : Bool) → ((there ≡ true) ↔ (has others (get_or row i 0) ≡ true))
      → (met ≡ true → (v : ℕ) × (has (take i row) v ≡ true) × (has others v ≡ true))
      → (met || there) ≡ true → (v : ℕ) × (has (take (i + 1) row) v ≡ true) × (has others v ≡ true)
  met_more others met there marked before h = elim (or_cases met there h) [
    | inl e ↦ let v = before e in (v.0, subst (λ (r : List ℕ). has r v.0 ≡ true) more (has-append_left (take i row) (get_or row i 0 ∷ []) v.0 v.1), v.2)
    | inr e ↦ (get_or row i 0, subst (λ (r : List ℕ). has r (get_or row i 0) ≡ true) more (has-append_right (take i row) (get_or row i 0 ∷ []) (get_or row i 0) (one_has (get_or row i 0))), marked.0 e)
  ]

  -- the sides have not met
  pub apart_more : (others : List ℕ) (met there : Bool) → ((there ≡ true) ↔ (has others (get_or row i 0) ≡ true))
      → (met ≡ false → (v : ℕ) → has (take i row) v ≡ true → has others v ≡ false)
      → (met || there) ≡ false → (v : ℕ) → has (take (i + 1) row) v ≡ true → has others v ≡ false
  apart_more others met there marked before h v there_v =
      let parts = or_parts met there h in
      elim (has-append_parts (take i row) (get_or row i 0 ∷ []) v (subst (λ (r : List ℕ). has r v ≡ true) (sym more) there_v)) [
        | inl e ↦ before parts.0 v e
        | inr e ↦ false_from_ne_true (has others v) (λ on. both_ways there parts.1 (marked.1 (subst (λ t. has others t ≡ true) (sym (has_one (get_or row i 0) v e)) on)))
      ]

-- ---- the two searches

-- no unit is in both lists
pub AreDisjoint : List ℕ → List ℕ → Type 0
AreDisjoint xs ys = (v : ℕ) → has xs v ≡ true → has ys v ≡ true → ⊥

pub disjoint_turned : (xs ys : List ℕ) → AreDisjoint xs ys → AreDisjoint ys xs
unfolding AreDisjoint
disjoint_turned xs ys apart v hy hx = apart v hx hy

-- two different units
pub disjoint_ones : (x y : ℕ) → (x ≡ y → ⊥) → AreDisjoint (x ∷ []) (y ∷ [])
unfolding AreDisjoint
disjoint_ones x y off v hx hy = off (has_one x v hx ∙ sym (has_one y v hy))

module _ (g : Graph) (inside : ℕ → Bool) where
  -- the lists stay disjoint if no neighbor of the visited unit is in the other one
  pub disjoint_more : (unit : ℕ) (old new others : List ℕ) → AddsFrom g inside (get_or g.neighbours unit []) old new
      → ((v : ℕ) → adjacent g unit v ≡ true → has others v ≡ false) → AreDisjoint old others → AreDisjoint new others
  unfolding AreDisjoint
  disjoint_more unit old new others adds none apart v hn ho = elim (adds.added v hn) [
    | inl e ↦ apart v e ho
    | inr e ↦ both_ways (has others v) (none v e.1) ho
  ]

  module _ (graph : IsGraph g) where
    -- a neighbor of a found unit that the other search has found joins the two
    pub met_joins : (one other next later k v : ℕ) (found others : List ℕ) → IsSearch g inside one next found → IsSearch g inside other later others
        → k < length found → adjacent g (get_or found k 0) v ≡ true → has others v ≡ true → HasPath g inside one other
    met_joins one other next later k v found others search search' l near there =
        let to_v = search'.paths v there in
        path_joined g inside one v other
        (path_after g inside one (get_or found k 0) v (search.paths (get_or found k 0) (at_has found k l)) (path_end g inside other v to_v) near)
        (path_turned g inside graph other v to_v)

    -- a search that has ended did not find what the other has found
    pub ended_apart : (one other next later : ℕ) (found others : List ℕ) → length found ≤ next → IsSearch g inside one next found → IsSearch g inside other later others
        → AreDisjoint found others → HasPath g inside one other → ⊥
    unfolding AreDisjoint
    ended_apart one other next later found others l search search' apart path =
        apart other ((search_ends g inside one found next l search other).1 path) search'.start_in
