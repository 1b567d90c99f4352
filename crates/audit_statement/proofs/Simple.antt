-- The graph of a document is simple, and its lists rise.
use Rattle.std.proofs.Common.{◌≡◌, ℕ, ◌<◌, true, not, ◌||◌, List, [], refl, sym, subst, inl, inr, arith}
use Rattle.std.specs.Prelude.{◌==◌}
use Rattle.std.proofs.lemmas.Bool.{and_parts, and_from, or_cases, or_left, or_right, cases_lt, eq-eqb, ne_eqb, false≢true, both_ways, false_from_ne_true, not_from_false, not-true}
use Rattle.std.proofs.lemmas.List.{get_or_past}
use Rattle.audit_model.specs.Below.{map_below, filter_below}
use Rattle.audit_model.specs.Graph.{has, adjacent}
use Rattle.audit_model.specs.Local.{IsSimple}
use Rattle.audit_model.proofs.Connected.{has-filter_below, filter_below-has}
use Rattle.audit_model.proofs.Below.{get_or-map_below, length-map_below}
use Rattle.audit_model.proofs.Bools.{same_bool}
use Rattle.audit_statement.specs.Reading.{Document, node_count, lists, joined, graph}

module _ (d : Document) where
  -- units are adjacent exactly if their nodes are
  adjacent_joined : (u v : ℕ) → adjacent (graph d) u v ≡ true → (u < node_count d) × (v < node_count d) × (joined d u v ≡ true)
  adjacent_joined u v h = elim (cases_lt u (node_count d)) [
    | inl l ↦
        let found = has-filter_below (node_count d) (joined d u) v
        (subst (λ (row : List ℕ). has row v ≡ true) (get_or-map_below (node_count d) (λ i. filter_below (node_count d) (joined d i)) u [] l) h) in
        (l, found.0, found.1)
    | inr past ↦ absurd (false≢true (subst (λ (row : List ℕ). has row v ≡ true)
        (get_or_past (map_below (node_count d) (λ i. filter_below (node_count d) (joined d i))) u []
        (omega (arith, length-map_below (node_count d) (λ i. filter_below (node_count d) (joined d i))))) h))
  ]

  joined_adjacent : (u v : ℕ) → u < node_count d → v < node_count d → joined d u v ≡ true → adjacent (graph d) u v ≡ true
  joined_adjacent u v lu lv h =
      subst (λ (row : List ℕ). has row v ≡ true) (sym (get_or-map_below (node_count d) (λ i. filter_below (node_count d) (joined d i)) u [] lu))
      (filter_below-has (node_count d) (joined d u) v lv h)

  joined_turned : (u v : ℕ) → joined d u v ≡ true → joined d v u ≡ true
  joined_turned u v h =
      let parts = and_parts (not (u == v)) (lists d u v || lists d v u) h in
      and_from (not (v == u)) (lists d v u || lists d u v)
      (not_from_false (v == u) (ne_eqb v u (λ e. both_ways (u == v) (not-true (u == v) parts.0) (eq-eqb u v (sym e)))))
      (elim (or_cases (lists d u v) (lists d v u) parts.1) [
        | inl e ↦ or_right (lists d v u) (lists d u v) e
        | inr e ↦ or_left (lists d v u) (lists d u v) e
      ])

  turned : (u v : ℕ) → adjacent (graph d) u v ≡ true → adjacent (graph d) v u ≡ true
  turned u v h = let parts = adjacent_joined u v h in joined_adjacent v u parts.1 parts.0 (joined_turned u v parts.2)

  pub graph_is_simple : IsSimple (graph d)
  graph_is_simple = record {
    symmetric = λ u v. same_bool (adjacent (graph d) u v) (adjacent (graph d) v u) (turned u v) (turned v u);
    loopless = λ u. false_from_ne_true (adjacent (graph d) u u) (λ h.
        let parts = and_parts (not (u == u)) (lists d u u || lists d u u) (adjacent_joined u u h).2 in
        both_ways (u == u) (not-true (u == u) parts.0) (eq-eqb u u refl));
  }
