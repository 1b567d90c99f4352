-- The joined nodes, by their ids.
use Rattle.std.proofs.Common.{◌≡◌, ◌≢◌, ◌⊎◌, inl, inr, ℕ, ◌<◌, true, not, ◌||◌, List, [], length, Option, Some, None, sym, ap, ◌∙◌, subst}
use Rattle.std.specs.Prelude.{◌==◌}
use Rattle.std.specs.List.{slice_index_or}
use Rattle.std.proofs.lemmas.Bool.{and_parts, and_from, or_cases, or_left, or_right, both_ways, ne_eqb, not-true, eq-eqb, not_from_false, false≢true}
use Rattle.audit_model.specs.declared.setting.Label.{Label}
use Rattle.audit_model.specs.declared.setting.Label.TheVariants.{Word}
use Rattle.audit_model.specs.Below.{filter_below}
use Rattle.audit_model.specs.Graph.{adjacent, has}
use Rattle.audit_statement.specs.Reading.{Document, entries, entry, graph, id_of, joined, lists, node, node_count, same_id}
use Rattle.audit_model.proofs.Below.{any_below_some, any_below_from, get_or-map_below}
use Rattle.audit_model.proofs.Connected.{has-filter_below, filter_below-has}
use Rattle.audit_model.proofs.Labels.{same_equal, same_itself}
use Rattle.audit_statement.specs.Given.{Names}

-- an id that tests as equal to an existing id is that id
pub id_is : (a b : Option Label) (l : Label) → b ≡ Some l → same_id a b ≡ true → a ≡ Some l
id_is None b l e h = absurd (false≢true h)
id_is (Some a) None l e h = cc
id_is (Some a) (Some b) l e h = let same : b ≡ l = cc in ap Some (same_equal a b h ∙ same)

-- two existing equal ids test as equal
pub id_from : (a b : Option Label) (l : Label) → b ≡ Some l → a ≡ Some l → same_id a b ≡ true
id_from a b l e h = ap (λ (o : Option Label). same_id o b) h ∙ ap (same_id (Some l)) e ∙ same_itself l

module _ (d : Document) (ids : List Label) (id_there : (i : ℕ) → i < node_count d → id_of (node d i) ≡ Some (slice_index_or ids i (Word []))) where
  pub names_from : (u v : ℕ) → v < node_count d → lists d u v ≡ true → Names ids (entries d u) v
  names_from u v m h =
      let some = any_below_some (length (entries d u)) (λ place. same_id (id_of (entry d u place)) (id_of (node d v))) h in
      (some.0, some.1, id_is (id_of (entry d u some.0)) (id_of (node d v)) (slice_index_or ids v (Word [])) (id_there v m) some.2)

  pub from_names : (u v : ℕ) → v < node_count d → Names ids (entries d u) v → lists d u v ≡ true
  from_names u v m h = any_below_from (length (entries d u)) (λ place. same_id (id_of (entry d u place)) (id_of (node d v))) h.0 h.1
      (id_from (id_of (entry d u h.0)) (id_of (node d v)) (slice_index_or ids v (Word [])) (id_there v m) h.2)

  row : (u : ℕ) → u < node_count d → slice_index_or (graph d).neighbours u [] ≡ filter_below (node_count d) (joined d u)
  row u l = get_or-map_below (node_count d) (λ i. filter_below (node_count d) (joined d i)) u [] l

  pub edge_from : (u v : ℕ) → u < node_count d → v < node_count d → adjacent (graph d) u v ≡ true
      → (u ≢ v) × (Names ids (entries d u) v ⊎ Names ids (entries d v) u)
  edge_from u v l m h =
      let at : has (filter_below (node_count d) (joined d u)) v ≡ true = subst (λ (r : List ℕ). has r v ≡ true) (row u l) h in
      let parts = and_parts (not (u == v)) (lists d u v || lists d v u) (has-filter_below (node_count d) (joined d u) v at).1 in (
        λ same. both_ways (u == v) (not-true (u == v) parts.0) (eq-eqb u v same),
        elim (or_cases (lists d u v) (lists d v u) parts.1) [
          | inl one ↦ inl (names_from u v m one)
          | inr two ↦ inr (names_from v u l two)
        ],
      )

  pub from_edge : (u v : ℕ) → u < node_count d → v < node_count d
      → (u ≢ v) × (Names ids (entries d u) v ⊎ Names ids (entries d v) u)
      → adjacent (graph d) u v ≡ true
  from_edge u v l m h =
      let either : (lists d u v || lists d v u) ≡ true = elim h.1 [
        | inl one ↦ or_left (lists d u v) (lists d v u) (from_names u v m one)
        | inr two ↦ or_right (lists d u v) (lists d v u) (from_names v u l two)
      ] in
      subst (λ (r : List ℕ). has r v ≡ true) (sym (row u l)) (filter_below-has (node_count d) (joined d u) v m
      (and_from (not (u == v)) (lists d u v || lists d v u) (not_from_false (u == v) (ne_eqb u v h.0)) either))
