use Rattle.std.proofs.Common.{◌≡◌, ℕ, List, length, true, sym, ap, subst, ◌∙◌, inl, inr, arith}
use Rattle.std.specs.Prelude.{nat_lt, ◌↔◌}
use Rattle.std.proofs.lemmas.Bool.{lt-ltb, le-ltb}
use Rattle.audit_model.specs.declared.fault.GraphFault.TheVariants.{TooManyEdges, UnknownNeighbour}
use Rattle.audit_model.specs.Graph.{adjacent}
use Rattle.audit_model.proofs.Options.{none_or, or_of_none}
use Rattle.audit_model.proofs.Results.{match_map}
use Rattle.audit_statement.specs.Reading.{refused_if}
use Rattle.dual_graph.specs.Pairs.{ArePairs, Joins}
use Rattle.dual_json.specs.Edges.{edges_in, first_entry_in, is_unknown}
use Rattle.dual_json.specs.Shape.{lists_in}
use Rattle.dual_json.proofs.Joined.{edges_pairs, edges_are, built_graph}
use Rattle.dual_json.proofs.Listed.{length-lists_in}
use Rattle.dual_json.proofs.Shapes.{not_refused, is_refused}
use Rattle.dual_json.proofs.edges.graph_of.Goals as goal

pub returns-then-edges-gt400000 : goal.returns-then-edges-gt400000
returns-then-edges-gt400000 c =
    let edges : edges_in c.args.index.now (lists_in c.args.adjacency.now) ≡ c.len-edges.result =
    omega (
      arith,
      edges_are c.args.index.now (lists_in c.args.adjacency.now)
          (length-lists_in c.args.adjacency.now ∙ c.requires.lists ∙ sym c.requires.ids) c.requires.different c.in_ok-pairs.pairs.items c.put_in_order.new.pairs.items c.in_ok-pairs.ensures.1
          c.put_in_order.ensures.same c.put_in_order.ensures.rising,
      c.len-edges.ensures,
      c.put_in_order.new.pairs.ok.0,
    ) in
    inr (none_or (first_entry_in (is_unknown c.args.index.now) UnknownNeighbour (lists_in c.args.adjacency.now)) _ c.in_ok-pairs.ensures.0
    ∙ ap (λ m. refused_if (nat_lt 400000 m) (TooManyEdges m)) edges ∙ is_refused (nat_lt 400000 c.len-edges.result) (TooManyEdges c.len-edges.result) (lt-ltb 400000 c.len-edges.result c.if-edges-gt400000.true))

pub graph_from-requires-clause-pairs : goal.graph_from-requires-clause-pairs
graph_from-requires-clause-pairs c =
    subst (λ (n : ℕ). ArePairs n c.deref.result.now) c.requires.ids
    (subst (λ (xs : List (ℕ × ℕ)). ArePairs (length c.args.index.now) xs) (sym c.deref.ensures.value) (edges_pairs c.args.index.now (lists_in c.args.adjacency.now)
    (length-lists_in c.args.adjacency.now ∙ c.requires.lists ∙ sym c.requires.ids) c.requires.different c.in_ok-pairs.pairs.items c.put_in_order.new.pairs.items c.in_ok-pairs.ensures.1
    c.put_in_order.ensures.same c.put_in_order.ensures.rising))

pub returns : goal.returns
returns c =
    let edges : edges_in c.args.index.now (lists_in c.args.adjacency.now) ≡ c.len-edges.result =
    omega (
      arith,
      edges_are c.args.index.now (lists_in c.args.adjacency.now)
          (length-lists_in c.args.adjacency.now ∙ c.requires.lists ∙ sym c.requires.ids) c.requires.different c.in_ok-pairs.pairs.items c.put_in_order.new.pairs.items c.in_ok-pairs.ensures.1
          c.put_in_order.ensures.same c.put_in_order.ensures.rising,
      c.len-edges.ensures,
      c.put_in_order.new.pairs.ok.0,
    ) in
    match_map c.graph_from.result _ _ _ _ c.graph_from.ensures
    (λ g h. (
      or_of_none (first_entry_in (is_unknown c.args.index.now) UnknownNeighbour (lists_in c.args.adjacency.now)) _ c.in_ok-pairs.ensures.0
          (not_refused (nat_lt 400000 (edges_in c.args.index.now (lists_in c.args.adjacency.now))) (TooManyEdges (edges_in c.args.index.now (lists_in c.args.adjacency.now)))
          (ap (nat_lt 400000) edges ∙ le-ltb 400000 c.len-edges.result c.if-edges-gt400000.false)),
      built_graph c.args.index.now (lists_in c.args.adjacency.now)
          (length-lists_in c.args.adjacency.now ∙ c.requires.lists ∙ sym c.requires.ids) c.requires.different c.in_ok-pairs.pairs.items c.put_in_order.new.pairs.items c.in_ok-pairs.ensures.1
          c.put_in_order.ensures.same c.put_in_order.ensures.rising g h.0 (h.1 ∙ sym c.requires.ids)
          (subst (λ (xs : List (ℕ × ℕ)). (u v : ℕ) → (adjacent g u v ≡ true) ↔ Joins xs u v) c.deref.ensures.value h.2),
      h.0,
      omega (arith, edges, c.if-edges-gt400000.false),
    ))
    (λ f e. inl e)
