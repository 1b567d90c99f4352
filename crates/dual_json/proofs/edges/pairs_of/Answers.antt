use Rattle.std.proofs.Common.{◌≡◌, ℕ, length, Some, None, refl, sym, ap, ◌∙◌, subst, inl, inr, arith, rules}
use Rattle.std.specs.Prelude.{◌⊎◌}
use Rattle.std.specs.Option.{option_map}
use Rattle.audit_model.specs.declared.fault.GraphFault.TheVariants.{Memory, UnknownNeighbour}
use Rattle.audit_model.specs.First.{first_some_below}
use Rattle.audit_model.proofs.First.{first_some_below_more, first_some_below_found}
use Rattle.dual_json.specs.Edges.{entries_at, first_in, first_entry_in, is_unknown, AreListed}
use Rattle.dual_json.specs.Shape.{views, lists_in}
use Rattle.dual_json.proofs.Edging.{listed_none, listed_more}
use Rattle.dual_json.proofs.Listed.{length-lists_in, length-views}
use Rattle.dual_json.proofs.edges.pairs_of.Goals as goal

pub loop-node-init : goal.loop-node-init
loop-node-init c = (refl, listed_none c.args.index.now (lists_in c.args.adjacency.now) c.new-pairs.result.items c.new-pairs.ensures.items)

pub returns-in_err-add_edges : goal.returns-in_err-add_edges
returns-in_err-add_edges c =
    let f = c.in_err-add_edges.field-0.0 in
    let h : (f ≡ Memory) ⊎ (first_entry_in (is_unknown c.args.index.now) UnknownNeighbour (lists_in c.args.adjacency.now) ≡ Some f) = elim c.in_err-add_edges.ensures [
      | inl e ↦ inl e
      | inr e ↦
          let l = c.loop-node-test.true in
          inr (first_some_below_found (length (lists_in c.args.adjacency.now)) c.loop-node.node
          (λ i. option_map (UnknownNeighbour i) (first_in (is_unknown c.args.index.now) (entries_at (lists_in c.args.adjacency.now) i))) f (omega (arith, l, length-lists_in c.args.adjacency.now)) c.loop-node.invariant.0
          (ap (λ es. option_map (UnknownNeighbour c.loop-node.node) (first_in (is_unknown c.args.index.now) es)) (sym c.entries_of.ensures) ∙ e))
    ] in
    search rules

pub loop-node-preserved : goal.loop-node-preserved
loop-node-preserved c = (
  first_some_below_more c.loop-node.node (λ i. option_map (UnknownNeighbour i) (first_in (is_unknown c.args.index.now) (entries_at (lists_in c.args.adjacency.now) i))) c.loop-node.invariant.0
      (ap (λ es. option_map (UnknownNeighbour c.loop-node.node) (first_in (is_unknown c.args.index.now) es)) (sym c.entries_of.ensures)
      ∙ ap (option_map (UnknownNeighbour c.loop-node.node)) c.in_ok-add_edges.ensures.0),
  listed_more c.args.index.now (lists_in c.args.adjacency.now) c.loop-node.node _ _ (views c.entries_of.result.now) (length c.entries_of.result.now) c.loop-node.invariant.1
      c.entries_of.ensures (sym (length-views c.entries_of.result.now)) c.in_ok-add_edges.ensures.1,
)

pub returns : goal.returns
returns c =
    let low = c.loop-node.auto.node-end in
    let high = c.loop-node-test.false in
    let at : c.loop-node.node ≡ length (lists_in c.args.adjacency.now) = omega (arith, low, high, length-lists_in c.args.adjacency.now) in (
      subst (λ (m : ℕ). first_some_below m (λ i. option_map (UnknownNeighbour i) (first_in (is_unknown c.args.index.now) (entries_at (lists_in c.args.adjacency.now) i))) ≡ None) at c.loop-node.invariant.0,
      subst (λ (m : ℕ). AreListed c.args.index.now (lists_in c.args.adjacency.now) m c.loop-node.pairs.items) at c.loop-node.invariant.1,
    )
