use Rattle.std.proofs.Common.{◌≡◌, ℕ, length, None, Some, refl, sym, ap, ◌∙◌, subst, arith}
use Rattle.std.specs.Option.{option_map}
use Rattle.audit_model.specs.First.{first_some_below}
use Rattle.audit_model.proofs.First.{first_some_below_more, first_some_below_found}
use Rattle.dual_json.specs.Edges.{entries_at, first_in}
use Rattle.dual_json.specs.Required.{is_missing, missing_fault}
use Rattle.dual_json.specs.Shape.{lists_in}
use Rattle.dual_json.proofs.Listed.{length-lists_in}
use Rattle.dual_json.proofs.required.check_entries.Goals as goal

pub loop-node-init : goal.loop-node-init
loop-node-init c = refl

pub returns-in-Some : goal.returns-in-Some
returns-in-Some c =
    let l = c.loop-node-test.true in
    first_some_below_found (length (lists_in c.args.adjacency.now)) c.loop-node.node (λ i. option_map (missing_fault c.args.required i) (first_in (is_missing c.args.required) (entries_at (lists_in c.args.adjacency.now) i)))
    (missing_fault c.args.required c.loop-node.node c.in-Some.place) (omega (arith, l, length-lists_in c.args.adjacency.now)) c.loop-node.invariant
    (ap (λ es. option_map (missing_fault c.args.required c.loop-node.node) (first_in (is_missing c.args.required) es)) (sym c.entries_of.ensures)
    ∙ ap (option_map (missing_fault c.args.required c.loop-node.node)) (sym c.first_missing.ensures ∙ c.in-Some.is))
    ∙ ap Some (sym c.fault.ensures)

pub loop-node-preserved : goal.loop-node-preserved
loop-node-preserved c =
    first_some_below_more c.loop-node.node (λ i. option_map (missing_fault c.args.required i) (first_in (is_missing c.args.required) (entries_at (lists_in c.args.adjacency.now) i))) c.loop-node.invariant
    (ap (λ es. option_map (missing_fault c.args.required c.loop-node.node) (first_in (is_missing c.args.required) es)) (sym c.entries_of.ensures)
    ∙ ap (option_map (missing_fault c.args.required c.loop-node.node)) (sym c.first_missing.ensures ∙ c.in_default.is))

pub returns : goal.returns
returns c =
    let low = c.loop-node.auto.node-end in
    let high = c.loop-node-test.false in
    let at : c.loop-node.node ≡ length (lists_in c.args.adjacency.now) = omega (arith, low, high, length-lists_in c.args.adjacency.now) in
    subst (λ (m : ℕ). first_some_below m (λ i. option_map (missing_fault c.args.required i) (first_in (is_missing c.args.required) (entries_at (lists_in c.args.adjacency.now) i))) ≡ None) at c.loop-node.invariant
