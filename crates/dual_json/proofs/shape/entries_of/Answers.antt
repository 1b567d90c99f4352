use Rattle.std.proofs.Common.{List, [], sym, ap, ◌∙◌, arith}
use Rattle.std.specs.Option.{option_map, unwrap_or}
use Rattle.dual_json.specs.Values.{value_data}
use Rattle.dual_json.specs.declared.value.Value.{Value}
use Rattle.audit_statement.specs.Reading.{elements, list_of}
use Rattle.dual_json.specs.Shape.{views}
use Rattle.dual_json.proofs.Listed.{elements-items_data, get_or-map_at, length-views}
use Rattle.dual_json.proofs.shape.entries_of.Goals as goal

pub returns-in-Some : goal.returns-in-Some
returns-in-Some c =
    let x = c.index-adjacency-node.result in
    ap (λ (xs : List Value). views xs) c.as_slice.ensures.value ∙ sym (elements-items_data c.in-Some.list.now.items)
    ∙ ap (λ o. unwrap_or (option_map elements o) []) c.in-Some.ensures
    ∙ sym (get_or-map_at (λ d. unwrap_or (list_of d) []) (views c.args.adjacency.now) c.args.node (value_data x) [] (omega (arith, c.requires, length-views c.args.adjacency.now))
    (sym (get_or-map_at value_data c.args.adjacency.now c.args.node x (value_data x) c.requires c.index-adjacency-node.is)))

pub returns-in-None : goal.returns-in-None
returns-in-None c =
    let x = c.index-adjacency-node.result in
    ap (λ o. unwrap_or (option_map elements o) []) c.in-None.ensures
    ∙ sym (get_or-map_at (λ d. unwrap_or (list_of d) []) (views c.args.adjacency.now) c.args.node (value_data x) [] (omega (arith, c.requires, length-views c.args.adjacency.now))
    (sym (get_or-map_at value_data c.args.adjacency.now c.args.node x (value_data x) c.requires c.index-adjacency-node.is)))
