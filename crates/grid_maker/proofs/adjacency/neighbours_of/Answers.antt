use Rattle.std.proofs.Common.{List, ℕ, map, ap, ◌∙◌, sym}
use Rattle.serde_json.specs.Data.{Data, array}
use Rattle.serde_json.specs.View.{view, items_of}
use Rattle.serde_json.specs.declared.value.Value.{Value}
use Rattle.serde_json.proofs.Views.{view-Array}
use Rattle.grid_maker.specs.Tree.{entry_tree}
use Rattle.grid_maker.proofs.Neighbours.{four_beside}
use Rattle.grid_maker.proofs.Pushed.{four_more}
use Rattle.grid_maker.proofs.adjacency.neighbours_of.Goals as goal

pub returns : goal.returns
returns c =
    view-Array c.push_entry-4.new.list
    ∙ ap (λ (ds : List Data). array (items_of ds))
    (four_more entry_tree (map view c.new-list.result.items) (map view c.push_entry.new.list.items) (map view c.push_entry-2.new.list.items)
    (map view c.push_entry-3.new.list.items) (map view c.push_entry-4.new.list.items)
    c.find_above.result c.find_left.result c.find_right.result c.find_below.result _ _ _ _ (ap (λ (vs : List Value). map view vs) c.new-list.ensures.items)
    c.find_above.ensures (c.in_ok-push_entry.ensures {u = tt}) c.find_left.ensures (c.in_ok-push_entry-2.ensures {u = tt})
    c.find_right.ensures (c.in_ok-push_entry-3.ensures {u = tt}) c.find_below.ensures (c.in_ok-push_entry-4.ensures {u = tt})
    ∙ ap (λ (units : List ℕ). map entry_tree units) (sym (four_beside c.args.square.size c.args.unit c.args.square.some c.requires)))
