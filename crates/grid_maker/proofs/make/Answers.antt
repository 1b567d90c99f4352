use Rattle.std.proofs.Common.{◌≡◌, ap, ap₂, ◌∙◌}
use Rattle.std.proofs.lemmas.Result.{IfOk-weaker}
use Rattle.serde_json.specs.View.{view}
use Rattle.serde_json.specs.Written.{compact_text, has_float}
use Rattle.grid_maker.specs.Tree.{root_tree, grid_tree}
use Rattle.grid_maker.proofs.Compact.{grid_text, grid_floats}
use Rattle.grid_maker.proofs.make.Goals as goal

pub serialize-requires : goal.serialize-requires
serialize-requires c =
    let tree : view c.in_ok-root.root ≡ grid_tree c.args.size c.args.key =
    c.in_ok-root.ensures {u = tt} ∙ ap₂ root_tree (c.in_ok-adjacency.ensures {u = tt}) (c.in_ok-nodes.ensures {u = tt}) in
    ap has_float tree ∙ grid_floats c.args.size c.args.key

pub returns : goal.returns
returns c =
    let tree : view c.in_ok-root.root ≡ grid_tree c.args.size c.args.key =
    c.in_ok-root.ensures {u = tt} ∙ ap₂ root_tree (c.in_ok-adjacency.ensures {u = tt}) (c.in_ok-nodes.ensures {u = tt}) in
    IfOk-weaker c.serialize.result _ _ (λ bytes e. e ∙ ap compact_text tree ∙ grid_text c.args.size c.args.key) c.serialize.ensures
