use Rattle.std.proofs.Common.{sym, ◌∙◌}
use Rattle.dual_json.specs.Values.{value_data}
use Rattle.dual_json.specs.Shape.{views}
use Rattle.dual_json.proofs.Shapes.{parts_good, document_is, flag_good}
use Rattle.dual_json.proofs.shape.parts_of.Goals as goal

pub returns : goal.returns
returns c = (
  parts_good (value_data c.args.root.now) (views c.in-Some.nodes.now) (views c.in-Some-list_at.adjacency.now) (sym c.is_object.ensures ∙ c.if-not-is_object.false)
      c.in-Some.ensures c.in-Some-list_at.ensures (sym c.are_lists.ensures ∙ c.if-not-are_lists.false) c.in-Some-flag_at.ensures.0
      (flag_good c.flag_at-2.result _ _ c.flag_at-2.ensures c.if-is_none.ensures),
  document_is (value_data c.args.root.now) (views c.in-Some.nodes.now) (views c.in-Some-list_at.adjacency.now) c.in-Some-flag_at.directed
      c.in-Some.ensures c.in-Some-list_at.ensures c.in-Some-flag_at.ensures.1,
)
