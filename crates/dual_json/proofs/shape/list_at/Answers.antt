use Rattle.std.proofs.Common.{List, Some, sym, ap, ◌∙◌}
use Rattle.std.specs.Option.{option_map, option_and_then}
use Rattle.audit_statement.specs.Reading.{elements, list_of}
use Rattle.dual_json.specs.declared.value.Value.{Value}
use Rattle.dual_json.specs.Shape.{views}
use Rattle.dual_json.proofs.Listed.{elements-items_data}
use Rattle.dual_json.proofs.shape.list_at.Goals as goal

pub returns-in-Some-as_array : goal.returns-in-Some-as_array
returns-in-Some-as_array c =
    ap (λ (xs : List Value). Some (views xs)) c.as_slice.ensures.value ∙ ap Some (sym (elements-items_data c.in-Some-as_array.list.now.items))
    ∙ ap (option_map elements) c.in-Some-as_array.ensures ∙ ap (option_and_then list_of) c.in-Some.ensures
