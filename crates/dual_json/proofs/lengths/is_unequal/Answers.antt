use Rattle.std.proofs.Common.{◌≡◌, ℕ, ◌<◌, List, length, Option, Some, None, sym, ◌∙◌}
use Rattle.std.specs.Option.{option_and_then}
use Rattle.audit_model.specs.declared.setting.Label.{Label}
use Rattle.audit_model.specs.Label.{same_label}
use Rattle.audit_model.proofs.First.{first_passes}
use Rattle.audit_statement.specs.Reading.{id_of}
use Rattle.dual_json.specs.Places.{nth, place_of_label}
use Rattle.dual_json.specs.Values.{value_data}
use Rattle.dual_json.proofs.lengths.is_unequal.Goals as goal

-- a label's place is one of the list
place_inside : (ids : List Label) (o : Option Label) (j : ℕ) → option_and_then (place_of_label ids) o ≡ Some j → j < length ids
place_inside ids None j e = absurd (cc)
place_inside ids (Some l) j e = (first_passes (length ids) (λ i. same_label l (nth ids i)) j e).0

pub length_between-requires-clause-other : goal.length_between-requires-clause-other
length_between-requires-clause-other c =
    place_inside c.args.listed.index.now (id_of (value_data c.args.entry.now)) c.in-Some.other (sym c.node_of.ensures ∙ c.in-Some.is)
