use Rattle.std.proofs.Common.{ℕ, List, length, get_or, ap, ◌∙◌, arith}
use Rattle.std.proofs.lemmas.List.{length-map}
use Rattle.audit_model.specs.Below.{map_below}
use Rattle.dual_json.specs.Names.{label_from}
use Rattle.plan_csv.proofs.labels.make_assigned.Goals as goal

pub unit_districts-requires : goal.unit_districts-requires
unit_districts-requires c = λ u l.
    let under = c.requires.under u l in
    let count = c.in-Ok.ensures.count in
    omega (arith, under, count, ap length c.as_slice.ensures, length-map c.args.names.now label_from)

pub returns : goal.returns
returns c = record {
  named = c.in_ok-text_of.ensures;
  labelled = c.in-Ok-labels_of.ensures;
  districts = c.in-Ok.districts;
  are = c.in-Ok.ensures;
  start =
      c.in_ok-unit_districts.ensures
      ∙ ap (λ (ds : List ℕ). map_below (length c.args.records.now) (λ u. get_or ds (get_or c.args.records.now u 0) 0)) c.as_slice.ensures;
}
