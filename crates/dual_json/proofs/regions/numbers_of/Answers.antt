use Rattle.std.proofs.Common.{◌≡◌, sym, ap, ◌∙◌, inr, arith}
use Rattle.std.specs.Prelude.{nat_lt}
use Rattle.std.proofs.lemmas.Bool.{lt-ltb, le-ltb}
use Rattle.std.proofs.lemmas.List.{length-map}
use Rattle.audit_model.specs.declared.fault.RegionFault.TheVariants.{TooMany}
use Rattle.dual_json.specs.Districts.{different_count}
use Rattle.dual_json.specs.Names.{label_from}
use Rattle.dual_json.specs.Places.{labels_from}
use Rattle.dual_json.proofs.Counted.{label_count_is}
use Rattle.dual_json.proofs.regions.numbers_of.Goals as goal

pub returns-then-count-gt5000 : goal.returns-then-count-gt5000
returns-then-count-gt5000 c =
    let amount : different_count (labels_from c.args.names.now) ≡ c.len-count.result =
    omega (arith, label_count_is (labels_from c.args.names.now) (labels_from c.deref.result.now) c.in-Ok-start_of.numbers c.in-Ok-start_of.ensures, length-map c.deref.result.now label_from, c.deref.ensures.len, c.len-count.ensures) in
    inr (ap TooMany (sym amount), ap (nat_lt 5000) amount ∙ lt-ltb 5000 c.len-count.result c.if-count-gt5000.true)

pub returns : goal.returns
returns c =
    let amount : different_count (labels_from c.args.names.now) ≡ c.len-count.result =
    omega (arith, label_count_is (labels_from c.args.names.now) (labels_from c.deref.result.now) c.in-Ok-start_of.numbers c.in-Ok-start_of.ensures, length-map c.deref.result.now label_from, c.deref.ensures.len, c.len-count.ensures) in
    let few = c.if-count-gt5000.false in (
      ap (nat_lt 5000) amount ∙ le-ltb 5000 c.len-count.result few,
      record {
        found = labels_from c.deref.result.now;
        districts = c.in-Ok-start_of.ensures;
        few = omega (arith, few, length-map c.deref.result.now label_from, c.deref.ensures.len, c.len-count.ensures);
      },
    )
