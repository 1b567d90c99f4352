use Rattle.std.proofs.Common.{◌≡◌, ℕ, ◌+◌, ◌<◌, ◌≤◌, suc, List, [], length, map, get_or, nat_lt, ◌||◌, sym, ap, subst, ◌∙◌, inr, arith, rules}
use Rattle.std.specs.List.{slice_index_or}
use Rattle.std.proofs.lemmas.Bool.{ltb-false, or_parts}
use Rattle.std.proofs.lemmas.List.{length-map}
use Rattle.csv.specs.Records.{fields_of}
use Rattle.audit_model.specs.declared.fault.TableFault.TheVariants.{DistrictCount}
use Rattle.dual_json.specs.Districts.{AreDifferent}
use Rattle.dual_json.specs.Names.{label_from}
use Rattle.dual_json.specs.Places.{labels_from}
use Rattle.dual_json.specs.declared.names.NodeName.{NodeName}
use Rattle.audit_statement.specs.Table.{label_count, plan_name}
use Rattle.plan_csv.specs.Stages.{IsAssigned}
use Rattle.plan_csv.proofs.Labelled.{districts_are, counted, assigned_is, fits}
use Rattle.plan_csv.proofs.labels.plan_of.Goals as goal

pub returns-then-is_miscounted-clause-read : goal.returns-then-is_miscounted-clause-read
returns-then-is_miscounted-clause-read c =
    let rows = map fields_of c.args.entries.now in
    let names = c.in_ok-names.names.items in
    let found = c.in-Ok.found.items in
    let are : AreDifferent names found = subst (λ (ns : List NodeName). AreDifferent ns found) c.deref.ensures.value c.in-Ok.ensures in
    let d = districts_are names found are in
    let size : c.len-districts.result ≡ length found = search rules in
    let same : c.len-districts.result ≡ label_count [] [] rows c.args.plan =
    size ∙ sym (length-map found label_from) ∙ sym (counted rows c.args.plan (labels_from names) (labels_from found) d.0 c.in_ok-names.ensures d.1) in
    inr (ap (DistrictCount c.args.plan) same, ap (λ n. nat_lt n 2 || nat_lt 200 n) (sym same) ∙ sym c.is_miscounted.ensures ∙ c.if-is_miscounted.true)

pub returns-clause-read : goal.returns-clause-read
returns-clause-read c =
    let rows = map fields_of c.args.entries.now in
    let header = fields_of c.args.header.now in
    let records = c.args.records.now in
    let a = c.in_ok-make_assigned.field-0 in
    let names = c.in_ok-names.names.items in
    let found = c.in-Ok.found.items in
    let are : AreDifferent names found = subst (λ (ns : List NodeName). AreDifferent ns found) c.deref.ensures.value c.in-Ok.ensures in
    let d = districts_are names found are in
    let size : c.len-districts.result ≡ length found = search rules in
    let same : c.len-districts.result ≡ label_count [] [] rows c.args.plan =
    size ∙ sym (length-map found label_from) ∙ sym (counted rows c.args.plan (labels_from names) (labels_from found) d.0 c.in_ok-names.ensures d.1) in
    let next : c.args.plan + 1 ≡ suc c.args.plan = omega arith in
    let named : c.field.result.now ≡ plan_name [] header [] c.args.plan = c.field.ensures ∙ ap (λ k. slice_index_or header k []) next in
    let is : IsAssigned (plan_name [] header [] c.args.plan) (labels_from names) (labels_from found) records a =
    subst (λ (n : List ℕ). IsAssigned n (labels_from names) (labels_from found) records a) named
    (subst (λ (ns : List NodeName). IsAssigned c.field.result.now (labels_from ns) (labels_from found) records a) c.deref-2.ensures.value
    (subst (λ (fs : List NodeName). IsAssigned c.field.result.now (labels_from c.deref-2.result.now) (labels_from fs) records a) c.deref-3.ensures.value c.in_ok-make_assigned.ensures)) in (
      ap (λ n. nat_lt n 2 || nat_lt 200 n) (sym same) ∙ sym c.is_miscounted.ensures ∙ c.if-is_miscounted.false,
      assigned_is header rows c.args.plan (labels_from names) (labels_from found) records a c.in_ok-names.ensures is
          (λ u l. let under : get_or records u 0 < length c.args.entries.now = c.requires.under u l in omega (arith, under, length-map c.args.entries.now fields_of)),
    )

pub returns-clause-fit : goal.returns-clause-fit
returns-clause-fit c =
    let rows = map fields_of c.args.entries.now in
    let header = fields_of c.args.header.now in
    let records = c.args.records.now in
    let a = c.in_ok-make_assigned.field-0 in
    let names = c.in_ok-names.names.items in
    let found = c.in-Ok.found.items in
    let size : c.len-districts.result ≡ length found = search rules in
    let next : c.args.plan + 1 ≡ suc c.args.plan = omega arith in
    let named : c.field.result.now ≡ plan_name [] header [] c.args.plan = c.field.ensures ∙ ap (λ k. slice_index_or header k []) next in
    let is : IsAssigned (plan_name [] header [] c.args.plan) (labels_from names) (labels_from found) records a =
    subst (λ (n : List ℕ). IsAssigned n (labels_from names) (labels_from found) records a) named
    (subst (λ (ns : List NodeName). IsAssigned c.field.result.now (labels_from ns) (labels_from found) records a) c.deref-2.ensures.value
    (subst (λ (fs : List NodeName). IsAssigned c.field.result.now (labels_from c.deref-2.result.now) (labels_from fs) records a) c.deref-3.ensures.value c.in_ok-make_assigned.ensures)) in
    let both = or_parts (nat_lt c.len-districts.result 2) (nat_lt 200 c.len-districts.result) (sym c.is_miscounted.ensures ∙ c.if-is_miscounted.false) in
    let two : 2 ≤ c.len-districts.result = ltb-false c.len-districts.result 2 both.0 in
    let few : c.len-districts.result ≤ 200 = ltb-false 200 c.len-districts.result both.1 in
    fits header rows c.args.plan (labels_from names) (labels_from found) records a c.in_ok-names.ensures is
    (λ u l. let under : get_or records u 0 < length c.args.entries.now = c.requires.under u l in omega (arith, under, length-map c.args.entries.now fields_of))
    (omega (arith, two, size, length-map found label_from)) (omega (arith, few, size, length-map found label_from))
