use Rattle.std.proofs.Common.{◌≡◌, List, length, Err, sym, ap, subst, ◌∙◌, inl, inr, arith}
use Rattle.std.proofs.lemmas.List.{length-map}
use Rattle.std.proofs.lemmas.Result.{err_from_is_err_and}
use Rattle.audit_model.specs.declared.setting.Label.{Label}
use Rattle.audit_model.proofs.Results.{err_at}
use Rattle.dual_json.specs.Districts.{district_count_fault, different_count, AreDistricts}
use Rattle.dual_json.specs.Names.{label_from}
use Rattle.dual_json.specs.Places.{labels_from}
use Rattle.dual_json.specs.declared.names.NodeName.{NodeName}
use Rattle.dual_json.proofs.Bridge.{count_within}
use Rattle.dual_json.proofs.Counted.{label_count_is}
use Rattle.dual_json.proofs.read.districts_of.Goals as goal

pub returns-in_err-check_count : goal.returns-in_err-check_count
returns-in_err-check_count c =
    let f = c.in_err-check_count.field-0.0 in
    let p = err_from_is_err_and c.from_residual-in_err-check_count.result c.from_residual-in_err-check_count.ensures.1 in
    let e : c.from_residual-in_err-check_count.result ≡ Err f = p.1 ∙ ap Err p.2 in
    let amount : different_count (labels_from c.args.names.now) ≡ c.len.result =
    omega (arith, label_count_is (labels_from c.args.names.now) (labels_from c.deref.result.now) c.in_ok-start.start c.in_ok-start.ensures, length-map c.deref.result.now label_from, c.deref.ensures.len, c.len.ensures) in
    err_at c.from_residual-in_err-check_count.result f _ _ e (inr (ap district_count_fault amount ∙ c.in_err-check_count.ensures))

pub returns-in-Ok : goal.returns-in-Ok
returns-in-Ok c =
    let amount : different_count (labels_from c.args.names.now) ≡ c.len.result =
    omega (arith, label_count_is (labels_from c.args.names.now) (labels_from c.deref.result.now) c.in_ok-start.start c.in_ok-start.ensures, length-map c.deref.result.now label_from, c.deref.ensures.len, c.len.ensures) in
    let found : c.in-Ok.labels ≡ labels_from c.deref.result.now =
    c.in-Ok.ensures ∙ ap (λ (ns : List NodeName). labels_from ns) (c.deref-2.ensures.value ∙ sym c.deref.ensures.value) in
    let long : length c.in-Ok.labels ≡ c.len.result = omega (arith, ap length found, length-map c.deref.result.now label_from, c.deref.ensures.len, c.len.ensures) in
    let within = count_within c.len.result c.in_ok-check_count.ensures in
    let low = within.0 in
    let high = within.1 in (
      ap district_count_fault amount ∙ c.in_ok-check_count.ensures,
      subst (λ (ls : List Label). AreDistricts (labels_from c.args.names.now) ls c.in_ok-start.start) (sym found) c.in_ok-start.ensures,
      omega (arith, low, long),
      omega (arith, high, long),
    )

pub returns : goal.returns
returns c = inl c.in-Err.ensures
