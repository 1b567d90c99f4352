use Rattle.std.proofs.Common.{◌≡◌, length, ap, sym, ◌∙◌, arith}
use Rattle.audit_model.specs.Below.{map_below}
use Rattle.audit_model.proofs.Below.{map_below_more}
use Rattle.dual_json.specs.Places.{nth, labels_from}
use Rattle.dual_json.proofs.Named.{nth_get, labels_listed}
use Rattle.dual_json.proofs.districts.labels_of.Goals as goal

pub loop-name-init : goal.loop-name-init
loop-name-init c = c.new-labels.ensures

pub loop-name-preserved : goal.loop-name-preserved
loop-name-preserved c =
    map_below_more c.loop-name.name-index (nth (labels_from c.args.names.now)) c.loop-name.labels c.push.new.self c.in_ok-label.label c.loop-name.invariant
    (c.in_ok-label.ensures ∙ sym (nth_get c.args.names.now c.loop-name.name-index _ c.loop-name-test.true)) c.in_ok-push.ensures.ok

pub returns : goal.returns
returns c =
    let low = c.loop-name.auto.name-index-end in
    let high = c.loop-name-test.false in
    let at : c.loop-name.name-index ≡ length c.args.names.now = omega (arith, low, high) in
    c.loop-name.invariant ∙ ap (λ m. map_below m (nth (labels_from c.args.names.now))) at ∙ labels_listed c.args.names.now
