use Rattle.std.proofs.Common.{◌≡◌, ℕ, length, get_or, refl, ap, ◌∙◌, arith}
use Rattle.audit_model.specs.Below.{map_below}
use Rattle.audit_model.proofs.Below.{map_below_more}
use Rattle.plan_csv.proofs.labels.unit_districts.Goals as goal

pub loop-unit-preserved : goal.loop-unit-preserved
loop-unit-preserved c =
    map_below_more c.loop-unit.unit (λ u. get_or c.args.districts.now (get_or c.args.records.now u 0) 0) c.loop-unit.start c.push.new.self _ c.loop-unit.invariant refl c.in_ok-push.ensures.ok

pub returns : goal.returns
returns c =
    let low = c.loop-unit.auto.unit-end in
    let high = c.loop-unit-test.false in
    let at : c.loop-unit.unit ≡ length c.args.records.now = omega (arith, low, high) in
    c.loop-unit.invariant ∙ ap (λ (n : ℕ). map_below n (λ u. get_or c.args.districts.now (get_or c.args.records.now u 0) 0)) at
