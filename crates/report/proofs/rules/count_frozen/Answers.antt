use Rattle.std.proofs.Common.{ℕ, Bool, ◌∙◌, arith, lt-ltb, le-ltb}
use Rattle.std.specs.Prelude.{nat_lt}
use Rattle.std.specs.List.{slice_index}
use Rattle.report.proofs.rules.count_frozen.Goals as goal
use Rattle.report.proofs.rules.count_frozen.Goals.{then-frozen-unit-gt0, else-frozen-unit-gt0}
use Rattle.audit_model.proofs.Below.{counted_none, counted_on, counted_off}

pub loop-unit-init : goal.loop-unit-init
loop-unit-init c = record { count = counted_none (λ u. nat_lt 0 (slice_index c.args.frozen.now u)); few = omega arith }

pub loop-unit-preserved : goal.loop-unit-preserved
loop-unit-preserved c =
    let test : ℕ → Bool = λ u. nat_lt 0 (slice_index c.args.frozen.now u) in
    let so_far = c.loop-unit.invariant in
    elim c.if-frozen-unit-gt0.branch [
      | then-frozen-unit-gt0 w ↦ record {
        count = w.count-is ∙ counted_on c.loop-unit.unit c.loop-unit.count test so_far.count (lt-ltb 0 (slice_index c.args.frozen.now c.loop-unit.unit) w.if-frozen-unit-gt0.true);
        few = omega (arith, w.count-is, so_far.few);
      }
      | else-frozen-unit-gt0 w ↦ record {
        count = w.count-is ∙ counted_off c.loop-unit.unit c.loop-unit.count test so_far.count (le-ltb 0 (slice_index c.args.frozen.now c.loop-unit.unit) (omega (arith, w.if-frozen-unit-gt0.false)));
        few = omega (arith, w.count-is, so_far.few);
      }
    ]
