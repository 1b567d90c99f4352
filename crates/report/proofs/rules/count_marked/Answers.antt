use Rattle.std.proofs.Common.{ℕ, Bool, false, ◌∙◌, arith}
use Rattle.std.specs.List.{slice_index_or}
use Rattle.report.proofs.rules.count_marked.Goals as goal
use Rattle.report.proofs.rules.count_marked.Goals.{then-seen-number, else-seen-number}
use Rattle.audit_model.proofs.Below.{counted_none, counted_on, counted_off}

pub loop-number-init : goal.loop-number-init
loop-number-init c = record { count = counted_none (λ r. slice_index_or c.args.seen.now r false); few = omega arith }

pub loop-number-preserved : goal.loop-number-preserved
loop-number-preserved c =
    let test : ℕ → Bool = λ r. slice_index_or c.args.seen.now r false in
    let so_far = c.loop-number.invariant in
    elim c.if-seen-number.branch [
      | then-seen-number w ↦ record {
        count = w.count-is ∙ counted_on c.loop-number.number c.loop-number.count test so_far.count w.if-seen-number.true;
        few = omega (arith, w.count-is, so_far.few);
      }
      | else-seen-number w ↦ record {
        count = w.count-is ∙ counted_off c.loop-number.number c.loop-number.count test so_far.count w.if-seen-number.false;
        few = omega (arith, w.count-is, so_far.few);
      }
    ]
