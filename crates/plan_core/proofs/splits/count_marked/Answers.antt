use Rattle.std.proofs.Common.{ℕ, Bool, false, ◌∙◌, arith}
use Rattle.std.specs.List.{slice_index_or}
use Rattle.plan_core.proofs.splits.count_marked.Goals as goal
use Rattle.plan_core.proofs.splits.count_marked.Goals.{then-seen-place, else-seen-place}
use Rattle.audit_model.proofs.Below.{counted_none, counted_on, counted_off}

pub loop-place-init : goal.loop-place-init
loop-place-init c = record { count = counted_none (λ d. slice_index_or c.args.seen.now d false); few = omega arith }

pub loop-place-preserved : goal.loop-place-preserved
loop-place-preserved c =
    let test : ℕ → Bool = λ d. slice_index_or c.args.seen.now d false in
    let so_far = c.loop-place.invariant in
    elim c.if-seen-place.branch [
      | then-seen-place w ↦ record {
        count = w.count-is ∙ counted_on c.loop-place.place c.loop-place.count test so_far.count w.if-seen-place.true;
        few = omega (arith, w.count-is, so_far.few);
      }
      | else-seen-place w ↦ record {
        count = w.count-is ∙ counted_off c.loop-place.place c.loop-place.count test so_far.count w.if-seen-place.false;
        few = omega (arith, w.count-is, so_far.few);
      }
    ]
