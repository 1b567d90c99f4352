use Rattle.std.proofs.Common.{ℕ, Bool, ◌*◌, ◌∙◌, sym, arith}
use Rattle.std.specs.Prelude.{nat_lt, slice_index}
use Rattle.audit_model.proofs.Below.{counted_none, counted_on, counted_off}
use Rattle.plan_core.proofs.group.count_over_share.Goals as goal
use Rattle.plan_core.proofs.group.count_over_share.Goals.{then-is_above, else-is_above}

pub loop-district-init : goal.loop-district-init
loop-district-init c = record {
  count = counted_none (λ d. nat_lt (c.args.share * slice_index c.args.whole.now d) (10000 * slice_index c.args.members.now d));
  few = omega arith;
}

pub loop-district-preserved : goal.loop-district-preserved
loop-district-preserved c =
    let d : ℕ = c.loop-district.district in
    let test : ℕ → Bool = λ d. nat_lt (c.args.share * slice_index c.args.whole.now d) (10000 * slice_index c.args.members.now d) in
    let so_far = c.loop-district.invariant in
    elim c.if-is_above.branch [
      | then-is_above w ↦ record {
        count = w.count-is ∙ counted_on d c.loop-district.count test so_far.count
            (sym c.is_above.ensures ∙ w.if-is_above.true);
        few = omega (arith, w.count-is, so_far.few);
      }
      | else-is_above w ↦ record {
        count = w.count-is ∙ counted_off d c.loop-district.count test so_far.count
            (sym c.is_above.ensures ∙ w.if-is_above.false);
        few = omega (arith, w.count-is, so_far.few);
      }
    ]
