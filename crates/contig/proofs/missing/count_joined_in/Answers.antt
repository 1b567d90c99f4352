use Rattle.std.proofs.Common.{◌+◌, length, refl, sym, ap, ◌∙◌, arith}
use Rattle.audit_model.specs.District.{in_district}
use Rattle.audit_model.proofs.Below.{count_below_le, count_below_zero}
use Rattle.contig.specs.Order.{is_joined, near_at}
use Rattle.contig.proofs.Ordering.{before_next, joined_in_step}
use Rattle.contig.proofs.missing.count_joined_in.Goals as goal

pub loop-sector-init : goal.loop-sector-init
loop-sector-init c = record {
  before = refl;
  counted = sym (count_below_zero (is_joined (in_district c.args.joining.plan.now c.args.district) c.args.sectors.now));
  few = omega arith;
}

pub loop-sector-preserved : goal.loop-sector-preserved
loop-sector-preserved c =
    let plan = c.args.joining.plan.now in
    let sectors = c.args.sectors.now in
    let k = c.loop-sector.sector-index in
    let d = c.args.district in
    let step = joined_in_step plan sectors k d c.loop-sector.before c.loop-sector.count c.loop-sector.invariant.before c.loop-sector.invariant.counted in
    record {
      before = ap (λ t. in_district plan d (near_at sectors t)) (sym (before_next (length sectors) k));
      counted = c.with_one-count.ensures ∙ step;
      few = omega (arith, c.with_one-count.ensures, step, count_below_le (k + 1) (is_joined (in_district plan d) sectors));
    }
