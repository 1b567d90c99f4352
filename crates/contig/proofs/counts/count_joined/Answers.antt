use Rattle.std.proofs.Common.{◌+◌, length, get_or, refl, sym, ap, ◌∙◌, arith}
use Rattle.audit_model.specs.District.{in_district}
use Rattle.audit_model.proofs.Below.{count_below_le, count_below_zero}
use Rattle.contig.specs.Order.{is_joined, near_at}
use Rattle.contig.proofs.Ordering.{before_next, joined_step}
use Rattle.contig.proofs.counts.count_joined.Goals as goal

pub loop-sector-init : goal.loop-sector-init
loop-sector-init c = record {
  before = refl;
  one = sym (count_below_zero (is_joined (in_district c.args.member.plan.now c.args.one) c.args.sectors.now));
  other = sym (count_below_zero (is_joined (in_district c.args.member.plan.now c.args.other) c.args.sectors.now));
  few_one = omega arith;
  few_other = omega arith;
}

pub loop-sector-preserved : goal.loop-sector-preserved
loop-sector-preserved c =
    let plan = c.args.member.plan.now in
    let sectors = c.args.sectors.now in
    let k = c.loop-sector.sector-index in
    let one = joined_step plan sectors k c.args.one c.loop-sector.before c.loop-sector.in_one c.loop-sector.invariant.before c.loop-sector.invariant.one in
    let other = joined_step plan sectors k c.args.other c.loop-sector.before c.loop-sector.in_other c.loop-sector.invariant.before c.loop-sector.invariant.other in
    record {
      before = ap (λ t. get_or plan (near_at sectors t) 0) (sym (before_next (length sectors) k));
      one = c.with_one-in_one.ensures ∙ one;
      other = c.with_one-in_other.ensures ∙ other;
      few_one = omega (arith, c.with_one-in_one.ensures, one, count_below_le (k + 1) (is_joined (in_district plan c.args.one) sectors));
      few_other = omega (arith, c.with_one-in_other.ensures, other, count_below_le (k + 1) (is_joined (in_district plan c.args.other) sectors));
    }
