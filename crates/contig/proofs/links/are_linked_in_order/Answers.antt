use Rattle.std.proofs.Common.{sym, refl, ◌+◌, ◌∙◌, arith}
use Rattle.audit_model.proofs.Below.{count_below_le, count_below_zero}
use Rattle.contig.specs.Order.{is_start}
use Rattle.contig.proofs.Merging.{home}
use Rattle.contig.proofs.Ordering.{in_order, looked_step}
use Rattle.contig.proofs.links.are_linked_in_order.Goals as goal

pub returns : goal.returns
returns c faces are s =
    in_order c.args.leaving.graph.now faces c.args.leaving.plan.now c.args.leaving.unit c.args.leaving.sound c.args.leaving.within are c.args.sectors.now s
    c.loop-sector.before c.loop-sector.starts c.loop-sector.sector-index c.requires.some (omega (arith, c.loop-sector-test.false, c.loop-sector.auto.sector-index-end))
    c.loop-sector.invariant.before c.loop-sector.invariant.starts

pub loop-sector-init : goal.loop-sector-init
loop-sector-init c = record {
  before = refl;
  starts = sym (count_below_zero (is_start (home c.args.leaving.plan.now c.args.leaving.unit) c.args.sectors.now));
  few = omega arith;
}

pub loop-sector-preserved : goal.loop-sector-preserved
loop-sector-preserved c =
    let step = looked_step c.args.leaving.plan.now c.args.leaving.unit c.args.sectors.now c.loop-sector.sector-index c.loop-sector.before
    c.loop-sector.starts (c.loop-sector.invariant.before, c.loop-sector.invariant.starts) in
    record {
      before = step.0;
      starts = c.with_one-starts.ensures ∙ step.1;
      few = omega (arith, c.with_one-starts.ensures, step.1, count_below_le (c.loop-sector.sector-index + 1) (is_start (home c.args.leaving.plan.now c.args.leaving.unit) c.args.sectors.now));
    }
