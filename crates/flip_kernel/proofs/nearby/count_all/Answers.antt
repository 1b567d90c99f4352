use Rattle.std.proofs.Common.{refl, arith}
use Rattle.flip_kernel.proofs.NearPairs.{counting_next}
use Rattle.flip_kernel.proofs.nearby.count_all.Goals as goal

pub loop-unit-preserved : goal.loop-unit-preserved
loop-unit-preserved c = record {
  width = omega (arith, c.loop-unit.invariant.width, c.count_beside.ensures.width);
  counting =
      counting_next c.args.graph.now c.args.plan.now c.args.districts c.loop-unit.unit _ c.loop-unit.table c.count_beside.new.table c.units-unit-end.ensures.sound refl
      c.count_beside.ensures c.loop-unit.invariant.counting;
}
