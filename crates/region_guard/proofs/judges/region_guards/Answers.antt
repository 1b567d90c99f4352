use Rattle.std.proofs.Common.{List, sym, subst, arith}
use Rattle.std.proofs.lemmas.List.Elements.{All-push}
use Rattle.region_guard.specs.Guards.{AreRegionGuards, IsRegionGuard}
use Rattle.region_guard.specs.declared.guard.RegionGuard.{RegionGuard}
use Rattle.region_guard.proofs.judges.region_guards.Goals as goal

pub loop-preserved : goal.loop-preserved
loop-preserved g c = record {
  each = subst (λ (js : List (RegionGuard g.row.F.Denot g.row.T.Denot)). AreRegionGuards c.args.cut c.args.test c.args.rules.now c.args.districts js) (sym c.in_ok-push.ensures.items)
      (All-push (IsRegionGuard c.args.cut c.args.test c.args.rules.now c.args.districts) c.loop.judges.items c.in_ok-region_guard_of.field-0 c.loop.invariant.each c.in_ok-region_guard_of.ensures);
  count = omega (arith, c.in_ok-push.ensures.len, c.loop.invariant.count);
}
