use Rattle.std.proofs.Common.{get_or, sym, ap, arith}
use Rattle.std.specs.Prelude.{option_map}
use Rattle.plan_core.specs.Outside.{is_outside, outside}
use Rattle.plan_core.proofs.Bounded.{outside_passes}
use Rattle.plan_core.proofs.bounds.first_outside.Goals as goal
use Rattle.audit_model.proofs.First.{first_below_here}

pub returns-then-population-low : goal.returns-then-population-low
returns-then-population-low c =
    let district = c.loop-district.district in
    let populations = c.args.populations.now in
    sym (ap (option_map (outside populations c.args.low c.args.high))
    (first_below_here c.args.districts district (is_outside populations c.args.low c.args.high) c.loop-district.invariant (omega arith)
    (outside_passes c.args.low c.args.high (get_or populations district 0) c.then-population-low.either)))
