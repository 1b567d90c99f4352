use Rattle.std.proofs.Common.{arith}
use Rattle.plan_core.proofs.Bounded.{sum_small}
use Rattle.plan_core.proofs.input.Input.limits.Goals as goal

pub limits_of-requires-clause-total : goal.limits_of-requires-clause-total
limits_of-requires-clause-total c =
    let input = c.self.invariant.within.input in
    omega (arith, c.self.invariant.population, sum_small c.self.inside.counts.population (omega (arith, input.population.width, input.units)) input.population.small)
