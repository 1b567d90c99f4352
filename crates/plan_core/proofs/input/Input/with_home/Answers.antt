use Rattle.std.proofs.Common.{arith}
use Rattle.plan_core.proofs.input.Input.with_home.Goals as goal

pub sum_votes-votes-requires-clause-first : goal.sum_votes-votes-requires-clause-first
sum_votes-votes-requires-clause-first c =
    let input = c.requires.within.input in
    (omega (arith, input.first.width, input.units), input.first.small)

pub sum_votes-votes-requires-clause-second : goal.sum_votes-votes-requires-clause-second
sum_votes-votes-requires-clause-second c =
    let input = c.requires.within.input in
    (omega (arith, input.second.width, input.units), input.second.small)
