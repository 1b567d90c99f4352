use Rattle.std.proofs.Common.{◌+◌, ◌^◌}
use Rattle.flip_kernel.proofs.Dividing.{small_fits, small_divided, quotient_of}
use Rattle.flip_kernel.proofs.proposal.divide_small.Goals as goal

pub overflow_sub-result : goal.overflow_sub-result
overflow_sub-result c =
    let q = quotient_of c.from.result c.from-2.result (c.args.number + 1) c.args.inverse c.from.ensures c.from-2.ensures in
    small_fits (2 ^ 64) c.args.number c.args.divisor c.args.inverse _ c.requires.small c.requires.enough c.requires.most q.low q.high

pub returns : goal.returns
returns c =
    let q = quotient_of c.from.result c.from-2.result (c.args.number + 1) c.args.inverse c.from.ensures c.from-2.ensures in
    small_divided (2 ^ 64) c.args.number c.args.divisor c.args.inverse _ c.requires.small c.requires.enough c.requires.most q.low q.high
