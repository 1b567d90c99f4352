use Rattle.std.proofs.Common.{◌^◌, arith}
use Rattle.flip_kernel.proofs.Dividing.{blocks_fit, divided_is, divided_next, quotient_of}
use Rattle.flip_kernel.proofs.proposal.divide.Goals as goal

pub overflow_sub-rest : goal.overflow_sub-rest
overflow_sub-rest c =
    let q = quotient_of c.from.result c.from-2.result c.args.number c.args.inverse c.from.ensures c.from-2.ensures in
    blocks_fit (2 ^ 64) c.args.number c.args.divisor c.args.inverse _ c.requires.some (omega arith) c.requires.enough c.requires.most q.low q.high

pub returns-then-rest-divisor : goal.returns-then-rest-divisor
returns-then-rest-divisor c =
    let q = quotient_of c.from.result c.from-2.result c.args.number c.args.inverse c.from.ensures c.from-2.ensures in
    divided_is (2 ^ 64) c.args.number c.args.divisor c.args.inverse _ c.requires.some (omega arith) c.requires.enough c.requires.most q.low q.high c.if-rest-divisor.true

pub returns-else-rest-divisor : goal.returns-else-rest-divisor
returns-else-rest-divisor c =
    let q = quotient_of c.from.result c.from-2.result c.args.number c.args.inverse c.from.ensures c.from-2.ensures in
    divided_next (2 ^ 64) c.args.number c.args.divisor c.args.inverse _ c.requires.some (omega arith) c.requires.enough c.requires.most q.low q.high c.if-rest-divisor.false
