use Rattle.std.proofs.Common.{sym, arith}
use Rattle.district_sums.proofs.Measured.{nothing_cut}
use Rattle.district_sums.proofs.lengths.measure_cut.Goals as goal

pub returns-then-len-eq0-clause-length : goal.returns-then-len-eq0-clause-length
returns-then-len-eq0-clause-length c = sym (nothing_cut c.args.graph.now c.args.lengths.now c.args.plan.now (omega (arith, c.len.ensures, c.if-len-eq0.true)))
