use Rattle.std.proofs.Common.{ap, length, arith}
use Rattle.report.proofs.Limits.{small}
use Rattle.report.proofs.asks.ask_count.Goals as goal

pub returns-clause-value : goal.returns-clause-value
returns-clause-value c = ap length c.asks_of.ensures.value

pub returns-clause-few : goal.returns-clause-few
returns-clause-few c = omega (arith, ap length c.asks_of.ensures.value, (small c.args.job.now c.asks_of.ensures.sound).few_asks)
