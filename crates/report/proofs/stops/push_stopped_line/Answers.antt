use Rattle.std.proofs.Common.{arith}
use Rattle.report.proofs.Limits.{small}
use Rattle.report.proofs.stops.push_stopped_line.Goals as goal

pub p_value-requires-clause-rank : goal.p_value-requires-clause-rank
p_value-requires-clause-rank c = (omega (arith, c.from-4.ensures, c.requires.stop.some), omega (arith, c.from-4.ensures, c.from-5.ensures, c.requires.stop.part))

pub p_value-requires-clause-few : goal.p_value-requires-clause-few
p_value-requires-clause-few c = omega (arith, c.from-5.ensures, c.requires.stop.of, (small c.args.job.now c.ask_words-words.ensures.sound).few)
