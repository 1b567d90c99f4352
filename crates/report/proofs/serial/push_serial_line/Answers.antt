use Rattle.std.proofs.Common.{arith}
use Rattle.report.proofs.serial.push_serial_line.Goals as goal

pub p_value-requires-clause-rank : goal.p_value-requires-clause-rank
p_value-requires-clause-rank c = (c.requires.rank.some, omega (arith, c.requires.rank.few, c.visits-visits.ensures.value))

pub p_value-requires-clause-few : goal.p_value-requires-clause-few
p_value-requires-clause-few c = c.visits-visits.ensures.few
