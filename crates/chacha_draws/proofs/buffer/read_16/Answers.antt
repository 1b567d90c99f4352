use Rattle.std.proofs.Common.{◌+◌, arith}
use Rattle.chacha_draws.proofs.Reading.{as_many}
use Rattle.chacha_draws.proofs.buffer.read_16.Goals as goal

pub returns-clause-read : goal.returns-clause-read
returns-clause-read c key start l read =
    let first = c.args.first in
    let one = c.read_4.ensures.read key start l read in
    let two = as_many key start (first + 4 + 4) (first + 8) c.read_4-2.new.buffer (omega arith) (c.read_4-2.ensures.read key start l one) in
    let three = as_many key start (first + 8 + 4) (first + 12) c.read_4-3.new.buffer (omega arith) (c.read_4-3.ensures.read key start l two) in
    as_many key start (first + 12 + 4) (first + 16) c.read_4-4.new.buffer (omega arith) (c.read_4-4.ensures.read key start l three)
