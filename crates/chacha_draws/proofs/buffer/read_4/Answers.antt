use Rattle.std.proofs.Common.{◌+◌, arith}
use Rattle.chacha_draws.proofs.Reading.{as_many}
use Rattle.chacha_draws.proofs.buffer.read_4.Goals as goal

pub returns-clause-read : goal.returns-clause-read
returns-clause-read c key start l read =
    let first = c.args.first in
    let one = c.read_draw.ensures.read key start l read in
    let two = as_many key start (first + 1 + 1) (first + 2) c.read_draw-2.new.buffer (omega arith) (c.read_draw-2.ensures.read key start l one) in
    let three = as_many key start (first + 2 + 1) (first + 3) c.read_draw-3.new.buffer (omega arith) (c.read_draw-3.ensures.read key start l two) in
    as_many key start (first + 3 + 1) (first + 4) c.read_draw-4.new.buffer (omega arith) (c.read_draw-4.ensures.read key start l three)
