use Rattle.std.proofs.Common.{take}
use Rattle.flip_kernel.specs.OpenPairs.{HasOpenedPairs}
use Rattle.flip_kernel.proofs.open_pairs.OpenPairs.open_beside.Given as goal

abbrev pub invariant-loop-other : goal.invariant-loop-other
invariant-loop-other l = HasOpenedPairs l.plan l.districts l.unit (take l.other-index l.other-items) l.initial.self l.self
