use Rattle.std.proofs.Common.{take}
use Rattle.flip_kernel.specs.Nearby.{HasMoved}
use Rattle.flip_kernel.proofs.nearby.pass_neighbors.Given as goal

abbrev pub invariant-loop-other : goal.invariant-loop-other
invariant-loop-other l = HasMoved l.districts l.home l.into (take l.other-index l.other-items) l.initial.table l.table
