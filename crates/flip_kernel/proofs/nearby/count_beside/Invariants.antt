use Rattle.std.proofs.Common.{take}
use Rattle.flip_kernel.specs.Nearby.{HasCounted}
use Rattle.flip_kernel.proofs.nearby.count_beside.Given as goal

abbrev pub invariant-loop-other : goal.invariant-loop-other
invariant-loop-other l = HasCounted l.member.plan.now l.districts l.member.unit (take l.other-index l.other-items) l.fn.table l.table
