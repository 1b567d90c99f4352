use Rattle.std.proofs.Common.{arith}
use Rattle.run_core.proofs.Stepping.{done_le}
use Rattle.run_core.proofs.machine.Core.save.Goals as goal

pub overflow_cast-result : goal.overflow_cast-result
overflow_cast-result c =
    let kept = c.self.invariant.0 in
    omega (arith, done_le _ kept.run, kept.small, c.self.inside.done.ok.0)
