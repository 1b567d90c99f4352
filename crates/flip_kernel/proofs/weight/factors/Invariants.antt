use Rattle.std.proofs.Common.{◌≡◌}
use Rattle.audit_model.specs.Weight.{factors}
use Rattle.flip_kernel.proofs.weight.factors.Given as goal

abbrev pub invariant-loop-k : goal.invariant-loop-k
invariant-loop-k l = l.product ≡ factors l.weight l.cut l.k
