use Rattle.std.proofs.Common.{ℕ}
use Rattle.std.specs.Prelude.{IsTrue}
use Rattle.flip_kernel.specs.Nearby.{IsLoneMate}
use Rattle.flip_kernel.proofs.nearby.scan_for_lone_mate.Given as goal

abbrev pub invariant-loop-other : goal.invariant-loop-other
invariant-loop-other l = IsTrue l.found → (v : ℕ) × IsLoneMate l.member.graph.now l.member.plan.now l.member.unit v
