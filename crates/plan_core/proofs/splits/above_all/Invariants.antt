use Rattle.std.proofs.Common.{◌≡◌, take}
use Rattle.audit_model.specs.Below.{above_all}
use Rattle.plan_core.proofs.splits.above_all.Given as goal

abbrev pub invariant-loop-number : goal.invariant-loop-number
invariant-loop-number l = l.above ≡ above_all (take l.number-index l.numbers)
