use Rattle.std.proofs.Common.{◌≡◌, None}
use Rattle.audit_model.specs.First.{first_below}
use Rattle.ckpt_format.specs.Faults.{is_unordered}
use Rattle.ckpt_format.proofs.fault.first_unordered.Given as goal

abbrev pub invariant-loop-place : goal.invariant-loop-place
invariant-loop-place l = first_below l.place (is_unordered l.bytes) ≡ None
