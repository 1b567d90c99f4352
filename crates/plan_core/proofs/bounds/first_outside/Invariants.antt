use Rattle.std.proofs.Common.{◌≡◌, None}
use Rattle.audit_model.specs.First.{first_below}
use Rattle.plan_core.specs.Outside.{is_outside}
use Rattle.plan_core.proofs.bounds.first_outside.Given as goal

abbrev pub invariant-loop-district : goal.invariant-loop-district
invariant-loop-district l = first_below l.district (is_outside l.populations l.low l.high) ≡ None
