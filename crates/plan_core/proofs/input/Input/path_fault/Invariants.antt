use Rattle.std.proofs.Common.{◌≡◌, None}
use Rattle.audit_model.specs.First.{first_below}
use Rattle.audit_model.specs.JobOf.{is_disconnected}
use Rattle.plan_core.specs.Input.{with_start}
use Rattle.plan_core.proofs.input.Input.path_fault.Given as goal

abbrev pub invariant-loop-district : goal.invariant-loop-district
invariant-loop-district l = record {
  units : l.marks.units ≡ l.self.graph.units;
  none : first_below l.district (is_disconnected (with_start l.self l.plan)) ≡ None;
}
