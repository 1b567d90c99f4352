use Rattle.std.proofs.Common.{refl}
use Rattle.std.specs.Fmt.{digits}
use Rattle.audit_model.specs.Below.{count_below}
use Rattle.audit_model.specs.Plan.{is_legal}
use Rattle.audit_model.specs.Step.{next}
use Rattle.audit_model.specs.Weight.{is_taken}
use Rattle.audit_model.specs.Trajectory.{visit}
use Rattle.audit_statement.specs.Trace.{first_lines, range_lines, trace_line, trace_text, trajectory_lines}
use Rattle.audit_laws.proofs.examples.traces.lines_of_an_end.Goals as goal

pub returns : goal.returns
unfolding trace_text range_lines trajectory_lines first_lines trace_line visit next is_taken is_legal count_below digits
returns c = refl
