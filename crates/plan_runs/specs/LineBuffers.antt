-- A job's line buffer: the previous plan, and capacity for any line.
use Rattle.std.specs.Prelude.{◌≡◌, ℕ, ◌+◌, ◌≤◌, List, length}
use Rattle.audit_model.specs.Job.{Job}
use Rattle.audit_model.specs.Plan.{IsLegal}
use Rattle.audit_model.specs.Room.{RoomyBytes}
use Rattle.audit_statement.specs.Along.{ask_values}
use Rattle.audit_statement.specs.Trace.{plan_line, trace_id_line}
use Rattle.plan_runs.specs.declared.line_buffer.LineBuffer.{LineBuffer}

-- once cleared, the buffer takes any line without allocating
pub record HasLineCapacity (job : Job) (line : RoomyBytes) : Type 0 where
  pub start : (id thin : ℕ) → length (trace_id_line job id thin) ≤ line.spare + length line.items
  pub plan : (step moved : ℕ) (before plan : List ℕ) → IsLegal job plan → length (plan_line step moved (ask_values job plan) before plan) ≤ line.spare + length line.items

pub record IsLineBuffer (job : Job) (p : LineBuffer) : Type 0 where
  pub width : length p.before ≡ job.graph.units
  pub room : HasLineCapacity job p.line
