use Rattle.audit_model.specs.Stopping.{placed_asks}
use Rattle.audit_statement.specs.Trace.{ask_line}
use Rattle.report.proofs.Pieces.{ArePieces}
use Rattle.report.proofs.trace.push_ask_lines.Given as goal

abbrev pub invariant-loop-place : goal.invariant-loop-place
invariant-loop-place l = ArePieces (ask_line l.job) (placed_asks l.job) l.place l.fn.out l.out
