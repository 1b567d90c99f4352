use Rattle.report.proofs.Pieces.{ArePieces}
use Rattle.audit_model.specs.Stopping.{placed_asks}
use Rattle.audit_statement.specs.Report.{ends_line}
use Rattle.report.proofs.ends.push_ends.Given as goal

abbrev pub invariant-loop-place : goal.invariant-loop-place
invariant-loop-place l = ArePieces (ends_line l.job l.ends) (placed_asks l.job) l.place l.fn.out l.out
