use Rattle.report.proofs.Pieces.{ArePieces}
use Rattle.audit_model.specs.Stopping.{placed_asks}
use Rattle.audit_statement.specs.Report.{walk_line}
use Rattle.report.proofs.walks.push_walk.Given as goal

abbrev pub invariant-loop-place : goal.invariant-loop-place
invariant-loop-place l = ArePieces (walk_line l.job l.found) (placed_asks l.job) l.place l.fn.out l.out
