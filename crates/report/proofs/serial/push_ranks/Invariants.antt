use Rattle.audit_model.specs.Stopping.{placed_asks}
use Rattle.report.proofs.Pieces.{ArePieces}
use Rattle.audit_statement.specs.Report.{serial_line}
use Rattle.report.proofs.serial.push_ranks.Given as goal

abbrev pub invariant-loop-k : goal.invariant-loop-k
invariant-loop-k l = ArePieces (serial_line l.job l.place l.ranks) (placed_asks l.job) l.k l.fn.out l.out
