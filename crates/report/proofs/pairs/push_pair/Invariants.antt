use Rattle.report.proofs.Pieces.{ArePieces}
use Rattle.audit_model.specs.Stopping.{placed_asks}
use Rattle.audit_statement.specs.Report.{pair_line}
use Rattle.report.proofs.pairs.push_pair.Given as goal

abbrev pub invariant-loop-place : goal.invariant-loop-place
invariant-loop-place l = ArePieces (pair_line l.job (l.first, l.second)) (placed_asks l.job) l.place l.fn.out l.out
