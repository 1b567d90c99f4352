use Rattle.report.proofs.Pieces.{ArePieces}
use Rattle.audit_statement.specs.Report.{moved_line}
use Rattle.report.proofs.walks.push_moves.Given as goal

abbrev pub invariant-loop-found : goal.invariant-loop-found
invariant-loop-found l = ArePieces moved_line l.walks l.found-index l.fn.out l.out
