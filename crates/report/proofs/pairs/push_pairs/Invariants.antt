use Rattle.report.proofs.Pieces.{ArePieces}
use Rattle.report.specs.Parts.{lines_of_pair}
use Rattle.audit_statement.specs.Report.{by_twos}
use Rattle.report.proofs.pairs.push_pairs.Given as goal

abbrev pub invariant-loop-pair : goal.invariant-loop-pair
invariant-loop-pair l = ArePieces (lines_of_pair l.job) (by_twos l.walks) l.pair l.fn.out l.out
