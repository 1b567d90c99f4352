use Rattle.report.proofs.Pieces.{ArePieces}
use Rattle.report.specs.Parts.{lines_of}
use Rattle.report.proofs.walks.push_walks.Given as goal

abbrev pub invariant-loop-found : goal.invariant-loop-found
invariant-loop-found l = ArePieces (lines_of l.job) l.walks l.found-index l.fn.out l.out
