use Rattle.std.specs.Prelude.{zip}
use Rattle.report.proofs.Pieces.{ArePieces}
use Rattle.audit_statement.specs.Report.{stopped_line}
use Rattle.report.proofs.stops.push_stops.Given as goal

abbrev pub invariant-loop-k : goal.invariant-loop-k
invariant-loop-k l = ArePieces (stopped_line l.job) (zip l.job.setting.asks l.stops) l.k l.fn.out l.out
