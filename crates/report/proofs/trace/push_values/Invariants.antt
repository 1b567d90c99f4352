use Rattle.std.proofs.Common.{◌∷◌}
use Rattle.std.specs.Fmt.{signed_decimal}
use Rattle.report.proofs.Pieces.{ArePieces}
use Rattle.report.proofs.trace.push_values.Given as goal

abbrev pub invariant-loop-place : goal.invariant-loop-place
invariant-loop-place l = ArePieces (λ z. 32 ∷ signed_decimal z) l.values l.place l.fn.out l.out
