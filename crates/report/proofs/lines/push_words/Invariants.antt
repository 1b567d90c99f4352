use Rattle.std.proofs.Common.{◌∷◌}
use Rattle.report.specs.Lines.{word_text}
use Rattle.report.proofs.Pieces.{ArePieces}
use Rattle.report.proofs.lines.push_words.Given as goal

abbrev pub invariant-loop-word : goal.invariant-loop-word
invariant-loop-word l = ArePieces (λ word. 32 ∷ word_text word) l.words l.word-index l.fn.out l.out
