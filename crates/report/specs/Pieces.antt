-- The text of a diagnostic's pieces.
use Rattle.std.specs.Prelude.{ℕ, List, decimal}
use Rattle.hex.specs.Hex.{encode_lower}
use Rattle.report.specs.declared.piece.Piece.{Piece}
use Rattle.report.specs.declared.piece.Piece.TheVariants.{Text, Number, Digest}

-- the text of a piece
abbrev pub piece_text : Piece → List ℕ
piece_text (Text text) = text.now
piece_text (Number n) = decimal n
piece_text (Digest digest) = encode_lower digest.now
