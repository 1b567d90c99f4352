use Rattle.std.proofs.Common.{◌++◌, ℕ, List, drop, flat_map}
use Rattle.audit_model.specs.State.{Stream}
use Rattle.report.specs.Pieces.{piece_text}
use Rattle.report.specs.AddedText.{HasAdded, LetsNext}
use Rattle.report.proofs.NoteLines.{IsOnTheWay}
use Rattle.report.proofs.note.output.add_pieces.Given as goal

abbrev pub invariant-loop-piece : goal.invariant-loop-piece
invariant-loop-piece g l = record {
  way : (start : Stream) (text_so_far : List ℕ) → HasAdded start (g.N.Sink.state l.fn.note) text_so_far l.fn.going
      → IsOnTheWay start (g.N.Sink.state l.note) l.going (text_so_far ++ flat_map piece_text l.pieces) (flat_map piece_text (drop l.piece-index l.pieces));
  permitted : LetsNext g.N.Sink.lets (g.N.Sink.state l.note) l.going (flat_map piece_text (drop l.piece-index l.pieces));
}
