use Rattle.std.proofs.Common.{◌++◌, ◌+◌, [], drop, flat_map, get_or, subst, arith}
use Rattle.report.specs.declared.piece.Piece.{Piece}
use Rattle.report.specs.declared.piece.Piece.TheVariants.{Text}
use Rattle.report.specs.Pieces.{piece_text}
use Rattle.report.proofs.Letting.{next_as, next_front, next_rest}
use Rattle.report.proofs.NoteLines.{IsOnTheWay, all_added, begun, goes_on, no_piece_left, one_piece_more}
use Rattle.report.proofs.note.output.add_pieces.Goals as goal

pub loop-piece-init : goal.loop-piece-init
loop-piece-init g c = record { way = λ start text_so_far s. begun start _ text_so_far (flat_map piece_text c.args.pieces.now) _ s; permitted = c.requires }

pub add_piece-going-requires : goal.add_piece-going-requires
add_piece-going-requires g c =
    let blank : Piece = Text (record { ref_ptr = (0, 0); now = [] }) in
    next_front (piece_text (get_or c.args.pieces.now c.loop-piece.piece-index blank)) (flat_map piece_text (drop (c.loop-piece.piece-index + 1) c.args.pieces.now))
    (next_as c.loop-piece.invariant.permitted (one_piece_more c.args.pieces.now c.loop-piece.piece-index blank (omega arith)))

pub loop-piece-preserved : goal.loop-piece-preserved
loop-piece-preserved g c =
    let blank : Piece = Text (record { ref_ptr = (0, 0); now = [] }) in
    let piece = piece_text (get_or c.args.pieces.now c.loop-piece.piece-index blank) in
    let left = flat_map piece_text (drop (c.loop-piece.piece-index + 1) c.args.pieces.now) in
    let more = one_piece_more c.args.pieces.now c.loop-piece.piece-index blank (omega arith) in
    record {
      way = λ start text_so_far s.
          goes_on start _ _ _ _ _ piece left
          (subst (λ t. IsOnTheWay start (g.N.Sink.state c.loop-piece.note) c.loop-piece.going (text_so_far ++ flat_map piece_text c.args.pieces.now) t) more (c.loop-piece.invariant.way start text_so_far s))
          c.add_piece-going.ensures;
      permitted = next_rest piece left (next_as c.loop-piece.invariant.permitted more) c.add_piece-going.ensures;
    }

pub returns : goal.returns
returns g c = λ start text_so_far s.
    all_added start _ _ _
    (subst (λ t. IsOnTheWay start (g.N.Sink.state c.loop-piece.note) c.loop-piece.going (text_so_far ++ flat_map piece_text c.args.pieces.now) t) (no_piece_left c.args.pieces.now c.loop-piece.piece-index (omega arith)) (c.loop-piece.invariant.way start text_so_far s))
