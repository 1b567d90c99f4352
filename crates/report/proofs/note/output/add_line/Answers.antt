use Rattle.std.proofs.Common.{◌∙◌, ◌++◌, ◌∷◌, [], ℕ, List, ap, append_assoc, flat_map, subst, sym}
use Rattle.report.specs.Pieces.{piece_text}
use Rattle.report.specs.AddedText.{HasAdded}
use Rattle.report.proofs.NoteLines.{two_texts}
use Rattle.report.proofs.Letting.{next_as, next_front, next_rest}
use Rattle.report.proofs.note.output.add_line.Goals as goal

pub returns : goal.returns
returns g c = record {
  adds = λ start text_so_far s.
      let first = flat_map piece_text c.args.first.now in
      let more = flat_map piece_text c.args.pieces.now in
      subst (λ (t : List ℕ). HasAdded start (g.N.Sink.state c.add.new.note) t c.add.result)
      (append_assoc (text_so_far ++ first) more (10 ∷ []) ∙ append_assoc text_so_far first (more ++ 10 ∷ [])
      ∙ ap (λ t. text_so_far ++ t) (sym (append_assoc first more (10 ∷ [])) ∙ two_texts c.args.first.now c.args.pieces.now))
      (c.add.ensures start _ (c.add_pieces-going-2.ensures start _ (c.add_pieces-going.ensures start text_so_far s)));
}

pub add_pieces-going-requires : goal.add_pieces-going-requires
add_pieces-going-requires g c =
    let first = flat_map piece_text c.args.first.now in
    let more = flat_map piece_text c.args.pieces.now in
    next_front first (more ++ 10 ∷ []) (next_as c.requires (sym (two_texts c.args.first.now c.args.pieces.now) ∙ append_assoc first more (10 ∷ [])))

pub add_pieces-going-requires-2 : goal.add_pieces-going-requires-2
add_pieces-going-requires-2 g c =
    let first = flat_map piece_text c.args.first.now in
    let more = flat_map piece_text c.args.pieces.now in
    next_front more (10 ∷ [])
    (next_rest first (more ++ 10 ∷ []) (next_as c.requires (sym (two_texts c.args.first.now c.args.pieces.now) ∙ append_assoc first more (10 ∷ []))) c.add_pieces-going.ensures)

pub add-requires : goal.add-requires
add-requires g c =
    let first = flat_map piece_text c.args.first.now in
    let more = flat_map piece_text c.args.pieces.now in
    next_rest more (10 ∷ [])
    (next_rest first (more ++ 10 ∷ []) (next_as c.requires (sym (two_texts c.args.first.now c.args.pieces.now) ∙ append_assoc first more (10 ∷ []))) c.add_pieces-going.ensures)
    c.add_pieces-going-2.ensures
