use Rattle.std.proofs.Common.{◌+◌, ◌++◌, ◌∷◌, [], None, length, take, slice_index_or, refl, ap, sym, ◌∙◌, arith, append_assoc, length-append}
use Rattle.outcome_book.specs.Placed.{those_there}
use Rattle.outcome_book.proofs.Tables.{next_there, next_has_room}
use Rattle.outcome_book.proofs.gathering.append_all.Goals as goal

pub append_if-requires : goal.append_if-requires
append_if-requires c =
    omega (
      arith,
      next_has_room c.args.places.now c.loop-place.place-index (c.loop-place.place-index + 1) (omega arith) refl None,
      ap length c.loop-place.invariant.items,
      length-append c.args.out.now.items (those_there (take c.loop-place.place-index c.args.places.now)),
      c.loop-place.invariant.room,
      c.requires,
    )

pub loop-place-preserved : goal.loop-place-preserved
loop-place-preserved c = record {
  items =
      c.append_if.ensures.items
      ∙ ap (λ xs. xs ++ those_there (slice_index_or c.args.places.now c.loop-place.place-index None ∷ [])) c.loop-place.invariant.items
      ∙ append_assoc c.args.out.now.items (those_there (take c.loop-place.place-index c.args.places.now)) _
      ∙ ap (λ xs. c.args.out.now.items ++ xs)
      (sym (next_there c.args.places.now c.loop-place.place-index (c.loop-place.place-index + 1) (omega arith) refl None));
  room = c.append_if.ensures.spare ∙ c.loop-place.invariant.room;
}
