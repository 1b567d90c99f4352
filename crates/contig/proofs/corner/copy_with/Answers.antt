use Rattle.std.proofs.Common.{◌≡◌, length-append, ◌+◌, ◌<◌, ◌++◌, ◌∷◌, [], List, get_or, length, sym, ap, ◌∙◌, arith}
use Rattle.std.specs.Prelude.{slice_range}
use Rattle.std.proofs.lemmas.List.{append_assoc, get_or_append_left, get_or_read}
use Rattle.contig.specs.declared.corner.Corner.{Corner}
use Rattle.contig.proofs.Spanning.{range_next}
use Rattle.contig.proofs.corner.copy_with.Goals as goal

pub loop-place-preserved : goal.loop-place-preserved
loop-place-preserved c =
    let xs : List Corner = c.args.corners.now.items in
    let p = c.loop-place.place in
    let b = c.args.span.begin in
    let d : Corner = record { one = 0; other = 0; far = 0; further = 0 } in
    let within = c.requires.within in
    let test = c.loop-place-test.true in
    let inside : p < length xs = omega (arith, test, within) in
    let part = slice_range xs b p in
    let wide : length c.loop-place.corners.items ≡ length xs + length part = ap (length {A = Corner}) c.loop-place.invariant.copied ∙ length-append xs part in
    let is : c.index-moved.result.now ≡ get_or xs p d =
    get_or_read c.loop-place.corners.items p c.index-moved.result.now (omega (arith, inside, wide)) c.index-moved.ensures d
    ∙ ap (λ (t : List Corner). get_or t p d) c.loop-place.invariant.copied ∙ get_or_append_left xs part d p inside in
    record {
      from = let from = c.loop-place.invariant.from in omega (arith, from);
      upto = omega (arith, test);
      copied = c.in_ok-push.ensures.items ∙ ap (λ (t : List Corner). t ++ c.index-moved.result.now ∷ []) c.loop-place.invariant.copied
          ∙ append_assoc xs part (c.index-moved.result.now ∷ []) ∙ ap (λ (y : Corner). xs ++ (part ++ y ∷ [])) is
          ∙ ap (λ (t : List Corner). xs ++ t) (sym (range_next xs b p d c.loop-place.invariant.from inside));
    }
