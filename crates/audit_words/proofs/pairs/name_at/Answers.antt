use Rattle.std.proofs.Common.{◌<◌, [], length, ◌*◌, ap, ◌∙◌, sym, arith, refl, string_bytes}
use Rattle.std.proofs.lemmas.List.{length-map, get_or-map}
use Rattle.audit_words.specs.ArgumentBytes.{argument_bytes}
use Rattle.audit_words.proofs.Pairing.{pairs-upper, first_at}
use Rattle.audit_words.proofs.pairs.name_at.Goals as goal

pub overflow_mul-place : goal.overflow_mul-place
overflow_mul-place c = omega (arith, c.well_formed.0, pairs-upper (argument_bytes c.args.words.now), length-map c.args.words.now string_bytes)

pub offset_bounds-words-place : goal.offset_bounds-words-place
offset_bounds-words-place c = omega (arith, c.well_formed.0, pairs-upper (argument_bytes c.args.words.now), length-map c.args.words.now string_bytes)

pub bounds-words-place : goal.bounds-words-place
bounds-words-place c = omega (arith, pairs-upper (argument_bytes c.args.words.now), length-map c.args.words.now string_bytes)

pub returns : goal.returns
returns c =
    let inside : 2 * c.args.place < length c.args.words.now = omega (arith, pairs-upper (argument_bytes c.args.words.now), length-map c.args.words.now string_bytes) in
    c.as_str.ensures.value ∙ ap string_bytes c.index-words-place.is
    ∙ sym (get_or-map string_bytes c.args.words.now (2 * c.args.place) c.index-words-place.result [] inside)
    ∙ sym (first_at (argument_bytes c.args.words.now) c.args.place (2 * c.args.place) refl c.requires)
