use Rattle.std.proofs.Common.{◌<◌, [], length, ◌+◌, ◌*◌, ap, ◌∙◌, sym, arith, refl, Some, string_bytes}
use Rattle.std.proofs.lemmas.List.{length-map, get_or-map}
use Rattle.audit_words.specs.ArgumentBytes.{argument_bytes}
use Rattle.audit_words.proofs.Pairing.{pairs-upper, second_at, no_second_at}
use Rattle.audit_words.proofs.pairs.value_at.Goals as goal

pub overflow_mul-place : goal.overflow_mul-place
overflow_mul-place c = omega (arith, c.well_formed.0, pairs-upper (argument_bytes c.args.words.now), length-map c.args.words.now string_bytes)

pub overflow_add-place : goal.overflow_add-place
overflow_add-place c = omega (arith, c.well_formed.0, pairs-upper (argument_bytes c.args.words.now), length-map c.args.words.now string_bytes)

pub returns-then-place-words : goal.returns-then-place-words
returns-then-place-words c =
    let inside : 2 * c.args.place + 1 < length c.args.words.now = omega arith in
    sym (second_at (argument_bytes c.args.words.now) c.args.place (2 * c.args.place + 1) refl (omega (arith, length-map c.args.words.now string_bytes))
    ∙ ap (λ t. Some t) (get_or-map string_bytes c.args.words.now (2 * c.args.place + 1) c.index-words-place.result [] inside
    ∙ sym (c.as_str.ensures.value ∙ ap string_bytes c.index-words-place.is)))

pub returns-else-place-words : goal.returns-else-place-words
returns-else-place-words c = sym (no_second_at (argument_bytes c.args.words.now) c.args.place (2 * c.args.place + 1) refl (omega (arith, length-map c.args.words.now string_bytes)))
