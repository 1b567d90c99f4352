use Rattle.std.proofs.Common.{◌∙◌, ◌+◌, ◌<◌, [], ap, arith, length, refl, sym}
use Rattle.std.specs.Prelude.{is_some, string_bytes}
use Rattle.std.proofs.lemmas.List.{get_or-map, length-map}
use Rattle.audit_statement.specs.Words.{command_of}
use Rattle.audit_words.specs.ArgumentBytes.{argument_bytes}
use Rattle.audit_folders.proofs.Counting.{no_more, one_more}
use Rattle.audit_folders.proofs.gather_command.count_folders.Goals as goal

pub returns-then-is_command-clause-count : goal.returns-then-is_command-clause-count
returns-then-is_command-clause-count c =
    let names = argument_bytes c.args.words.now in
    let i = c.loop-word.word-index in
    let long = length-map c.args.words.now string_bytes in
    let less : i < length c.args.words.now = omega (arith, c.loop-word-test.true, c.loop-word.auto.word-index-end) in
    let name = c.as_str.ensures.value ∙ ap string_bytes c.word-item.is ∙ sym (get_or-map string_bytes c.args.words.now i c.word-item.result [] less) in
    let none = no_more names i [] (omega (arith, less, long)) (ap (λ n. is_some (command_of n)) (sym name) ∙ sym c.is_command.ensures ∙ c.if-is_command.true) in
    omega (arith, c.loop-word.invariant.count, c.loop-word.invariant.counted, none)

pub loop-word-preserved : goal.loop-word-preserved
loop-word-preserved c =
    let names = argument_bytes c.args.words.now in
    let i = c.loop-word.word-index in
    let long = length-map c.args.words.now string_bytes in
    let less : i < length c.args.words.now = omega (arith, c.loop-word-test.true, c.loop-word.auto.word-index-end) in
    let name = c.as_str.ensures.value ∙ ap string_bytes c.word-item.is ∙ sym (get_or-map string_bytes c.args.words.now i c.word-item.result [] less) in
    let more = one_more names i (i + 1) [] refl (omega (arith, less, long)) (ap (λ n. is_some (command_of n)) (sym name) ∙ sym c.is_command.ensures ∙ c.if-is_command.false) in
    record { count = omega (arith, c.loop-word.invariant.count); counted = omega (arith, c.loop-word.invariant.counted, more) }
