use Rattle.std.proofs.Common.{◌∙◌, ap, drop, sym}
use Rattle.std.specs.Prelude.{string_bytes}
use Rattle.std.proofs.lemmas.List.{drop-map, take_rest}
use Rattle.audit_words.specs.ArgumentBytes.{argument_bytes}
use Rattle.audit_folders.proofs.gather_command.run_part.Goals as goal

pub returns : goal.returns
returns c =
    let words = c.args.words.now in
    let count = c.count_folders.result in
    ap argument_bytes (take_rest words count) ∙ sym (drop-map string_bytes count words) ∙ ap (λ n. drop n (argument_bytes words)) c.count_folders.ensures.count
