use Rattle.std.proofs.Common.{◌∙◌, ap, sym, take}
use Rattle.std.specs.Prelude.{string_bytes}
use Rattle.std.proofs.lemmas.List.{take-map}
use Rattle.audit_words.specs.ArgumentBytes.{argument_bytes}
use Rattle.audit_folders.proofs.gather_command.folders_in.Goals as goal

pub returns : goal.returns
returns c =
    let words = c.args.words.now in
    sym (take-map string_bytes c.count_folders.result words) ∙ ap (λ n. take n (argument_bytes words)) c.count_folders.ensures.count
