use Rattle.std.proofs.Common.{◌∙◌, ◌-◌, [], ap, map, sym}
use Rattle.std.specs.Prelude.{string_bytes}
use Rattle.std.proofs.lemmas.List.{get_or-map}
use Rattle.std.proofs.lemmas.Bool.{ltb-true}
use Rattle.audit_folders.proofs.Texts.{name_behind}
use Rattle.audit_folders.proofs.lines.name_of.Goals as goal

pub returns-in-Some : goal.returns-in-Some
returns-in-Some c =
    let l = c.in-Some.ensures.lookup in
    c.as_str.ensures.value ∙ ap string_bytes l.1
    ∙ sym (get_or-map string_bytes c.args.names.now (c.args.number - 1) c.in-Some.name.now [] (ltb-true _ _ (sym l.0)))
    ∙ sym (name_behind (map string_bytes c.args.names.now) c.args.number c.if-number-eq0.false)
