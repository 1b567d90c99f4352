use Rattle.std.proofs.Common.{◌≡◌, ◌∙◌, ap, arith}
use Rattle.std.specs.List.{filter_map}
use Rattle.audit_model.specs.declared.fault.Name.TheVariants as name
use Rattle.audit_model.specs.declared.setting.Command.TheVariants as command
use Rattle.audit_statement.specs.Words as definition
use Rattle.audit_words.specs.ArgumentBytes.{pairs_in}
use Rattle.audit_words.proofs.ValidValues.{number-bounds}
use Rattle.audit_words.proofs.settings.made_setting.Goals as goal

pub run_setting-requires-clause-asks : goal.run_setting-requires-clause-asks
run_setting-requires-clause-asks c = c.in_ok-asks.ensures ∙ ap (λ t. filter_map definition.ask_of (definition.parts_between 44 t)) c.text_of.ensures

pub returns-in-Ok : goal.returns-in-Ok
returns-in-Ok c =
    let size : c.number_at.result ≡ definition.number_named command.Make (pairs_in c.args.words.now) name.Size =
    c.number_at.ensures (omega (arith, (number-bounds 1 30 (definition.text_of command.Make (pairs_in c.args.words.now) name.Size) c.requires.size).1)) in
    rw (c.in-Ok.ensures, size, c.new.ensures, c.no_limits.ensures) at c.run_setting.ensures
