use Rattle.std.proofs.Common.{◌≡◌, ◌∙◌, ap, arith, refl, sym, true}
use Rattle.std.specs.Prelude.{◌&&◌}
use Rattle.std.proofs.lemmas.Bool.{and_parts}
use Rattle.audit_model.specs.declared.fault.Name.TheVariants as name
use Rattle.audit_model.specs.declared.setting.Command.TheVariants as command
use Rattle.audit_statement.specs.Words.{has_walks, is_number, number_named, stops_alone, text_of}
use Rattle.audit_words.specs.ArgumentBytes.{pairs_in}
use Rattle.audit_words.proofs.ValidValues.{number-bounds}
use Rattle.audit_words.proofs.fields.is_stop.Goals as goal

pub returns-then-is_number : goal.returns-then-is_number
returns-then-is_number c =
    let words = pairs_in c.args.words.now in
    let passes : is_number 0 100000 (text_of command.Check words name.Stop) ≡ true =
    sym (ap (is_number 0 100000) c.text_of.ensures) ∙ sym c.is_number.ensures ∙ c.if-is_number.true in
    let stop : c.number_at.result ≡ number_named command.Check words name.Stop =
    c.number_at.ensures (omega (arith, (number-bounds 0 100000 (text_of command.Check words name.Stop) passes).1)) in
    let ends : c.number_at-then-is_number.result ≡ number_named command.Check words name.Ends =
    c.number_at-then-is_number.ensures (omega (
      arith,
      (number-bounds 0 100000 (text_of command.Check words name.Ends)
          (and_parts (is_number 0 100000 (text_of command.Check words name.Ends)) (has_walks command.Check words) c.requires.0).0).1,
    )) in
    let save : c.number_at-then-is_number-2.result ≡ number_named command.Check words name.Save =
    c.number_at-then-is_number-2.ensures (omega (arith, (number-bounds 0 100000 (text_of command.Check words name.Save) c.requires.1).1)) in
    let alone : c.stops_alone.result ≡ stops_alone command.Check words = c.stops_alone.ensures ∙ rw (stop, ends, save) refl in
    alone ∙ sym (ap (λ b. b && stops_alone command.Check words) passes)
