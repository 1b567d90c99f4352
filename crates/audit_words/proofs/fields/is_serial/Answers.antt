use Rattle.std.proofs.Common.{◌≡◌, ◌∙◌, ap, arith, refl, sym, true}
use Rattle.std.specs.Prelude.{◌&&◌}
use Rattle.audit_model.specs.declared.fault.Name.TheVariants as name
use Rattle.audit_model.specs.declared.setting.Command.TheVariants as command
use Rattle.audit_statement.specs.Words.{divides_draws, is_yes_or_no, number_named, text_of}
use Rattle.audit_words.specs.ArgumentBytes.{pairs_in}
use Rattle.audit_words.proofs.ValidValues.{number-bounds}
use Rattle.audit_words.proofs.fields.is_serial.Goals as goal

pub returns-then-is_answer : goal.returns-then-is_answer
returns-then-is_answer c =
    let words = pairs_in c.args.words.now in
    let passes : is_yes_or_no command.Check words name.Serial ≡ true =
    rw (c.text_of.ensures) at (sym c.is_answer.ensures ∙ c.if-is_answer.true) in
    let steps : c.number_at.result ≡ number_named command.Check words name.Steps =
    c.number_at.ensures (omega (arith, (number-bounds 1 1000000000 (text_of command.Check words name.Steps) c.requires).1)) in
    let divides : c.divides_draws.result ≡ divides_draws command.Check words = c.divides_draws.ensures ∙ rw (steps) refl in
    divides ∙ sym (ap (λ b. b && divides_draws command.Check words) passes)
