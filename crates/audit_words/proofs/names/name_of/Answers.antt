use Rattle.std.proofs.Common.{add-one, ◌≡◌, ◌∙◌, ◌<◌, arith, false, get_or, length, sym, ap}
use Rattle.std.specs.Prelude.{bytes_eq}
use Rattle.audit_model.specs.Names.{name_text}
use Rattle.audit_model.specs.declared.fault.Name.TheVariants.{Pop}
use Rattle.audit_statement.specs.Words.{names_of}
use Rattle.audit_words.proofs.Finding.{find-skips}
use Rattle.audit_words.proofs.names.name_of.Goals as goal

pub loop-name-preserved : goal.loop-name-preserved
loop-name-preserved c =
    let table = c.names_of-name-items.ensures in
    let inside : c.loop-name.name-index < length (names_of c.args.command) = omega (arith, ap length table) in
    let other : bytes_eq (name_text (get_or (names_of c.args.command) c.loop-name.name-index Pop)) c.args.word.now ≡ false =
    ap (λ names. bytes_eq (name_text (get_or names c.loop-name.name-index Pop)) c.args.word.now) (sym table) ∙ sym (ap (λ t. bytes_eq t c.args.word.now) c.text.ensures)
    ∙ sym c.if-eq.ensures in
    rw add-one (c.loop-name.invariant ∙ find-skips (λ name. bytes_eq (name_text name) c.args.word.now) (names_of c.args.command) c.loop-name.name-index Pop inside other)
