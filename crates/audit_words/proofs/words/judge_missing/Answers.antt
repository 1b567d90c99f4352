use Rattle.std.proofs.Common.{add-one, ◌≡◌, ◌∙◌, ◌<◌, arith, false, get_or, is_none, length, ap, sym}
use Rattle.audit_model.specs.declared.fault.Name.TheVariants.{Pop}
use Rattle.audit_statement.specs.Words.{given_or_default, names_of}
use Rattle.audit_words.specs.ArgumentBytes.{pairs_in}
use Rattle.audit_words.proofs.Finding.{find-skips, is_none-mapped}
use Rattle.audit_words.proofs.words.judge_missing.Goals as goal

pub loop-name-preserved : goal.loop-name-preserved
loop-name-preserved c =
    let table = c.names_of-name-items.ensures in
    let inside : c.loop-name.name-index < length (names_of c.args.command) = omega (arith, ap length table) in
    let there : is_none (given_or_default c.args.command (pairs_in c.args.words.now) (get_or (names_of c.args.command) c.loop-name.name-index Pop)) ≡ false =
    ap (λ names. is_none (given_or_default c.args.command (pairs_in c.args.words.now) (get_or names c.loop-name.name-index Pop))) (sym table)
    ∙ ap is_none (sym c.value_of.ensures) ∙ is_none-mapped (λ s. s.now) c.value_of.result c.if-is_none.ensures in
    rw add-one (c.loop-name.invariant
    ∙ find-skips (λ name. is_none (given_or_default c.args.command (pairs_in c.args.words.now) name)) (names_of c.args.command) c.loop-name.name-index Pop inside there)
