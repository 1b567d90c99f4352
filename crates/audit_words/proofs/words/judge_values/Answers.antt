use Rattle.std.proofs.Common.{◌≡◌, ◌⊎◌, ◌<◌, ◌≤◌, ap, arith, below_more, false, get_or, inr, length, option_map, Some, subst, sym, true}
use Rattle.audit_model.specs.declared.fault.Name.TheVariants.{Pop}
use Rattle.audit_model.specs.declared.fault.WordFault.TheVariants.{BadValue, Memory}
use Rattle.audit_words.specs.Judged.{DependenciesAreValid, fault_of_values}
use Rattle.audit_words.specs.ArgumentBytes.{pairs_in}
use Rattle.audit_statement.specs.Words.{is_good, names_of}
use Rattle.audit_words.proofs.Finding.{find-failing, find-no_failing}
use Rattle.audit_words.proofs.Order.{DependenciesAreValid-behind}
use Rattle.audit_words.proofs.words.judge_values.Goals as goal

pub is_good-requires : goal.is_good-requires
is_good-requires c =
    let table = c.names_of-name-items.ensures in
    let inside : c.loop-name.name-index < length (names_of c.args.command) = omega (arith, ap length table) in
    subst (λ names. DependenciesAreValid (pairs_in c.args.words.now) (get_or names c.loop-name.name-index Pop)) (sym table)
    (DependenciesAreValid-behind c.args.command (pairs_in c.args.words.now) c.loop-name.name-index inside c.requires c.loop-name.invariant)

pub returns-then-not-is_good : goal.returns-then-not-is_good
returns-then-not-is_good c =
    let table = c.names_of-name-items.ensures in
    let inside : c.loop-name.name-index < length (names_of c.args.command) = omega (arith, ap length table) in
    let bad : is_good c.args.command (pairs_in c.args.words.now) (get_or (names_of c.args.command) c.loop-name.name-index Pop) ≡ false =
    subst (λ names. is_good c.args.command (pairs_in c.args.words.now) (get_or names c.loop-name.name-index Pop) ≡ false) table (sym c.if-not-is_good.ensures) in
    subst (λ names. (BadValue (get_or names c.loop-name.name-index Pop) ≡ Memory) ⊎ (fault_of_values c.args.command (pairs_in c.args.words.now) ≡ Some (BadValue (get_or names c.loop-name.name-index Pop)))) (sym table)
    (inr (ap (option_map BadValue) (find-failing (is_good c.args.command (pairs_in c.args.words.now)) (names_of c.args.command) c.loop-name.name-index Pop inside c.loop-name.invariant bad)))

pub loop-name-preserved : goal.loop-name-preserved
loop-name-preserved c =
    below_more (λ j. is_good c.args.command (pairs_in c.args.words.now) (get_or (names_of c.args.command) j Pop) ≡ true) c.loop-name.name-index c.loop-name.invariant
    (subst (λ names. is_good c.args.command (pairs_in c.args.words.now) (get_or names c.loop-name.name-index Pop) ≡ true) c.names_of-name-items.ensures (sym c.if-not-is_good.ensures))

pub returns : goal.returns
returns c =
    let end : length (names_of c.args.command) ≤ c.loop-name.name-index = omega (arith, ap length c.names_of-name-items.ensures) in
    ap (option_map BadValue) (find-no_failing (is_good c.args.command (pairs_in c.args.words.now)) (names_of c.args.command) Pop (λ j inside. c.loop-name.invariant j (omega arith)))
