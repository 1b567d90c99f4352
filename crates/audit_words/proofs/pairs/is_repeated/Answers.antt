use Rattle.std.proofs.Common.{◌≡◌, true, sym, bytes_eq, arith}
use Rattle.audit_model.specs.declared.setting.Command.TheVariants as command
use Rattle.audit_model.proofs.Below.{any_below_from}
use Rattle.audit_words.specs.ArgumentBytes.{pairs_in}
use Rattle.audit_statement.specs.Words as definition
use Rattle.audit_words.proofs.pairs.is_repeated.Goals as goal

pub returns-then-eq : goal.returns-then-eq
returns-then-eq c =
    let same : bytes_eq (definition.word_pair command.Check (pairs_in c.args.words.now) c.loop-j.j).0 (definition.word_pair command.Check (pairs_in c.args.words.now) c.args.place).0 ≡ true = cc in
    sym (any_below_from c.args.place (λ j. bytes_eq (definition.word_pair command.Check (pairs_in c.args.words.now) j).0 (definition.word_pair command.Check (pairs_in c.args.words.now) c.args.place).0) c.loop-j.j (omega arith) same)
