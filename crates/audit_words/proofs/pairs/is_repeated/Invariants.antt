use Rattle.std.proofs.Common.{◌≡◌, false, bytes_eq}
use Rattle.audit_model.specs.Below.{any_below}
use Rattle.audit_model.specs.declared.setting.Command.TheVariants as command
use Rattle.audit_words.specs.ArgumentBytes.{pairs_in}
use Rattle.audit_statement.specs.Words as definition
use Rattle.audit_words.proofs.pairs.is_repeated.Given as goal

abbrev pub invariant-loop-j : goal.invariant-loop-j
invariant-loop-j l = any_below l.j (λ j. bytes_eq (definition.word_pair command.Check (pairs_in l.words) j).0 (definition.word_pair command.Check (pairs_in l.words) l.place).0) ≡ false
