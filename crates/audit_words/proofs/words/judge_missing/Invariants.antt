use Rattle.std.proofs.Common.{◌≡◌, drop, find, is_none}
use Rattle.audit_words.specs.ArgumentBytes.{pairs_in}
use Rattle.audit_statement.specs.Words as definition
use Rattle.audit_words.proofs.words.judge_missing.Given as goal

abbrev pub invariant-loop-name : goal.invariant-loop-name
invariant-loop-name l = find (λ name. is_none (definition.given_or_default l.fn.command (pairs_in l.words) name)) (definition.names_of l.fn.command)
    ≡ find (λ name. is_none (definition.given_or_default l.fn.command (pairs_in l.words) name)) (drop l.name-index (definition.names_of l.fn.command))
