use Rattle.std.proofs.Common.{◌≡◌, drop, find, bytes_eq}
use Rattle.audit_model.specs.Names.{name_text}
use Rattle.audit_statement.specs.Words as definition
use Rattle.audit_words.proofs.names.name_of.Given as goal

abbrev pub invariant-loop-name : goal.invariant-loop-name
invariant-loop-name l = find (λ name. bytes_eq (name_text name) l.fn.word) (definition.names_of l.fn.command)
    ≡ find (λ name. bytes_eq (name_text name) l.fn.word) (drop l.name-index (definition.names_of l.fn.command))
