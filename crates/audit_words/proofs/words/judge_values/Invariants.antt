use Rattle.std.proofs.Common.{◌≡◌, ℕ, ◌<◌, get_or, true}
use Rattle.audit_model.specs.declared.fault.Name.TheVariants.{Pop}
use Rattle.audit_words.specs.ArgumentBytes.{pairs_in}
use Rattle.audit_statement.specs.Words as definition
use Rattle.audit_words.proofs.words.judge_values.Given as goal

abbrev pub invariant-loop-name : goal.invariant-loop-name
invariant-loop-name l = (j : ℕ) → j < l.name-index → definition.is_good l.fn.command (pairs_in l.words) (get_or (definition.names_of l.fn.command) j Pop) ≡ true
