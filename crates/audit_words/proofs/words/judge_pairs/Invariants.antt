use Rattle.std.proofs.Common.{◌≡◌, None}
use Rattle.audit_model.specs.First.{first_some_below}
use Rattle.audit_words.specs.ArgumentBytes.{pairs_in}
use Rattle.audit_statement.specs.Words as definition
use Rattle.audit_words.proofs.words.judge_pairs.Given as goal

abbrev pub invariant-loop-k : goal.invariant-loop-k
invariant-loop-k l = first_some_below l.k (definition.pair_fault l.command (pairs_in l.words)) ≡ None
