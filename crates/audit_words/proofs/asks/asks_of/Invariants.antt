use Rattle.std.proofs.Common.{◌≡◌}
use Rattle.audit_words.proofs.asks.asks_of.Given as goal

abbrev pub invariant-loop-ask : goal.invariant-loop-ask
invariant-loop-ask l = l.asks ≡ l.yielded
