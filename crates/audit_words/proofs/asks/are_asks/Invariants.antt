use Rattle.std.proofs.Common.{◌≡◌, ◌-◌}
use denote.Shadow.{shadow}
use denote.Text.{Utf8}
use Rattle.audit_statement.specs.Words.{are_asks, parts_between}
use Rattle.audit_words.proofs.Parting.{are_within}
use Rattle.audit_words.proofs.asks.are_asks.Given as goal

abbrev pub invariant-loop : goal.invariant-loop
invariant-loop l = shadow (Utf8 l.rest) × (are_asks l.text ≡ are_within (4 - l.counter) (parts_between 44 l.rest))
