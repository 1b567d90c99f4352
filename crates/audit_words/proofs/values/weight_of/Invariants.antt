use Rattle.std.proofs.Common.{◌≡◌, ◌≤◌, ◌&&◌, None}
use Rattle.std.specs.Prelude.{bytes_eq, nat_le}
use Rattle.audit_model.specs.First.{first_below}
use Rattle.audit_statement.specs.Words.{quarters}
use Rattle.audit_words.proofs.values.weight_of.Given as goal

abbrev pub invariant-loop-quarters : goal.invariant-loop-quarters
invariant-loop-quarters l = (first_below l.quarters (λ q. nat_le 4 q && bytes_eq (quarters q) l.text) ≡ None) × (4 ≤ l.quarters)
