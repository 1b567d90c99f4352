use Rattle.std.proofs.Common.{◌≡◌, ℕ, Option, IfSome, subst, arith}
use Rattle.report.proofs.room.names_len.Goals as goal

same_count : (r : Option ℕ) (a b : ℕ) → IfSome r (λ n. n ≡ a) → a ≡ b → IfSome r (λ n. n ≡ b)
same_count r a b h e = subst (λ (x : ℕ). IfSome r (λ n. n ≡ x)) e h

pub returns-clause-value : goal.returns-clause-value
returns-clause-value c = same_count c.checked_sum.result _ _ c.checked_sum.ensures.value (omega arith)
