-- The number of the first endpoints that are there, and the number of them in the tail.
use Rattle.std.specs.Prelude.{ℕ, ◌+◌, ◌&&◌, Bool, nat_le, nat_lt, List, count_by, ℤ}
use Rattle.audit_model.specs.declared.outcome.Outcome.{Outcome}
use Rattle.audit_model.specs.declared.setting.Tail.{Tail}
use Rattle.audit_model.specs.Trajectory.{in_tail, value_at}

-- the outcome is one of the first n endpoints
abbrev pub is_end_below : ℕ → ℕ → Outcome → Bool
is_end_below walks n o = nat_le walks o.id && nat_lt o.id (walks + n)

abbrev pub ends_below : ℕ → List Outcome → ℕ → ℕ
ends_below walks outcomes n = count_by (is_end_below walks n) outcomes

abbrev pub tails_below : ℕ → ℕ → Tail → ℤ → List Outcome → ℕ → ℕ
tails_below walks place tail start outcomes n = count_by (λ o. is_end_below walks n o && in_tail tail (value_at o place) start) outcomes
