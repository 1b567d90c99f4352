-- Counts over the neighbors of a unit.
use Rattle.std.proofs.Common.{◌≡◌, ℕ, Bool, ◌&&◌, [], ap, ◌∙◌}
use Rattle.std.specs.Prelude.{nat_lt, count_by}
use Rattle.std.specs.List.{slice_index_or}
use Rattle.audit_model.specs.Below.{count_below}
use Rattle.audit_model.specs.Graph.{Graph, IsGraph, has, adjacent}
use Rattle.audit_model.proofs.Below.{count_below_same}
use Rattle.audit_model.proofs.Rows.{row_rises, count_rising}

-- counting a unit's neighbors below a bound is counting the adjacent units below it
pub count_neighbours : (g : Graph) (unit bound : ℕ) (test : ℕ → Bool) → IsGraph g
    → count_by (λ v. nat_lt v bound && test v) (slice_index_or g.neighbours unit []) ≡ count_below bound (λ v. adjacent g v unit && test v)
count_neighbours g unit bound test sound =
    count_rising bound test (slice_index_or g.neighbours unit []) (row_rises g unit sound)
    ∙ count_below_same bound (λ v. has (slice_index_or g.neighbours unit []) v && test v) (λ v. adjacent g v unit && test v)
    (λ k l. ap (λ b. b && test k) (sound.symmetric unit k))
