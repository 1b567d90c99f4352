-- Without lengths the cut edges have no length.
use Rattle.std.proofs.Common.{◌≡◌, ℕ, zero, suc, ◌&&◌, Bool, true, false, not, cond, List, [], refl, ap, ◌∙◌, arith}
use Rattle.std.specs.Prelude.{◌==◌, slice_index}
use Rattle.audit_model.specs.Below.{sum_below}
use Rattle.audit_model.specs.Graph.{Graph, adjacent}
use Rattle.audit_model.specs.Length.{cut_length}

-- a choice between zero and zero is zero
nothing : (b : Bool) → cond {A = ℕ} b 0 0 ≡ 0
nothing true = refl
nothing false = refl

-- a sum of zeros is zero
sum_zero : (n : ℕ) (f : ℕ → ℕ) → ((k : ℕ) → f k ≡ 0) → sum_below n f ≡ 0
sum_zero zero f none = refl
sum_zero (suc n) f none = omega (arith, sum_zero n f none, none n)

-- the total length of cut edges without lengths is zero
pub cut_length_none : (g : Graph) (lengths plan : List ℕ) → lengths ≡ [] → cut_length g lengths plan ≡ 0
cut_length_none g lengths plan none =
    ap (λ (l : List ℕ). cut_length g l plan) none
    ∙ sum_zero g.units (λ v. sum_below v (λ u. cond (adjacent g u v && not (slice_index plan u == slice_index plan v)) 0 0))
    (λ v. sum_zero v (λ u. cond (adjacent g u v && not (slice_index plan u == slice_index plan v)) 0 0)
    (λ u. nothing (adjacent g u v && not (slice_index plan u == slice_index plan v))))
