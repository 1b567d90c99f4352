-- The plan that frozen units keep.
use Rattle.std.proofs.Common.{◌≡◌, ℕ, ◌≤◌, List, [], ◌∷◌, length, refl, ap, inl, inr, arith}
use Rattle.audit_model.specs.Job.{Job, home_of}
use Rattle.audit_model.specs.Limits.{AreFrozen, IsWithinLimits}

-- where no unit may be frozen, none is kept
pub home_of_none : (frozen start : List ℕ) → frozen ≡ [] → home_of frozen start ≡ frozen
home_of_none [] start none = refl
home_of_none (f ∷ frozen) start none = absurd (omega (arith, ap (λ (xs : List ℕ). length xs) none))

-- where some may be, the start plan is
pub home_of_some : (frozen start : List ℕ) → (length frozen ≡ 0 → ⊥) → home_of frozen start ≡ start
home_of_some [] start some = absurd (some refl)
home_of_some (f ∷ frozen) start some = refl

-- there is no more than one flag for each unit
pub frozen_few : (units : ℕ) (frozen : List ℕ) → AreFrozen units frozen → length frozen ≤ units
frozen_few units frozen (inl none) = omega (arith, ap (λ (xs : List ℕ). length xs) none)
frozen_few units frozen (inr all) = omega (arith, all)

-- the plan that is kept has an entry for each flag
home_is_long : (units : ℕ) (frozen start : List ℕ) → AreFrozen units frozen → length start ≡ units → length frozen ≤ length (home_of frozen start)
home_is_long units [] start are long = omega arith
home_is_long units (f ∷ frozen) start are long = let few = frozen_few units (f ∷ frozen) are in omega (arith, few, long)

pub frozen_home : (job : Job) → IsWithinLimits job → length job.frozen ≤ length (home_of job.frozen job.start)
frozen_home job within = home_is_long job.graph.units job.frozen job.start within.frozen within.input.complete
