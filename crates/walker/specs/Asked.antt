-- Values and counts of a job's asks, in four places. Places past the asks are zeros.
use Rattle.std.specs.Prelude.{ℕ, ◌+◌, ◌*◌, Bool, cond, List, [], ◌∷◌, slice_index, Option, Some, None, ℤ, pos}
use Rattle.std.specs.List.{slice_get}
use Rattle.audit_model.specs.declared.setting.Ask.{Ask}
use Rattle.audit_model.specs.Below.{count_below}
use Rattle.audit_model.specs.Job.{Job}
use Rattle.audit_model.specs.Trajectory.{visit, plan_value, in_tail}

-- the values of a function for the asks at the four places
abbrev pub each : {A : Type 0} → (Option Ask → A) → List Ask → List A
each f asks = f (slice_get asks 0) ∷ f (slice_get asks 1) ∷ f (slice_get asks 2) ∷ f (slice_get asks 3) ∷ []

-- the numerator of the ask's score for a plan
unfoldable pub asked_value : Job → List ℕ → Option Ask → ℤ
asked_value job plan None = pos 0
asked_value job plan (Some ask) = plan_value job plan ask.score

-- a plan is in the ask's tail
unfoldable pub is_inside : Job → List ℕ → Ask → Bool
is_inside job plan ask = in_tail ask.tail (plan_value job plan ask.score) (plan_value job job.start ask.score)

-- 1 if a plan is in the ask's tail, else 0
unfoldable pub inside : Job → List ℕ → Option Ask → ℕ
inside job plan None = 0
inside job plan (Some ask) = cond (is_inside job plan ask) 1 0

-- the number of the first visited plans that are in the ask's tail
unfoldable pub visits_inside : Job → (ℕ → ℕ) → ℕ → Option Ask → ℕ
visits_inside job draws visits None = 0
visits_inside job draws visits (Some ask) = count_below visits (λ i. is_inside job (visit job draws job.start i) ask)

-- four counts, each increased by a number of plans times its 0 or 1
abbrev pub four_more : List ℕ → ℕ → List ℕ → List ℕ
four_more counts times inside =
    (slice_index counts 0 + times * slice_index inside 0) ∷ (slice_index counts 1 + times * slice_index inside 1)
    ∷ (slice_index counts 2 + times * slice_index inside 2) ∷ (slice_index counts 3 + times * slice_index inside 3) ∷ []
