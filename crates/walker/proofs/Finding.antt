-- The results of a walk are the outcome of its id.
use Rattle.std.proofs.Common.{◌≡◌, ℕ, ◌+◌, ◌-◌, ◌*◌, List, [], ◌∷◌, get_or, map, Bool, true, false, pos, ℤ, refl, sym, ap, ◌∙◌}
use Rattle.audit_model.specs.declared.outcome.Outcome.{Outcome}
use Rattle.audit_model.specs.declared.setting.Ask.{Ask}
use Rattle.audit_model.specs.Job.{Job}
use Rattle.audit_model.specs.Trajectory.{Draws, visit, hub, plan_value, moves, visits_in_tail, four_values, empty_histogram, histogram_by, walk_outcome, end_outcome}
use Rattle.audit_model.specs.Serially.{run_outcome}
use Rattle.flip_kernel.specs.ChainState.{ChainState}
use Rattle.walker.specs.Asked.{each, asked_value, is_inside, visits_inside}
use Rattle.walker.specs.Binned.{histogram_of_visits, plan_bin, visits_binned}
use Rattle.walker.proofs.Asking.{each_is_four}

-- the values of a plan, in the four places
pub values_are_four : (job : Job) (plan : List ℕ) (asks : List Ask)
    → four_values (map (λ ask. plan_value job plan ask.score) asks) ≡ each (asked_value job plan) asks
unfolding asked_value
values_are_four job plan asks = each_is_four (asked_value job plan) asks refl

-- the tail counts of a walk, in the four places
counts_are_four : (job : Job) (draws : ℕ → ℕ) (steps : ℕ) (asks : List Ask)
    → four_values (map (λ ask. pos (visits_in_tail job draws steps ask)) asks) ≡ each (λ o. pos (visits_inside job draws (steps + 1) o)) asks
unfolding visits_inside is_inside
counts_are_four job draws steps asks = each_is_four (λ o. pos (visits_inside job draws (steps + 1) o)) asks refl

-- an outcome with these fields and no histogram
abbrev found : ℕ → ℕ → List ℤ → Outcome
found id moved values = record { id = id; moved = moved; values = values; bins = empty_histogram }

-- counts as signed numbers
abbrev four_signed : List ℕ → List ℤ
four_signed counts = pos (get_or counts 0 0) ∷ pos (get_or counts 1 0) ∷ pos (get_or counts 2 0) ∷ pos (get_or counts 3 0) ∷ []

-- an outcome with another histogram
abbrev with_histogram : Outcome → List ℕ → Outcome
with_histogram o bins = record o { bins = bins }

-- the counts of a walk along a stream are its outcome
pub run_found : (job : Job) (draws : Draws) (stream steps moved : ℕ) (counts bins its : List ℕ) (values : List ℤ)
    → moved ≡ moves job (draws stream) job.start steps
    → counts ≡ each (visits_inside job (draws stream) (steps + 1)) job.setting.asks → values ≡ four_signed counts → bins ≡ its
    → with_histogram (found 0 moved values) bins ≡ with_histogram (run_outcome job draws stream steps) its
run_found job draws stream steps moved counts bins its values m c v b =
    ap (λ (n : ℕ). with_histogram (found 0 n values) bins) m
    ∙ ap (λ (xs : List ℤ). with_histogram (found 0 (moves job (draws stream) job.start steps) xs) bins)
    (v ∙ ap four_signed c ∙ sym (counts_are_four job (draws stream) steps job.setting.asks))
    ∙ ap (λ (xs : List ℕ). with_histogram (run_outcome job draws stream steps) xs) b

-- the outcome of a walk from the start plan, with a histogram if `Bool` is true
abbrev run_with : Bool → Job → Draws → ℕ → ℕ → Outcome
run_with shift job draws stream steps = with_histogram (run_outcome job draws stream steps) (histogram_of_visits shift job (draws stream) (steps + 1))

-- the histogram of the visited plans is that of the definition
histogram_is_that : (shift : Bool) (job : Job) (draws : ℕ → ℕ) → histogram_of_visits shift job draws (job.setting.steps + 1) ≡ histogram_by shift job draws
unfolding visits_binned plan_bin
histogram_is_that true job draws = refl
histogram_is_that false job draws = refl

abbrev under : ℕ → Outcome → Outcome
under id o = record o { id = id }

-- the result of such a walk, under the id of its stream
pub walk_found : (job : Job) (draws : Draws) (id stream steps : ℕ) (shift : Bool) (walk : Outcome) → stream ≡ 2 * id → steps ≡ job.setting.steps
    → shift ≡ job.setting.shift → walk ≡ run_with shift job draws stream steps → under id walk ≡ walk_outcome job.setting.shift job draws id
walk_found job draws id stream steps shift walk s t b w =
    ap (under id) (w ∙ ap (λ (n : ℕ). run_with shift job draws stream n) t ∙ ap (λ (n : ℕ). run_with shift job draws n job.setting.steps) s
    ∙ ap (λ (c : Bool). run_with c job draws (2 * id) job.setting.steps) b)
    ∙ ap (λ (xs : List ℕ). under id (with_histogram (run_outcome job draws (2 * id) job.setting.steps) xs)) (histogram_is_that job.setting.shift job (draws (2 * id)))

-- the result of a walk from the hub is the outcome of its id
pub end_found : (job : Job) (draws : Draws) (id stream moved : ℕ) (from : List ℕ) (state : ChainState) (asks : List Ask) (values : List ℤ)
    → stream ≡ 2 * (id - job.setting.walks) + 3 → from ≡ hub job draws
    → moved ≡ moves job (draws stream) from job.setting.hub_steps → state.job ≡ job
    → state.plan ≡ visit job (draws stream) from job.setting.hub_steps → asks ≡ job.setting.asks
    → values ≡ each (asked_value state.job state.plan) asks
    → found id moved values ≡ end_outcome job draws id
end_found job draws id stream moved from state asks values s h m made p a v =
    let steps = job.setting.hub_steps in
    let own = 2 * (id - job.setting.walks) + 3 in
    ap (λ (n : ℕ). found id n values)
    (m ∙ ap (λ (t : ℕ). moves job (draws t) from steps) s ∙ ap (λ (q : List ℕ). moves job (draws own) q steps) h)
    ∙ ap (λ (xs : List ℤ). found id (moves job (draws own) (hub job draws) steps) xs)
    (v ∙ ap (λ (j : Job). each (asked_value j state.plan) asks) made ∙ ap (λ (q : List ℕ). each (asked_value job q) asks) p
    ∙ ap (λ (t : ℕ). each (asked_value job (visit job (draws t) from steps)) asks) s
    ∙ ap (λ (q : List ℕ). each (asked_value job (visit job (draws own) q steps)) asks) h
    ∙ ap (λ (xs : List Ask). each (asked_value job (visit job (draws own) (hub job draws) steps)) xs) a
    ∙ sym (values_are_four job (visit job (draws own) (hub job draws) steps) job.setting.asks))
