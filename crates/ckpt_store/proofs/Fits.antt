-- Outcomes that are not all plausible, and values that are all within bounds.
use Rattle.std.proofs.Common.{◌≡◌, ℕ, zero, suc, ◌+◌, ◌<◌, ◌≤◌, Bool, true, false, not, ◌&&◌, ◌||◌, List, length, get_or, take, None, refl, sym, ap, ◌∙◌, subst, arith, add-one}
use Rattle.std.specs.Prelude.{IsTrue, ℤ, pos, int_le}
use Rattle.std.specs.List.{All, list_all}
use Rattle.std.proofs.lemmas.Bool.{not-false}
use Rattle.std.proofs.lemmas.List.Folds.{list_all_more}
use Rattle.std.proofs.lemmas.Option.{slice_get-get_or}
use Rattle.audit_model.specs.declared.outcome.Outcome.{Outcome}
use Rattle.audit_model.specs.Below.{all_below}
use Rattle.audit_model.specs.First.{first_below}
use Rattle.audit_model.specs.Job.{Job}
use Rattle.audit_model.specs.Run.{fits}
use Rattle.audit_model.specs.Trajectory.{value_at}
use Rattle.audit_model.proofs.First.{first_below_none}
use Rattle.ckpt_store.specs.Fitting.{is_unfit, is_unfit_one}

-- the first n members pass exactly if those at the first n places do
pub all_taken : {A : Type 0} (p : A → Bool) (xs : List A) (d : A) (n : ℕ) → n ≤ length xs → list_all p (take n xs) ≡ all_below n (λ k. p (get_or xs k d))
all_taken p xs d zero l = refl
all_taken p xs d (suc n) l =
    ap (λ m. list_all p (take m xs)) (sym (add-one n))
    ∙ list_all_more p xs n d (omega arith)
    ∙ ap (λ b. b && p (get_or xs n d)) (all_taken p xs d n (omega arith))

-- the outcome at a place is marked exactly if it is not plausible
pub is_unfit_at : (job : Job) (outcomes : List Outcome) (k : ℕ) (d : Outcome) → k < length outcomes → is_unfit job outcomes k ≡ not (fits job (get_or outcomes k d))
is_unfit_at job outcomes k d l = ap (is_unfit_one job) (slice_get-get_or outcomes k d l)

-- if no outcome is marked, all are plausible
pub all_fit : (job : Job) (outcomes : List Outcome) → first_below (length outcomes) (is_unfit job outcomes) ≡ None → All (λ o. IsTrue (fits job o)) outcomes
all_fit job outcomes none k d l =
    not-false (fits job (get_or outcomes k d)) (sym (is_unfit_at job outcomes k d l) ∙ first_below_none (length outcomes) (is_unfit job outcomes) k none l)

-- an outcome that is not plausible is marked
pub unfit_here : (job : Job) (outcomes : List Outcome) (k : ℕ) (d : Outcome) (fit : Bool) → k < length outcomes → fit ≡ fits job (get_or outcomes k d) → fit ≡ false → is_unfit job outcomes k ≡ true
unfit_here job outcomes k d fit l is fails = is_unfit_at job outcomes k d l ∙ ap not (sym is ∙ fails)

-- a plausible outcome is not marked
pub fit_here : (job : Job) (outcomes : List Outcome) (k : ℕ) (d : Outcome) (fit : Bool) → k < length outcomes → fit ≡ fits job (get_or outcomes k d) → fit ≡ true → is_unfit job outcomes k ≡ false
fit_here job outcomes k d fit l is passes = is_unfit_at job outcomes k d l ∙ ap not (sym is ∙ passes)

-- if no place is marked, all outcomes are plausible
pub all_fit_of : (job : Job) (xs ys : List Outcome) → ys ≡ xs → None ≡ first_below (length ys) (is_unfit job ys) → All (λ o. IsTrue (fits job o)) xs
all_fit_of job xs ys e none = all_fit job xs (subst (λ (os : List Outcome). first_below (length os) (is_unfit job os) ≡ None) e (sym none))

-- the numbers of visits of a walk
pub visits_of_walk : (job : Job) (o : Outcome) (is_walk r : Bool) (asks steps : ℕ) (xs : List ℤ)
    → is_walk ≡ true → asks ≡ length job.setting.asks → asks ≤ length o.values → steps ≡ job.setting.steps
    → r ≡ list_all (λ v. int_le (pos 1) v && int_le v (pos (steps + 1))) xs → xs ≡ take asks o.values
    → r ≡ (not is_walk || all_below (length job.setting.asks) (λ k. int_le (pos 1) (value_at o k) && int_le (value_at o k) (pos (job.setting.steps + 1))))
visits_of_walk job o is_walk r asks steps xs walks many l same is part =
    let within = λ (n : ℕ) (v : ℤ). int_le (pos 1) v && int_le v (pos (n + 1)) in
    is
    ∙ ap (list_all (within steps)) part
    ∙ ap (λ n. list_all (within n) (take asks o.values)) same
    ∙ all_taken (within job.setting.steps) o.values (pos 0) asks l
    ∙ ap (λ n. all_below n (λ k. within job.setting.steps (value_at o k))) many
    ∙ ap (λ b. not b || all_below (length job.setting.asks) (λ k. within job.setting.steps (value_at o k))) (sym walks)
