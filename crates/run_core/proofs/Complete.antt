-- The outcomes of a finished run.
use Rattle.std.proofs.Common.{◌≡◌, ℕ, zero, suc, Bool, true, false, ◌||◌, List, [], ◌∷◌, ◌++◌, map, All, refl, sym, ap, ◌∙◌}
use Rattle.std.specs.Prelude.{◌==◌, nat_lt}
use Rattle.std.proofs.lemmas.List.{map-append}
use Rattle.std.proofs.lemmas.List.Elements.{All-nil, All-cons}
use Rattle.audit_model.specs.declared.outcome.Outcome.{Outcome}
use Rattle.audit_model.specs.Below.{filter_below, map_below}
use Rattle.audit_model.specs.Graph.{has}
use Rattle.audit_model.specs.Job.{Job}
use Rattle.audit_model.specs.Run.{total, has_id}
use Rattle.audit_model.specs.Trajectory.{Draws, outcome, outcome_by, sequence}

module _ (job : Job) (draws : Draws) where
  id_of_outcome : (id : ℕ) → (outcome job draws id).id ≡ id
  id_of_outcome id = by (nat_lt id job.setting.walks)
    where
      by : (b : Bool) → (outcome_by b job.setting.shift job draws id).id ≡ id
      by true = refl
      by false = refl

  pub outcomes_are : (ids : List ℕ) → All (λ o. o ≡ outcome job draws o.id) (map (outcome job draws) ids)
  outcomes_are [] = All-nil (λ (o : Outcome). o ≡ outcome job draws o.id)
  outcomes_are (id ∷ ids) =
      All-cons (λ (o : Outcome). o ≡ outcome job draws o.id) (outcome job draws id) (map (outcome job draws) ids)
      (ap (outcome job draws) (sym (id_of_outcome id))) (outcomes_are ids)

  pub has_id-outcomes : (ids : List ℕ) (id : ℕ) → has_id (map (outcome job draws) ids) id ≡ has ids id
  has_id-outcomes [] id = refl
  has_id-outcomes (x ∷ ids) id =
      ap (λ k. (k == id) || has_id (map (outcome job draws) ids) id) (id_of_outcome x) ∙ ap (λ b. (x == id) || b) (has_id-outcomes ids id)

-- the values of all ids below a bound, in order
map-all_below : (n : ℕ) (f : ℕ → Outcome) → map f (filter_below n (λ _. true)) ≡ map_below n f
map-all_below zero f = refl
map-all_below (suc n) f = map-append f (filter_below n (λ _. true)) (n ∷ []) ∙ ap (λ xs. xs ++ f n ∷ []) (map-all_below n f)

-- the outcomes of all ids of a job are those of one thread
pub mapped_is_sequence : (job : Job) (draws : Draws) → map (outcome job draws) (filter_below (total job) (λ _. true)) ≡ sequence job draws
unfolding sequence
mapped_is_sequence job draws = map-all_below (total job) (outcome job draws)
