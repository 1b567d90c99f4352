-- Outcomes with and without histograms, and the outcomes from which a run resumes.
use Rattle.std.proofs.Common.{◌≡◌, ℕ, zero, suc, ◌<◌, Bool, true, false, not, ◌&&◌, List, [], ◌∷◌, map, get_or, refl, sym, ap, ◌∙◌, inl, inr, arith}
use Rattle.std.specs.Prelude.{◌⊎◌, nat_lt}
use Rattle.std.specs.List.{AllPairs}
use Rattle.std.proofs.lemmas.Bool.{and_from, and_parts, both_ways, false_from_ne_true, not-true}
use Rattle.std.proofs.lemmas.List.Elements.{All-filter, All-map, filter_passes}
use Rattle.std.proofs.lemmas.List.Kept.{AllPairs-cons, AllPairs-filter}
use Rattle.audit_model.specs.declared.outcome.Outcome.{Outcome}
use Rattle.audit_model.specs.Job.{Job}
use Rattle.audit_model.specs.Run.{IsConsistent, IsRight, histogram_fits, fits, has_no_histogram, taken_up, total}
use Rattle.audit_model.specs.Trajectory.{Draws, without_histogram, outcome, outcome_by, outcome_with, whole}

-- without its histogram, an outcome is the one found if none is asked for
pub without_histogram_by : (walks bins : Bool) (job : Job) (draws : Draws) (id : ℕ)
    → without_histogram (outcome_by walks bins job draws id) ≡ outcome_by walks false job draws id
without_histogram_by true bins job draws id = refl
without_histogram_by false bins job draws id = refl

-- the outcome without its histogram is the one found if none is asked for
pub whole_without_histogram : (job : Job) (draws : Draws) (id : ℕ) → without_histogram (whole job draws id) ≡ outcome_with false job draws id
whole_without_histogram job draws id = without_histogram_by (nat_lt id job.setting.walks) true job draws id

-- endpoint trajectories have no histogram
end_without_histogram : (walks : Bool) (job : Job) (draws : Draws) (id : ℕ) → walks ≡ false
    → without_histogram (outcome_by walks true job draws id) ≡ outcome_by walks true job draws id
end_without_histogram true job draws id h = absurd (both_ways true h refl)
end_without_histogram false job draws id h = refl

-- pairs related through a function are related in the mapped list
AllPairs-map : {A B : Type 0} (R : B → B → Type 0) (f : A → B) (xs : List A) → AllPairs (λ x y. R (f x) (f y)) xs → AllPairs R (map f xs)
AllPairs-map R f [] h = λ i j d l m. absurd (omega arith)
AllPairs-map R f (x ∷ xs) h = AllPairs-cons R (f x) (map f xs)
    (All-map (R (f x)) f xs (λ k d l. h zero (suc k) d (omega arith) (omega arith)))
    (AllPairs-map R f xs (λ i j d l m. h (suc i) (suc j) d (omega arith) (omega arith)))

module _ (job : Job) (draws : Draws) (outcomes : List Outcome) (consistent : IsConsistent job draws outcomes) where
  IsFound : Outcome → Type 0
  IsFound o = (o ≡ whole job draws o.id) ⊎ (o ≡ without_histogram (whole job draws o.id))

  -- an outcome with its histogram, or of an endpoint trajectory, is whole
  kept_whole : (o : Outcome) → IsFound o → not (nat_lt o.id job.setting.walks && has_no_histogram o) ≡ true → o ≡ whole job draws o.id
  unfolding IsFound
  kept_whole o (inl e) kept = e
  kept_whole o (inr e) kept =
      let empty_histogram : has_no_histogram o ≡ true = ap has_no_histogram e in
      let no_walk : nat_lt o.id job.setting.walks ≡ false = false_from_ne_true (nat_lt o.id job.setting.walks) (λ h.
      both_ways (nat_lt o.id job.setting.walks && has_no_histogram o) (not-true (nat_lt o.id job.setting.walks && has_no_histogram o) kept)
      (and_from (nat_lt o.id job.setting.walks) (has_no_histogram o) h empty_histogram)) in
      e ∙ end_without_histogram (nat_lt o.id job.setting.walks) job draws o.id no_walk

  found_without_histogram : (o : Outcome) → IsFound o → without_histogram o ≡ outcome_with false job draws o.id
  unfolding IsFound
  found_without_histogram o (inl e) = ap without_histogram e ∙ whole_without_histogram job draws o.id
  found_without_histogram o (inr e) = ap without_histogram e ∙ whole_without_histogram job draws o.id

  test : Outcome → Bool
  test o = not (nat_lt o.id job.setting.walks && has_no_histogram o)

  -- with a histogram asked for, the outcome found has it or needs none
  asked_whole : job.setting.shift ≡ true → (o : Outcome) → IsFound o → not (nat_lt o.id job.setting.walks && has_no_histogram o) ≡ true
      → o ≡ outcome job draws o.id
  asked_whole asked o found kept = kept_whole o found kept ∙ ap (λ b. outcome_with b job draws o.id) (sym asked)

  asked_without_histogram : job.setting.shift ≡ false → (o : Outcome) → IsFound o → without_histogram o ≡ outcome job draws o.id
  asked_without_histogram asked o found = found_without_histogram o found ∙ ap (λ b. outcome_with b job draws o.id) (sym asked)

  right_by : (shift : Bool) → job.setting.shift ≡ shift → IsRight job draws (taken_up shift job.setting.walks outcomes)
  unfolding IsFound test
  right_by true asked = record {
    apart = AllPairs-filter (λ a b. a.id ≡ b.id → ⊥) test outcomes consistent.apart;
    below = All-filter test (λ o. o.id < total job) outcomes consistent.below;
    found = λ k d l. asked_whole asked _ (All-filter test IsFound outcomes consistent.found k d l) (filter_passes test outcomes k d l);
  }
  right_by false asked = record {
    apart = AllPairs-map (λ a b. a.id ≡ b.id → ⊥) without_histogram outcomes consistent.apart;
    below = All-map (λ o. o.id < total job) without_histogram outcomes consistent.below;
    found = All-map (λ o. o ≡ outcome job draws o.id) without_histogram outcomes (λ k d l. asked_without_histogram asked (get_or outcomes k d) (consistent.found k d l));
  }

  -- the outcomes from which a run resumes are what its trajectories find
  pub consistent_are_right : IsRight job draws (taken_up job.setting.shift job.setting.walks outcomes)
  consistent_are_right = right_by job.setting.shift refl

-- ---- a plausible outcome is plausible without its histogram

-- an empty histogram is plausible
empty_histogram_fits : (walks : Bool) (job : Job) (o : Outcome) → histogram_fits walks job (without_histogram o) ≡ true
empty_histogram_fits true job o = refl
empty_histogram_fits false job o = refl

-- a plausible outcome is plausible without its histogram
pub fits_without_histogram : (job : Job) (o : Outcome) → fits job o ≡ true → fits job (without_histogram o) ≡ true
fits_without_histogram job o h = and_from _ (histogram_fits (nat_lt o.id job.setting.walks) job (without_histogram o)) (and_parts _ (histogram_fits (nat_lt o.id job.setting.walks) job o) h).0
    (empty_histogram_fits (nat_lt o.id job.setting.walks) job o)
