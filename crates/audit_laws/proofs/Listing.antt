-- The numbers below a bound that pass a test, and the first of them.
use Rattle.std.proofs.Common.{◌≡◌, sym, subst, ℕ, ◌<◌, true, List, length, take, get_or, All, AllPairs, arith}
use Rattle.std.proofs.lemmas.Bool.{not-true}
use Rattle.std.proofs.lemmas.List.{get_or-take, length-take}
use Rattle.audit_model.specs.declared.outcome.Outcome.{Outcome}
use Rattle.audit_model.specs.Below.{filter_below}
use Rattle.audit_model.specs.Job.{Job}
use Rattle.audit_model.specs.Run.{total, has_id, run_ids}
use Rattle.audit_model.proofs.Filtered.{each_passes, each_rises}
use Rattle.claim_counter.specs.Walks.{IsTodo}
use Rattle.audit_laws.proofs.Counting.{lies, lies_misses}

module _ {A : Type 0} (n : ℕ) (xs : List A) where
  inside_both : (k : ℕ) → k < length (take n xs) → (k < n) × (k < length xs)
  inside_both k inside = (omega (arith, inside, length-take n xs), omega (arith, inside, length-take n xs))

  first_pass : (P : A → Type 0) → All P xs → All P (take n xs)
  first_pass P all k d inside = subst P (sym (get_or-take n xs k d (inside_both k inside).0)) (all k d (inside_both k inside).1)

  first_pair : (R : A → A → Type 0) → AllPairs R xs → AllPairs R (take n xs)
  first_pair R all i j d before inside =
      let within = inside_both j inside in
      let bound = within.0 in
      subst (R (get_or (take n xs) i d)) (sym (get_or-take n xs j d bound))
      (subst (λ x. R x (get_or xs j d)) (sym (get_or-take n xs i d (omega arith))) (all i j d before within.1))

-- the ids of a run meet the requirements on ids to walk
pub run_ids_fit : (job : Job) (kept : List Outcome) (budget : ℕ) → IsTodo job kept (run_ids job kept budget)
run_ids_fit job kept budget = record {
  apart = λ i j d before inside same.
      let less = first_pair budget (filter_below (total job) (lies job kept)) (λ x y. x < y) (each_rises (total job) (lies job kept)) i j d before inside in
      absurd (omega (arith, less, same));
  within = λ k d inside. (passes k d inside).0;
  absent = λ k d inside. not-true (has_id kept (get_or (run_ids job kept budget) k d)) (lies_misses job kept _ (passes k d inside).1);
}
  where
    passes : All (λ id. (id < total job) × (lies job kept id ≡ true)) (run_ids job kept budget)
    passes = first_pass budget (filter_below (total job) (lies job kept)) (λ id. (id < total job) × (lies job kept id ≡ true)) (each_passes (total job) (lies job kept))
