-- The parts of a job.
use Rattle.std.proofs.Common.{◌≡◌, ℕ, ◌<◌, Bool, true, false, ◌&&◌, not, List, take, ap, ◌∙◌}
use Rattle.std.specs.Prelude.{◌==◌, ◌%◌}
use Rattle.std.proofs.lemmas.Bool.{and_from, and_parts, eq-eqb, eqb-true, not-true}
use Rattle.std.proofs.lemmas.List.{take_all}
use Rattle.std.proofs.Math.Nat.{mod-one}
use Rattle.audit_model.specs.declared.outcome.Outcome.{Outcome}
use Rattle.audit_model.specs.Apart.{AllApart}
use Rattle.audit_model.specs.Below.{filter_below}
use Rattle.audit_model.specs.Graph.{has}
use Rattle.audit_model.specs.Job.{Job}
use Rattle.audit_model.specs.Run.{has_id, is_in_part, pending_ids, part_ids, total}
use Rattle.audit_model.proofs.Bools.{and_true, same_bool}
use Rattle.audit_model.proofs.Below.{filter_below_same, length-filter_below}
use Rattle.audit_model.proofs.Connected.{filter_below-has, has-filter_below}
use Rattle.audit_model.proofs.ListFacts.{has-take}
use Rattle.audit_model.proofs.Running.{apart-filter_below, apart-take}

-- with enough budget, all ids that pass are taken
enough : (n : ℕ) (test : ℕ → Bool) (id : ℕ) → has (take n (filter_below n test)) id ≡ has (filter_below n test) id
enough n test id = ap (λ xs. has xs id) (take_all n (filter_below n test) (length-filter_below n test))

module _ (parts part : ℕ) (job : Job) (initial_outcomes : List Outcome) where
  is_pending : ℕ → Bool
  is_pending id = not (has_id initial_outcomes id)

  lies : ℕ → Bool
  lies id = is_pending id && (id % parts == part)

  pub each_in_its_part : (id : ℕ) → has (part_ids parts part job initial_outcomes (total job)) id ≡ (has (pending_ids job initial_outcomes) id && is_in_part parts part id)
  unfolding lies is_pending
  each_in_its_part id =
      enough (total job) lies id
      ∙ same_bool (has (filter_below (total job) lies) id) (has (filter_below (total job) is_pending) id && (id % parts == part))
      (λ h.
      let found = has-filter_below (total job) lies id h in
      let both = and_parts (is_pending id) (id % parts == part) found.1 in
      and_from (has (filter_below (total job) is_pending) id) (id % parts == part) (filter_below-has (total job) is_pending id found.0 both.0) both.1)
      (λ h.
      let both = and_parts (has (filter_below (total job) is_pending) id) (id % parts == part) h in
      let found = has-filter_below (total job) is_pending id both.0 in
      filter_below-has (total job) lies id found.0 (and_from (is_pending id) (id % parts == part) found.1 both.1))

  pub within_its_part : (budget id : ℕ) → has (part_ids parts part job initial_outcomes budget) id ≡ true
      → (id < total job) × ((has_id initial_outcomes id ≡ false) × (id % parts ≡ part))
  unfolding lies is_pending
  within_its_part budget id h =
      let found = has-filter_below (total job) lies id (has-take budget (filter_below (total job) lies) id h) in
      let both = and_parts (is_pending id) (id % parts == part) found.1 in
      (found.0, (not-true (has_id initial_outcomes id) both.0, eqb-true (id % parts) part both.1))

  pub once_in_its_part : (budget : ℕ) → AllApart (part_ids parts part job initial_outcomes budget)
  unfolding lies is_pending
  once_in_its_part budget = apart-take budget (filter_below (total job) lies) (apart-filter_below (total job) lies)

-- the single part of an undivided run has all missing ids
pub only_part : (job : Job) (initial_outcomes : List Outcome) (budget : ℕ) → part_ids 1 0 job initial_outcomes budget ≡ take budget (pending_ids job initial_outcomes)
only_part job initial_outcomes budget =
    ap (take budget) (filter_below_same (total job) (λ id. not (has_id initial_outcomes id) && (id % 1 == 0)) (λ id. not (has_id initial_outcomes id))
    (λ k l. and_true (not (has_id initial_outcomes k)) (k % 1 == 0) (eq-eqb (k % 1) 0 (mod-one k))))
