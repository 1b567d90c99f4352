-- If the initial outcomes are correct, so is each checkpoint of a desk.
use Rattle.std.proofs.Common.{◌≡◌, ℕ, zero, suc, ◌<◌, List, map, Option, Some, None, refl, All, arith}
use Rattle.std.specs.Prelude.{option_to_list}
use Rattle.std.proofs.lemmas.List.Elements.{All-append}
use Rattle.audit_model.specs.declared.outcome.Outcome.{Outcome}
use Rattle.audit_model.specs.Run.{total, by_id, with_id}
use Rattle.audit_model.specs.Trajectory.{outcome}
use Rattle.audit_model.proofs.Times.{all_mapped}
use Rattle.audit_statement.specs.Draw.{draw}
use Rattle.outcome_book.proofs.ById.{found_in, by_id-rising}
use Rattle.tally_desk.specs.Entries.{ids_of}
use Rattle.tally_desk.specs.Homes.{booked}
use Rattle.claim_counter.specs.Walks.{found}
use Rattle.tally_desk.specs.Righted.{SavedOutcomesAreRight}
use Rattle.claim_counter.proofs.Sharing.{found_id}
use Rattle.tally_desk.proofs.Found.{found_right}
use Rattle.tally_desk.proofs.Todo.{todo_within}

-- a property of all outcomes holds for those by rising id
by_id_all : (P : Outcome → Type 0) (n : ℕ) (os : List Outcome) → All P os → All P (by_id n os)
by_id_all P zero os all = λ k d inside. absurd (omega arith)
by_id_all P (suc n) os all = All-append P (by_id n os) (option_to_list (with_id os n)) (by_id_all P n os all) (last (with_id os n) refl)
  where
    last : (r : Option Outcome) → with_id os n ≡ r → All P (option_to_list r)
    last None e k d inside = absurd (omega arith)
    last (Some o) e zero d inside = (found_in P os n o all e).0
    last (Some o) e (suc k) d inside = absurd (omega arith)

-- the law on saves from correct initial outcomes
pub saved_outcomes_are_right : SavedOutcomesAreRight
saved_outcomes_are_right parts posted plan of_todo right =
    let n = total parts.job in
    let os = booked parts posted in
    let key = draw parts.job.setting.key in
    let below : All (λ o. o.id < n) os = All-append (λ (o : Outcome). o.id < n) parts.initial_outcomes (map (found parts.job) (ids_of posted)) right.below
    (all_mapped (λ (o : Outcome). o.id < n) (found parts.job) (ids_of posted)
    (λ id some_here. let inside = todo_within parts plan id (omega (arith, some_here, of_todo id)) in omega (arith, inside, found_id parts.job id))) in
    let all : All (λ o. o ≡ outcome parts.job key o.id) os = All-append (λ (o : Outcome). o ≡ outcome parts.job key o.id) parts.initial_outcomes (map (found parts.job) (ids_of posted)) right.found
    (all_mapped (λ (o : Outcome). o ≡ outcome parts.job key o.id) (found parts.job) (ids_of posted) (λ id some_here. found_right parts.job id)) in
    record {
      apart = λ i j d before inside same. let less = by_id-rising n os i j d before inside in absurd (omega (arith, less, same));
      below = by_id_all (λ (o : Outcome). o.id < n) n os below;
      found = by_id_all (λ (o : Outcome). o ≡ outcome parts.job key o.id) n os all;
    }
