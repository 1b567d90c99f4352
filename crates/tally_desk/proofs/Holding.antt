-- The contents of a run's saves.
use Rattle.std.proofs.Common.{◌≡◌, ◌⊎◌, inl, inr, ℕ, ◌+◌, ◌<◌, ◌≤◌, List, [], ◌∷◌, ◌++◌, map, length, length-append, sym, ap, ◌∙◌, subst, append_assoc, All, Contains, IsPermutation, arith}
use Rattle.std.proofs.lemmas.List.{append-nil, length-map, map-append}
use Rattle.std.proofs.lemmas.List.Elements.{All-append, Contains-append_left, Contains-get_or}
use Rattle.std.proofs.lemmas.List.Sorted.{All-permutation, Contains-permutation, length_permutation}
use Rattle.audit_model.specs.declared.outcome.Outcome.{Outcome}
use Rattle.audit_model.specs.Run.{fits, has_id, total, by_id}
use Rattle.audit_model.specs.Times.{times}
use Rattle.audit_model.proofs.Times.{one, one_same, times-append, times-cons, all_mapped}
use Rattle.audit_statement.specs.Checkpoint.{IsCheckpoint, job_digest}
use Rattle.outcome_book.specs.Booked.{AreApart}
use Rattle.outcome_book.proofs.ById.{by_id-permutation}
use Rattle.outcome_book.proofs.Indexed.{apart_more}
use Rattle.tally_desk.specs.declared.entry.Entry.{Entry}
use Rattle.tally_desk.specs.Entries.{posted_id, ids_of}
use Rattle.tally_desk.specs.Homes.{booked}
use Rattle.claim_counter.specs.Walks.{found}
use Rattle.tally_desk.specs.Parts.{IsPlan, Parts}
use Rattle.tally_desk.proofs.Booking.{absent_of_book, booked-push, booked_fit, by_id_fit}
use Rattle.claim_counter.proofs.Sharing.{found_id}
use Rattle.tally_desk.proofs.Righting.{saved_outcomes_are_right}
use Rattle.tally_desk.proofs.Todo.{todo_once, todo_within}
use Rattle.tally_desk.specs.Holding.{ContainsInitialAndPart, RunAttemptsAreRight, SavesHoldParts}

module _ (parts : Parts) (plan : IsPlan parts) where
  abbrev OfTodo : List Entry → Type 0
  OfTodo posted = (id : ℕ) → times id (ids_of posted) ≤ times id parts.todo

  -- the ids of posts, split around one post
  parted : (earlier posted : List Entry) (e : Entry) (id : ℕ) → times id (ids_of (earlier ++ e ∷ posted)) ≡ times id (ids_of earlier) + (one id e.id + times id (ids_of posted))
  parted earlier posted e id =
      let all = ap (times id) (map-append posted_id earlier (e ∷ posted)) ∙ times-append id (ids_of earlier) (ids_of (e ∷ posted)) in
      let first = times-cons id e.id (ids_of posted) in
      omega (arith, all, first)

  apart_from : (posted earlier : List Entry) → OfTodo (earlier ++ posted) → AreApart (booked parts earlier) → AreApart (booked parts (earlier ++ posted))
  apart_from [] earlier of_todo apart = subst (λ (l : List Entry). AreApart (booked parts l)) (sym (append-nil earlier)) apart
  apart_from (e ∷ posted) earlier of_todo apart =
      let here = parted earlier posted e e.id in
      let self = one_same e.id in
      let most = todo_once parts plan e.id in
      let enough = of_todo e.id in
      let to_do : 0 < times e.id parts.todo = omega (arith, here, self, enough) in
      let unposted : times e.id (ids_of earlier) ≡ 0 = omega (arith, here, self, most, enough) in
      let absent = ap (λ (i : ℕ). has_id (booked parts earlier) i) (found_id parts.job e.id) ∙ absent_of_book parts plan earlier e.id to_do unposted in
      subst (λ (l : List Entry). AreApart (booked parts l)) (append_assoc earlier (e ∷ []) posted)
      (apart_from posted (earlier ++ e ∷ []) (subst OfTodo (sym (append_assoc earlier (e ∷ []) posted)) of_todo)
      (subst AreApart (sym (booked-push parts earlier e)) (apart_more (booked parts earlier) (found parts.job e.id) apart absent)))

  module _ (part : List Entry) (of_todo : OfTodo part) where
    abbrev all : List Outcome
    all = booked parts part

    abbrev saved : List Outcome
    saved = by_id (total parts.job) all

    some_to_do : (id : ℕ) → 0 < times id (ids_of part) → 0 < times id parts.todo
    some_to_do id some_here = omega (arith, some_here, of_todo id)

    below : All (λ o. o.id < total parts.job) all
    below = All-append (λ (o : Outcome). o.id < total parts.job) parts.initial_outcomes (map (found parts.job) (ids_of part)) plan.book.below
        (all_mapped (λ (o : Outcome). o.id < total parts.job) (found parts.job) (ids_of part)
        (λ id some_here. subst (λ (i : ℕ). i < total parts.job) (sym (found_id parts.job id)) (todo_within parts plan id (some_to_do id some_here))))

    apart : AreApart all
    apart = apart_from part [] of_todo (subst AreApart (sym (append-nil parts.initial_outcomes)) plan.book.apart)

    pub moved_all : IsPermutation all saved
    moved_all = by_id-permutation (total parts.job) all apart below

    abbrev IsOf : Outcome → Type 0
    IsOf o = Contains parts.initial_outcomes o ⊎ ((0 < times o.id parts.todo) × (o ≡ found parts.job o.id))

    each_of : All IsOf all
    each_of = All-append IsOf parts.initial_outcomes (map (found parts.job) (ids_of part)) (λ k d inside. inl (Contains-get_or parts.initial_outcomes k d inside))
        (all_mapped IsOf (found parts.job) (ids_of part) (λ id some_here. inr (
          subst (λ (i : ℕ). 0 < times i parts.todo) (sym (found_id parts.job id)) (some_to_do id some_here),
          ap (found parts.job) (sym (found_id parts.job id)),
        )))

    pub holds_part : ContainsInitialAndPart parts (length part) saved
    holds_part = record {
      each = All-permutation IsOf all saved moved_all each_of;
      initial_kept = λ k d inside. Contains-permutation all saved _ moved_all (Contains-append_left parts.initial_outcomes (map (found parts.job) (ids_of part)) _ (Contains-get_or parts.initial_outcomes k d inside));
      counted =
          let same : length saved ≡ length all = length_permutation all saved moved_all in
          omega (arith, same, length-append parts.initial_outcomes (map (found parts.job) (ids_of part)), length-map (ids_of part) (found parts.job), length-map part posted_id);
    }

-- the law on the contents of a save
pub saves_hold_parts : SavesHoldParts
saves_hold_parts parts part plan of_todo = holds_part parts plan part of_todo

-- the law on saves from correct initial outcomes
pub run_attempts_are_right : RunAttemptsAreRight
run_attempts_are_right parts t plan initial_outcomes is = record {
  version = 2;
  generation = is.generation;
  outcomes = by_id (total parts.job) (booked parts is.part);
  sound = subst (λ (bytes : List ℕ). IsCheckpoint bytes 2 (job_digest parts.job) is.generation (by_id (total parts.job) (booked parts is.part))) (sym is.bytes_are) is.sound;
  fit = by_id_fit (fits parts.job) (total parts.job) (booked parts is.part) (booked_fit parts plan is.part is.of_todo);
  right = saved_outcomes_are_right parts is.part plan is.of_todo initial_outcomes;
}
