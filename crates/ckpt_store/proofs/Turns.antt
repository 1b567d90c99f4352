-- A slot that was written to its place is the newest.
use Rattle.std.proofs.Common.{◌≡◌, ℕ, zero, suc, ◌+◌, ◌-◌, ◌%◌, ◌<◌, Bool, true, false, cond, List, Option, Some, None, refl, sym, ap, ap₂, ◌∙◌, subst, arith}
use Rattle.std.specs.Prelude.{◌==◌, IsTrue}
use Rattle.std.specs.List.{list_all}
use Rattle.std.proofs.lemmas.Bool.{cond-false, cond-true, eq-eqb, ne_eqb}
use Rattle.std.proofs.lemmas.Nat.{mod_below}
use Rattle.audit_model.specs.Observed.{IfObserved}
use Rattle.audit_model.specs.Pair.{HoldsBytes, Pair, Stored, other_stored, stored}
use Rattle.audit_model.specs.declared.outcome.Outcome.{Outcome}
use Rattle.audit_model.specs.Job.{Job}
use Rattle.audit_model.specs.Run.{fits}
use Rattle.audit_statement.specs.Checkpoint.{IsCheckpoint, checkpoint}
use Rattle.audit_statement.specs.Slots.{Slot, absent, broken, generation_of, newest, newest_of, other, ours, save_place, place_beside, slot_of, generation_after, newest_for}
use Rattle.ckpt_store.specs.Laws.{IsNewestForFitJobs, IsNewestWhere, SavedSlotsAreNewest, WrittenSlotsAreNewest, newest_of_both, replaced}
use Rattle.ckpt_store.proofs.Ours.{checkpoints_are_ours}

-- ---- generations in turn

-- no generation follows the one that follows it
after_next : (g : ℕ) → g ≡ ((g + 1) % 3 + 1) % 3 → ⊥
after_next zero e = absurd (omega (arith, e))
after_next (suc zero) e = absurd (omega (arith, e))
after_next (suc (suc zero)) e = absurd (omega (arith, e))
after_next (suc (suc (suc n))) e = absurd (omega (arith, e, mod_below ((suc (suc (suc n)) + 1) % 3 + 1) 3 (omega arith)))

-- if the generation in slot 0 follows the other, slot 0 is the newest
pub first_is_newest : (before : ℕ) → newest_of (Some ((before + 1) % 3)) (Some before) ≡ Some 0
first_is_newest before =
    cond-false (before == ((before + 1) % 3 + 1) % 3) (Some 1) (Some 0) (ne_eqb before (((before + 1) % 3 + 1) % 3) (after_next before))

-- if the generation in slot 1 follows the other, slot 1 is the newest
pub second_is_newest : (before : ℕ) → newest_of (Some before) (Some ((before + 1) % 3)) ≡ Some 1
second_is_newest before = cond-true ((before + 1) % 3 == (before + 1) % 3) (Some 1) (Some 0) (eq-eqb ((before + 1) % 3) ((before + 1) % 3) refl)

-- ---- the place as a function of the generations

-- the place of the next checkpoint, by the generations of both slots
abbrev pub place_of : Option ℕ → Option ℕ → ℕ × ℕ
place_of None None = (0, 0)
place_of None (Some h) = (0, (h + 1) % 3)
place_of (Some g) None = (1, (g + 1) % 3)
place_of (Some g) (Some h) = cond (h == (g + 1) % 3) (0, (h + 1) % 3) (1, (g + 1) % 3)

-- the place beside the newest of two valid slots
beside_newest : (first second : Slot) (follows : Bool)
    → place_beside first second (cond follows (Some 1) (Some 0)) ≡ cond follows (0, generation_after (generation_of second)) (1, generation_after (generation_of first))
beside_newest first second true = refl
beside_newest first second false = refl

-- the place of a save depends on the generations alone
pub place_by_generations : (first second : Slot) → save_place first second ≡ place_of (generation_of first) (generation_of second)
place_by_generations absent absent = refl
place_by_generations absent (broken e) = refl
place_by_generations absent (other d h) = refl
place_by_generations absent (ours h os) = refl
place_by_generations (broken f) absent = refl
place_by_generations (broken f) (broken e) = refl
place_by_generations (broken f) (other d h) = refl
place_by_generations (broken f) (ours h os) = refl
place_by_generations (other c g) absent = refl
place_by_generations (other c g) (broken e) = refl
place_by_generations (other c g) (other d h) = beside_newest (other c g) (other d h) (h == (g + 1) % 3)
place_by_generations (other c g) (ours h os) = beside_newest (other c g) (ours h os) (h == (g + 1) % 3)
place_by_generations (ours g ps) absent = refl
place_by_generations (ours g ps) (broken e) = refl
place_by_generations (ours g ps) (other d h) = beside_newest (ours g ps) (other d h) (h == (g + 1) % 3)
place_by_generations (ours g ps) (ours h os) = beside_newest (ours g ps) (ours h os) (h == (g + 1) % 3)

-- the newest slot after a generation is put into the slot with this number
abbrev newest_with : ℕ → ℕ → Option ℕ → Option ℕ → Option ℕ
newest_with zero generation first second = newest_of (Some generation) second
newest_with (suc n) generation first second = newest_of first (Some generation)

-- the newest slot after a write depends on the generations alone
newest_by_generations : (number generation : ℕ) (first second new : Slot) → generation_of new ≡ Some generation
    → newest_of_both (replaced number new first second) ≡ newest_with number generation (generation_of first) (generation_of second)
newest_by_generations zero generation first second new is = ap (λ (o : Option ℕ). newest_of o (generation_of second)) is
newest_by_generations (suc n) generation first second new is = ap (newest_of (generation_of first)) is

-- the newest of two generations, by whether the second follows the first
newest_of_two : (g h : ℕ) (follows : Bool) → let at : ℕ × ℕ = cond follows (0, (h + 1) % 3) (1, (g + 1) % 3) in newest_with at.0 at.1 (Some g) (Some h) ≡ Some at.0
newest_of_two g h true = first_is_newest h
newest_of_two g h false = second_is_newest g

-- a slot that was written at the place is the newest
newest_at_place : (first second : Option ℕ) → newest_with (place_of first second).0 (place_of first second).1 first second ≡ Some (place_of first second).0
newest_at_place None None = refl
newest_at_place None (Some h) = first_is_newest h
newest_at_place (Some g) None = second_is_newest g
newest_at_place (Some g) (Some h) = newest_of_two g h (h == (g + 1) % 3)

-- a slot that was written at the place is the newest, with the place given by an equation
newest_at : (first second : Option ℕ) (at : ℕ × ℕ) → place_of first second ≡ at → newest_with at.0 at.1 first second ≡ Some at.0
newest_at first second at is = subst (λ (p : ℕ × ℕ). newest_with p.0 p.1 first second ≡ Some p.0) is (newest_at_place first second)

-- the law on a valid slot of the place's generation
pub written_slots_are_newest : WrittenSlotsAreNewest
written_slots_are_newest first second new number generation at is =
    newest_by_generations number generation first second new is
    ∙ newest_at (generation_of first) (generation_of second) (number, generation) (sym (place_by_generations first second) ∙ at)

-- ---- saved slots

-- the slots of a job after a save, from those before
replaced_for : (job : Job) (digest : List ℕ) (before after : Pair) (number : ℕ) → stored after (1 - number) ≡ stored before (1 - number)
    → newest_for job digest after ≡ newest_of_both (replaced number (slot_of job digest (stored after number)) (slot_of job digest before.zero_slot) (slot_of job digest before.one_slot))
replaced_for job digest before after zero same = ap (λ (s : Stored). newest (slot_of job digest after.zero_slot) (slot_of job digest s)) same
replaced_for job digest before after (suc n) same =
    let first : 1 - suc n ≡ 0 = omega arith in
    let kept : after.zero_slot ≡ before.zero_slot = subst (λ k. stored after k ≡ stored before k) first same in
    ap (λ (s : Stored). newest (slot_of job digest s) (slot_of job digest after.one_slot)) kept

-- a slot with a checkpoint of the job belongs to the job
slot_of_saved : (job : Job) (bytes : List ℕ) (version : ℕ) (digest : List ℕ) (generation : ℕ) (outcomes : List Outcome) (s : Stored)
    → IsCheckpoint bytes version digest generation outcomes → IsTrue (list_all (fits job) outcomes) → s ≡ Some bytes → slot_of job digest s ≡ ours generation outcomes
slot_of_saved job bytes version digest generation outcomes s is fit holds = ap (slot_of job digest) holds ∙ checkpoints_are_ours job bytes version digest generation outcomes is fit

-- the law on a checkpoint saved at the place
pub saved_slots_are_newest : SavedSlotsAreNewest
saved_slots_are_newest job version digest before after number generation outcomes at is fit holds same =
    let slot = slot_of_saved job (checkpoint version digest generation outcomes) version digest generation outcomes (stored after number) is fit holds in
    record {
      bytes = holds;
      slot = slot;
      newest = replaced_for job digest before after number same
          ∙ written_slots_are_newest (slot_of job digest before.zero_slot) (slot_of job digest before.one_slot) (slot_of job digest (stored after number)) number generation at (ap generation_of slot);
    }

-- the written slot is the newest beside one that is not valid or has the generation before
newest_beside : (job : Job) (digest : List ℕ) (number generation : ℕ) (after : Pair) → number < 2 → generation_of (slot_of job digest (stored after number)) ≡ Some generation
    → IsNewestWhere job digest number generation (slot_of job digest (other_stored after number)) after
newest_beside job digest zero generation after l is = record {
  alone = λ none. ap₂ newest_of is none;
  later = λ before has next. ap₂ newest_of (is ∙ ap (λ n. Some n) next) has ∙ first_is_newest before;
}
newest_beside job digest (suc n) generation after l is =
    let one : 1 ≡ suc n = omega arith in record {
      alone = λ none. ap₂ newest_of none is ∙ ap (λ n. Some n) one;
      later = λ before has next. ap₂ newest_of has (is ∙ ap (λ n. Some n) next) ∙ second_is_newest before ∙ ap (λ n. Some n) one;
    }

-- the slots after a save that did not fail, if they are known
pub newest_where_observed : (bytes : List ℕ) (version : ℕ) (digest : List ℕ) (number generation : ℕ) (outcomes : List Outcome) (observed : Option Pair) → number < 2
    → IsCheckpoint bytes version digest generation outcomes → HoldsBytes observed number bytes → IfObserved observed (IsNewestForFitJobs digest number generation outcomes)
newest_where_observed bytes version digest number generation outcomes None l is holds = tt
newest_where_observed bytes version digest number generation outcomes (Some after) l is holds =
    λ job fit. newest_beside job digest number generation after l (ap generation_of (slot_of_saved job bytes version digest generation outcomes (stored after number) is fit holds))
