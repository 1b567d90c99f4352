-- The outcomes of consistent slots, and the changes that keep slots consistent.
use Rattle.std.proofs.Common.{◌≡◌, ℕ, zero, suc, ◌<◌, ◌⊎◌, Bool, true, false, List, [], get_or, Option, Some, None, refl, sym, subst, inl, inr, ◌∙◌, arith}
use Rattle.std.specs.Prelude.{option_map}
use Rattle.std.proofs.lemmas.List.Elements.{All-nil}
use Rattle.std.proofs.lemmas.Option.{none-some, same_Some}
use Rattle.audit_model.specs.Pair.{Stored}
use Rattle.audit_model.specs.declared.outcome.Outcome.{Outcome}
use Rattle.audit_model.specs.Job.{Job}
use Rattle.audit_model.specs.Run.{IsConsistent, IsRight, taken_up, total}
use Rattle.audit_model.specs.Trajectory.{Draws, without_histogram, outcome_with, whole}
use Rattle.audit_statement.specs.Slots.{IsConsistentSlot, Slot, absent, broken, newest, outcomes_of_newest, other, ours, outcomes_of_slot, slot_of, IsNotOurs}
use Rattle.ckpt_store.specs.Laws.{ConsistentSlotsOpenRight, RightIsConsistent, StopsLeaveConsistentSlots}

-- an empty list of outcomes is consistent
nothing_is_consistent : (job : Job) (draws : Draws) → IsConsistent job draws []
nothing_is_consistent job draws = record {
  apart = λ i j d l m. absurd (omega arith);
  below = All-nil (λ o. o.id < total job);
  found = All-nil (λ o. (o ≡ whole job draws o.id) ⊎ (o ≡ without_histogram (whole job draws o.id)));
}

-- the outcomes of a consistent slot are consistent
consistent_from_slot : (job : Job) (draws : Draws) (slot : Slot) (outcomes : List Outcome) → IsConsistentSlot job draws slot → outcomes_of_slot slot ≡ Some outcomes → IsConsistent job draws outcomes
consistent_from_slot job draws absent outcomes consistent is = subst (IsConsistent job draws) (same_Some [] outcomes is) (nothing_is_consistent job draws)
consistent_from_slot job draws (broken f) outcomes consistent is = absurd (none-some outcomes is)
consistent_from_slot job draws (other d g) outcomes consistent is = absurd (none-some outcomes is)
consistent_from_slot job draws (ours g os) outcomes consistent is = subst (IsConsistent job draws) (same_Some os outcomes is) consistent

-- the outcomes taken from consistent slots are consistent
consistent_from_initial : (job : Job) (draws : Draws) (first second : Slot) (number : Option ℕ) (outcomes : List Outcome)
    → IsConsistentSlot job draws first → IsConsistentSlot job draws second → outcomes_of_newest first second number ≡ Some outcomes → IsConsistent job draws outcomes
consistent_from_initial job draws first second (Some zero) outcomes one two is = consistent_from_slot job draws first outcomes one is
consistent_from_initial job draws first second (Some (suc n)) outcomes one two is = consistent_from_slot job draws second outcomes two is
consistent_from_initial job draws absent absent None outcomes one two is = subst (IsConsistent job draws) (same_Some [] outcomes is) (nothing_is_consistent job draws)
consistent_from_initial job draws absent (broken f) None outcomes one two is = absurd (none-some outcomes is)
consistent_from_initial job draws absent (other d g) None outcomes one two is = absurd (none-some outcomes is)
consistent_from_initial job draws absent (ours g os) None outcomes one two is = absurd (none-some outcomes is)
consistent_from_initial job draws (broken f) second None outcomes one two is = absurd (none-some outcomes is)
consistent_from_initial job draws (other d g) second None outcomes one two is = absurd (none-some outcomes is)
consistent_from_initial job draws (ours g os) second None outcomes one two is = absurd (none-some outcomes is)

-- the law that a run goes on correctly from consistent outcomes
abbrev pub GoesOnRightly : Type 0
GoesOnRightly = (job : Job) (draws : Draws) (outcomes : List Outcome) → IsConsistent job draws outcomes
    → IsRight job draws (taken_up job.setting.shift job.setting.walks outcomes)

-- a run that starts with consistent outcomes starts correctly
right_from_taken : GoesOnRightly → (job : Job) (draws : Draws) (content : Option (List Outcome)) (outcomes : List Outcome)
    → ((os : List Outcome) → content ≡ Some os → IsConsistent job draws os) → option_map (taken_up job.setting.shift job.setting.walks) content ≡ Some outcomes
    → IsRight job draws outcomes
right_from_taken law job draws None outcomes consistent is = absurd (none-some outcomes is)
right_from_taken law job draws (Some os) outcomes consistent is =
    subst (IsRight job draws) (same_Some (taken_up job.setting.shift job.setting.walks os) outcomes is) (law job draws os (consistent os refl))

-- the law on the initial outcomes of a run
pub consistent_slots_open_right : GoesOnRightly → ConsistentSlotsOpenRight
consistent_slots_open_right law job draws first second outcomes one two is =
    right_from_taken law job draws (outcomes_of_newest first second (newest first second)) outcomes
    (λ os content. consistent_from_initial job draws first second (newest first second) os one two content) is

-- ---- correct outcomes are consistent

-- the law that an outcome without a histogram has zeros
abbrev pub WithoutHistogramMatches : Type 0
WithoutHistogramMatches = (job : Job) (draws : Draws) (id : ℕ) → without_histogram (whole job draws id) ≡ outcome_with false job draws id

-- the outcome of a trajectory is consistent, with or without a histogram
found_by : WithoutHistogramMatches → (job : Job) (draws : Draws) (shift : Bool) (o : Outcome) → o ≡ outcome_with shift job draws o.id
    → (o ≡ whole job draws o.id) ⊎ (o ≡ without_histogram (whole job draws o.id))
found_by law job draws true o is = inl is
found_by law job draws false o is = inr (is ∙ sym (law job draws o.id))

-- the outcomes of all trajectories are consistent
pub right_is_consistent : WithoutHistogramMatches → RightIsConsistent
right_is_consistent law job draws outcomes right = record {
  apart = right.apart;
  below = right.below;
  found = λ k d l. found_by law job draws job.setting.shift (get_or outcomes k d) (right.found k d l);
}

-- ---- a stop within a save

-- a slot without a checkpoint of the job is consistent
consistent_where_not_ours : (job : Job) (draws : Draws) (slot : Slot) → IsNotOurs slot → IsConsistentSlot job draws slot
consistent_where_not_ours job draws absent none = tt
consistent_where_not_ours job draws (broken f) none = tt
consistent_where_not_ours job draws (other d g) none = tt
consistent_where_not_ours job draws (ours g os) none = absurd none

-- an unchanged slot stays consistent
same_is_consistent : (job : Job) (draws : Draws) (digest : List ℕ) (before after : Stored) → after ≡ before
    → IsConsistentSlot job draws (slot_of job digest before) → IsConsistentSlot job draws (slot_of job digest after)
same_is_consistent job draws digest before after same consistent = subst (λ (s : Stored). IsConsistentSlot job draws (slot_of job digest s)) (sym same) consistent

-- the law on a stop within one save
pub stops_leave_consistent_slots : StopsLeaveConsistentSlots
stops_leave_consistent_slots job draws digest before after zero kept (inl same) consistent = record {
  zero_slot = same_is_consistent job draws digest before.zero_slot after.zero_slot same consistent.zero_slot;
  one_slot = same_is_consistent job draws digest before.one_slot after.one_slot kept consistent.one_slot;
}
stops_leave_consistent_slots job draws digest before after zero kept (inr (inl none)) consistent = record {
  zero_slot = consistent_where_not_ours job draws (slot_of job digest after.zero_slot) none;
  one_slot = same_is_consistent job draws digest before.one_slot after.one_slot kept consistent.one_slot;
}
stops_leave_consistent_slots job draws digest before after zero kept (inr (inr right)) consistent = record {
  zero_slot = right;
  one_slot = same_is_consistent job draws digest before.one_slot after.one_slot kept consistent.one_slot;
}
stops_leave_consistent_slots job draws digest before after (suc n) kept (inl same) consistent = record {
  zero_slot = same_is_consistent job draws digest before.zero_slot after.zero_slot kept consistent.zero_slot;
  one_slot = same_is_consistent job draws digest before.one_slot after.one_slot same consistent.one_slot;
}
stops_leave_consistent_slots job draws digest before after (suc n) kept (inr (inl none)) consistent = record {
  zero_slot = same_is_consistent job draws digest before.zero_slot after.zero_slot kept consistent.zero_slot;
  one_slot = consistent_where_not_ours job draws (slot_of job digest after.one_slot) none;
}
stops_leave_consistent_slots job draws digest before after (suc n) kept (inr (inr right)) consistent = record {
  zero_slot = same_is_consistent job draws digest before.zero_slot after.zero_slot kept consistent.zero_slot;
  one_slot = right;
}
