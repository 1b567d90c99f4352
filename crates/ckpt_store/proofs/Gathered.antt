-- Gathered slots are consistent.
use Rattle.std.proofs.Common.{◌≡◌, ℕ, zero, suc, ◌∙◌, List, [], Option, Some, None, sym, ap, subst, inr, arith}
use Rattle.std.proofs.lemmas.Option.{none-some, same_Some}
use Rattle.audit_model.specs.declared.outcome.Outcome.{Outcome}
use Rattle.audit_model.specs.Pair.{stored}
use Rattle.audit_model.specs.Job.{Job}
use Rattle.audit_model.specs.Run.{IsConsistent}
use Rattle.audit_model.specs.Trajectory.{Draws}
use Rattle.audit_statement.specs.Slots.{IsConsistentSlot, Slot, absent, broken, other, ours, newest, outcomes_of_newest, outcomes_of_slot, slot_of}
use Rattle.ckpt_store.specs.Laws.{CheckpointsAreOurs, StopsLeaveConsistentSlots}
use Rattle.outcome_book.specs.Laws.{UnionsAreConsistent}
use Rattle.ckpt_store.specs.GatheredLaws.{GatheredSlotsAreConsistent, ConsistentSlotsGiveConsistentOutcomes}

-- an empty list of outcomes is consistent
none_consistent : (job : Job) (draws : Draws) → IsConsistent job draws []
none_consistent job draws = record {
  apart = λ i j d lt within. absurd (omega (arith, within));
  below = λ k d l. absurd (omega (arith, l));
  found = λ k d l. absurd (omega (arith, l));
}

-- the outcomes of a consistent slot of the job are consistent
of_slot : (job : Job) (draws : Draws) (slot : Slot) (outcomes : List Outcome) → IsConsistentSlot job draws slot → outcomes_of_slot slot ≡ Some outcomes → IsConsistent job draws outcomes
of_slot job draws absent outcomes consistent e = subst (IsConsistent job draws) (same_Some [] outcomes e) (none_consistent job draws)
of_slot job draws (broken f) outcomes consistent e = absurd (none-some outcomes e)
of_slot job draws (other digest generation) outcomes consistent e = absurd (none-some outcomes e)
of_slot job draws (ours generation kept) outcomes consistent e = subst (IsConsistent job draws) (same_Some kept outcomes e) consistent

-- the outcomes of the newest of two consistent slots are consistent
of_newest : (job : Job) (draws : Draws) (first second : Slot) (n : Option ℕ) (outcomes : List Outcome)
    → IsConsistentSlot job draws first → IsConsistentSlot job draws second → outcomes_of_newest first second n ≡ Some outcomes → IsConsistent job draws outcomes
of_newest job draws first second (Some zero) outcomes h k e = of_slot job draws first outcomes h e
of_newest job draws first second (Some (suc n)) outcomes h k e = of_slot job draws second outcomes k e
of_newest job draws absent absent None outcomes h k e = subst (IsConsistent job draws) (same_Some [] outcomes e) (none_consistent job draws)
of_newest job draws absent (broken f) None outcomes h k e = absurd (none-some outcomes e)
of_newest job draws absent (other d g) None outcomes h k e = absurd (none-some outcomes e)
of_newest job draws absent (ours g os) None outcomes h k e = absurd (none-some outcomes e)
of_newest job draws (broken f) second None outcomes h k e = absurd (none-some outcomes e)
of_newest job draws (other d g) second None outcomes h k e = absurd (none-some outcomes e)
of_newest job draws (ours g os) second None outcomes h k e = absurd (none-some outcomes e)

-- the law on outcomes taken from consistent slots
pub consistent_slots_give_consistent_outcomes : ConsistentSlotsGiveConsistentOutcomes
consistent_slots_give_consistent_outcomes job draws first second outcomes h k e = of_newest job draws first second (newest first second) outcomes h k e

-- the law on saving the union
pub gathered_slots_are_consistent : StopsLeaveConsistentSlots → CheckpointsAreOurs → UnionsAreConsistent → GatheredSlotsAreConsistent
gathered_slots_are_consistent stops reads unions job draws digest gathered content both before after number generation hg hh is consistent =
    let slot : slot_of job digest (stored after number) ≡ ours generation both =
    ap (slot_of job digest) is.bytes ∙ reads job _ 2 digest generation both is.sound is.fit in
    stops job draws digest before after number is.beside
    (inr (inr (subst (IsConsistentSlot job draws) (sym slot) (unions job draws gathered content both hg hh is.union)))) consistent
