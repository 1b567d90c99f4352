-- Correct saves leave consistent slots consistent, wherever each failed or was stopped.
use Rattle.std.proofs.Common.{◌≡◌, ℕ, zero, suc, ◌⊎◌, Bool, true, false, List, [], ◌∷◌, length, take, Some, sym, ap, ◌∙◌, subst, inl, inr}
use Rattle.std.specs.List.{All}
use Rattle.std.proofs.lemmas.Bool.{cases_lt}
use Rattle.std.proofs.lemmas.List.{take_all}
use Rattle.std.proofs.lemmas.List.Elements.{All-cons, All-head, All-nil, All-tail}
use Rattle.audit_model.specs.Pair.{Pair, Stored, stored}
use Rattle.audit_model.specs.Attempts.{Try}
use Rattle.audit_model.specs.Job.{Job}
use Rattle.audit_model.specs.Trajectory.{Draws}
use Rattle.audit_statement.specs.Slots.{IsConsistentSlot, Slot, slot_of, AreConsistent, IsNotOurs}
use Rattle.audit_statement.specs.Histories.{AreCarriedOut, IsEnded, IsRightSave, stopped_in}
use Rattle.ckpt_store.specs.Laws.{SavesLeaveConsistentSlots, RightIsConsistent}
use Rattle.ckpt_store.proofs.Consistent.{stops_leave_consistent_slots}
use Rattle.ckpt_store.proofs.Ours.{checkpoints_are_ours}
use Rattle.ckpt_store.proofs.Prefixes.{cut_is_broken}

module _ (consistent : RightIsConsistent) (job : Job) (draws : Draws) (digest : List ℕ) where
  abbrev slot : Stored → Slot
  slot s = slot_of job digest s

  -- the contents that a stop may leave
  abbrev Leaves : Stored → Stored → Type 0
  Leaves before after = (after ≡ before) ⊎ IsNotOurs (slot after) ⊎ IsConsistentSlot job draws (slot after)

  whole_is_consistent : (bytes : List ℕ) → IsRightSave job draws digest bytes → IsConsistentSlot job draws (slot (Some bytes))
  whole_is_consistent bytes r =
      subst (IsConsistentSlot job draws) (sym (checkpoints_are_ours job bytes r.version digest r.generation r.outcomes r.sound r.fit)) (consistent job draws r.outcomes r.right)

  first_leave : (bytes : List ℕ) (before after : Stored) (n : ℕ) → IsRightSave job draws digest bytes → after ≡ Some (take n bytes) → Leaves before after
  first_leave bytes before after n r is = elim (cases_lt n (length bytes)) [
    | inl short ↦
        let cut = cut_is_broken job bytes r.version digest r.generation r.outcomes n r.sound short in
        inr (inl (subst IsNotOurs (sym (ap slot is ∙ cut.1)) tt))
    | inr long ↦
        inr (inr (subst (λ (s : Stored). IsConsistentSlot job draws (slot s)) (sym (is ∙ ap (λ (xs : List ℕ). Some xs) (take_all n bytes long))) (whole_is_consistent bytes r)))
  ]

  ended_leave : (succeeded : Bool) (bytes : List ℕ) (before after : Stored) → IsRightSave job draws digest bytes
      → IsEnded IsNotOurs job digest succeeded before bytes after → Leaves before after
  ended_leave true bytes before after r is = inr (inr (subst (λ (s : Stored). IsConsistentSlot job draws (slot s)) (sym is) (whole_is_consistent bytes r)))
  ended_leave false bytes before after r (inl same) = inl same
  ended_leave false bytes before after r (inr (inl first)) = first_leave bytes before after first.0 r first.1
  ended_leave false bytes before after r (inr (inr none)) = inr (inl none)

  outlast : (carried : List Try) (before after : Pair) → All (λ (t : Try). IsRightSave job draws digest t.bytes) carried
      → AreCarriedOut IsNotOurs job digest before carried after → AreConsistent job draws digest before → AreConsistent job draws digest after
  outlast [] before after right same slots = subst (AreConsistent job draws digest) (sym same) slots
  outlast (c ∷ rest) before after right out slots =
      let one = out.1 in
      let r = All-head (λ (t : Try). IsRightSave job draws digest t.bytes) c rest right in
      outlast rest out.0 after (All-tail (λ (t : Try). IsRightSave job draws digest t.bytes) c rest right) out.2
      (stops_leave_consistent_slots job draws digest before out.0 c.slot one.beside
      (ended_leave c.succeeded c.bytes (stored before c.slot) (stored out.0 c.slot) r one.ended) slots)

-- a front of correct saves is correct
stopped_right : (job : Job) (draws : Draws) (digest : List ℕ) (n : ℕ) (attempts : List Try) → All (λ (t : Try). IsRightSave job draws digest t.bytes) attempts
    → All (λ (t : Try). IsRightSave job draws digest t.bytes) (stopped_in n attempts)
stopped_right job draws digest n [] right = All-nil (λ (t : Try). IsRightSave job draws digest t.bytes)
stopped_right job draws digest zero (t ∷ rest) right =
    let Right : Try → Type 0 = λ (x : Try). IsRightSave job draws digest x.bytes in
    All-cons Right (record t { succeeded = false }) [] (All-head Right t rest right) (All-nil Right)
stopped_right job draws digest (suc n) (t ∷ rest) right =
    let Right : Try → Type 0 = λ (x : Try). IsRightSave job draws digest x.bytes in
    All-cons Right t (stopped_in n rest) (All-head Right t rest right) (stopped_right job draws digest n rest (All-tail Right t rest right))

-- one save after the other leaves consistent slots
pub saves_leave_consistent_slots : RightIsConsistent → SavesLeaveConsistentSlots
saves_leave_consistent_slots law job draws digest before after attempts n right out consistent =
    outlast law job draws digest (stopped_in n attempts) before after (stopped_right job draws digest n attempts right) out consistent
