-- The slots after one gathering of reached folders are reached.
use Rattle.std.proofs.Common.{◌≡◌, ◌∙◌, ℕ, zero, suc, ◌<◌, Bool, true, false, List, [], ◌∷◌, Option, Some, None, refl, sym, subst, arith}
use Rattle.std.proofs.lemmas.List.Elements.{All-head, All-tail}
use Rattle.audit_model.specs.Pair.{HoldsBytes, KeepsOther, Pair, other_stored, stored}
use Rattle.audit_model.specs.State.{KeeperState}
use Rattle.audit_model.specs.Observed.{IfBothObserved, IfObserved}
use Rattle.audit_model.specs.declared.outcome.Outcome.{Outcome}
use Rattle.audit_model.specs.Job.{Job}
use Rattle.audit_statement.specs.Checkpoint.{checkpoint, job_digest}
use Rattle.audit_statement.specs.Slots.{IsAfterStop, Slot, absent, broken, newest, outcomes_of_newest, other, ours, outcomes_of_slot, place_beside, slot_of}
use Rattle.ckpt_store.specs.declared.finding.Finding.{Finding}
use Rattle.ckpt_store.specs.declared.finding.Finding.TheVariants as finding
use Rattle.audit_model.specs.Run.{total}
use Rattle.ckpt_store.specs.Collected.{Collected, no_collected, passed_over}
use Rattle.ckpt_store.specs.Findings.{AreFound, Finds, HasLoadedSlots, IsFound}
use Rattle.ckpt_store.specs.Gives.{Gives, damaged, gives, has_broken, nothing, other_job, outcomes, slot_gives, slots_give}
use Rattle.ckpt_store.specs.Whole.{HasBegun, IsSavedIf, IsSavedUnion}
use Rattle.audit_laws.specs.Gathered.{AreAllReached, AreGathered, AreReached, CutGatheringsReach, GatheringsReach, Hold, IsSavedOver, after_gathering, begun, kept_outcomes, united}

-- ---- the outcomes taken from slots, and their contents

-- a slot whose outcomes can be taken holds them
slot_holds : (slot : Slot) (os : List Outcome) → slot_gives slot ≡ outcomes os → outcomes_of_slot slot ≡ Some os
slot_holds absent os e = cc
slot_holds (broken f) os e = cc
slot_holds (other d g) os e = cc
slot_holds (ours g kept) os e = cc

-- slots whose outcomes can be taken start a run with them
slots_hold : (first second : Slot) (n : Option ℕ) (os : List Outcome) → slots_give first second n ≡ outcomes os → outcomes_of_newest first second n ≡ Some os
slots_hold first second (Some zero) os e = slot_holds first os e
slots_hold first second (Some (suc n)) os e = slot_holds second os e
slots_hold absent absent None os e = cc
slots_hold absent (broken f) None os e = cc
slots_hold absent (other d g) None os e = cc
slots_hold absent (ours g kept) None os e = cc
slots_hold (broken f) second None os e = cc
slots_hold (other d g) second None os e = cc
slots_hold (ours g kept) second None os e = cc

module _ (job : Job) where
  abbrev digest : List ℕ
  digest = job_digest job

  given_is_contained : (p : Pair) (os : List Outcome) → gives job digest p ≡ outcomes os → Hold job p os
  given_is_contained p os e = slots_hold (slot_of job digest p.zero_slot) (slot_of job digest p.one_slot) (newest (slot_of job digest p.zero_slot) (slot_of job digest p.one_slot)) os e

  -- the empty list is gathered
  nothing_gathered : AreGathered job []
  nothing_gathered =
      let none : Pair = record { zero_slot = None; one_slot = None } in
      kept_outcomes none [] (begun none (record { zero_slot = tt; one_slot = tt })) refl

  -- ---- the finding in one folder

  -- a folder that added nothing leaves the collection unchanged
  same_gathered : (before after : Collected) → AreGathered job before.outcomes → after ≡ passed_over before → AreGathered job after.outcomes
  same_gathered before after b same = subst (λ (c : Collected). AreGathered job c.outcomes) (sym same) b

  found_so : (given : Gives) (bad : Bool) (what : Finding) (before after : Collected) → AreGathered job before.outcomes
      → ((os : List Outcome) → given ≡ outcomes os → AreGathered job os) → Finds before given bad what after → AreGathered job after.outcomes
  found_so (outcomes os) bad (finding.Added count new beside) before after b of f = united before.outcomes os after.outcomes b (of os refl) f.0.union
  found_so (outcomes os) bad (finding.Differs id number) before after b of f = same_gathered before after b f.same
  found_so nothing bad finding.Nothing before after b of f = same_gathered before after b f
  found_so other_job bad finding.OtherJob before after b of f = same_gathered before after b f
  found_so damaged bad finding.Damaged before after b of f = same_gathered before after b f
  found_so given bad what before after b of f = absurd f

  seen_so : (p : Pair) (bad : Bool) (what : Finding) (before after : Collected) → AreReached job p → AreGathered job before.outcomes
      → Finds before (gives job digest p) bad what after → AreGathered job after.outcomes
  seen_so p bad what before after reached b f = found_so (gives job digest p) bad what before after b (λ os e. kept_outcomes p os reached (given_is_contained p os e)) f

  seen_is : (observed : Option Pair) (p seen : Pair) → observed ≡ Some p → IfObserved observed (λ x. seen ≡ x) → seen ≡ p
  seen_is None p seen e same = cc
  seen_is (Some x) p seen e same = (let is : x ≡ p = cc in same ∙ is)

  from_seen : (observed : Option Pair) (p : Pair) (what : Finding) (before after : Collected) → observed ≡ Some p → AreReached job p → AreGathered job before.outcomes
      → HasLoadedSlots job digest observed before what after → AreGathered job after.outcomes
  from_seen observed p what before after is reached b s =
      seen_so s.pair (has_broken job digest s.pair) what before after (subst (AreReached job) (sym (seen_is observed p s.pair is s.same)) reached) b s.finds

  from_found : (folder folder_now : KeeperState) (p : Pair) (what : Finding) (before after : Collected) → folder.slots ≡ Some p → AreReached job p → AreGathered job before.outcomes
      → IsFound job digest folder folder_now before what after → AreGathered job after.outcomes
  from_found folder folder_now p finding.Unread before after is reached b f = same_gathered before after b f.0
  from_found folder folder_now p finding.Taken before after is reached b f = same_gathered before after b f.0
  from_found folder folder_now p what before after is reached b f = from_seen folder.slots p what before after is reached b f

  -- ---- the findings in all folders

  from_all : (folders folders_now : List KeeperState) (found : List Finding) (before after : Collected) → AreAllReached job folders → AreGathered job before.outcomes
      → AreFound job digest folders folders_now before found after → AreGathered job after.outcomes
  from_all [] [] [] before after all b f = subst (λ (c : Collected). AreGathered job c.outcomes) (sym f) b
  from_all (folder ∷ folders) (folder_now ∷ folders_now) (what ∷ found) before after all b f =
      let first = All-head (λ (k : KeeperState). (p : Pair) × (k.slots ≡ Some p) × AreReached job p) folder folders all in
      from_all folders folders_now found f.0 after (All-tail (λ (k : KeeperState). (p : Pair) × (k.slots ≡ Some p) × AreReached job p) folder folders all)
      (from_found folder folder_now first.0 what before f.0 first.1 first.2 b f.1) f.2
  from_all folders folders_now found before after all b f = absurd f

  from_begun : (observed : Option Pair) (p : Pair) (place : ℕ × ℕ) (own : Finding) (start : Collected) → observed ≡ Some p → AreReached job p
      → HasBegun job digest observed place own start → AreGathered job start.outcomes
  from_begun observed p place own start is reached h =
      seen_so h.pair (has_broken job digest h.pair) own (no_collected (total job)) start (subst (AreReached job) (sym (seen_is observed p h.pair is h.same)) reached) nothing_gathered h.finds

  -- ---- the save

  place_below : (first second : Slot) (n : Option ℕ) → (place_beside first second n).0 < 2
  place_below first second None = omega arith
  place_below first second (Some n) = omega arith

  observed_bytes : (slots : Option Pair) (q : Pair) (number : ℕ) (bytes : List ℕ) → slots ≡ Some q → HoldsBytes slots number bytes → stored q number ≡ Some bytes
  observed_bytes None q number bytes e h = cc
  observed_bytes (Some x) q number bytes e h = (let is : x ≡ q = cc in subst (λ (y : Pair). stored y number ≡ Some bytes) is h)

  observed_other : (old new : Option Pair) (p q : Pair) (number : ℕ) → old ≡ Some p → new ≡ Some q → KeepsOther old new number → other_stored q number ≡ other_stored p number
  observed_other old new p q number e f h =
      subst (λ (x : Option Pair). IfBothObserved x (Some q) (λ p q. other_stored q number ≡ other_stored p number)) e
      (subst (λ (x : Option Pair). IfBothObserved old x (λ p q. other_stored q number ≡ other_stored p number)) f h)

  beside_so : (number : ℕ) (p q : Pair) → other_stored q number ≡ other_stored p number → IsAfterStop number p.zero_slot p.one_slot q.zero_slot q.one_slot
  beside_so zero p q e = e
  beside_so (suc n) p q e = e

  saved_over : (place : ℕ × ℕ) (os : List Outcome) (before after : KeeperState) (p q : Pair) → place.0 < 2 → before.slots ≡ Some p → after.slots ≡ Some q
      → IsSavedUnion digest place os before after → IsSavedOver job os p q
  saved_over place os before after p q below was is s = record {
    save = record { slot = place.0; bytes = checkpoint 2 digest place.1 os; succeeded = true };
    generation = place.1;
    sound = s.sound;
    carried = record {
      slot = below;
      beside = beside_so place.0 p q (observed_other before.slots after.slots p q place.0 was is s.other);
      ended = observed_bytes after.slots q place.0 (checkpoint 2 digest place.1 os) is s.bytes;
    };
  }

  saved_if : (b : Bool) (place : ℕ × ℕ) (os : List Outcome) (before after : KeeperState) (p q : Pair) → place.0 < 2 → before.slots ≡ Some p → after.slots ≡ Some q
      → AreReached job p → AreGathered job os → IsSavedIf b digest place os before after → AreReached job q
  saved_if true place os before after p q below was is reached gathered s = after_gathering p q os reached gathered (saved_over place os before after p q below was is s)
  saved_if false place os before after p q below was is reached gathered s =
      let e : Some p ≡ Some q = sym was ∙ sym s.slots ∙ is in
      let same : p ≡ q = cc in
      subst (AreReached job) same reached

-- the slots after a gathering of reached folders are reached
pub gatherings_reach : GatheringsReach
gatherings_reach job saves before after folders folders_now observed p q g was is reached all =
    let below : g.place.0 < 2 =
    subst (λ (x : ℕ × ℕ). x.0 < 2) (sym g.own.place_is)
    (place_below job (slot_of job (job_digest job) g.own.pair.zero_slot) (slot_of job (job_digest job) g.own.pair.one_slot)
    (newest (slot_of job (job_digest job) g.own.pair.zero_slot) (slot_of job (job_digest job) g.own.pair.one_slot))) in
    saved_if job observed.saved g.place g.all.outcomes before after p q below was is reached
    (from_all job folders folders_now observed.folders g.start g.all all (from_begun job before.slots p g.place observed.own g.start was reached g.own) g.each)
    g.saved

-- the slots after a gathering whose save failed or was cut off are reached
pub cut_gatherings_reach : CutGatheringsReach
cut_gatherings_reach job observed folders folders_now place all p q may sound is carried reached all_reached =
    after_gathering p q all reached
    (subst (AreGathered job) may.union
    (from_all job folders folders_now may.found may.start may.collected all_reached (from_begun job observed p place may.own may.start is reached may.begun) may.each))
    (record { save = record { slot = place.0; bytes = checkpoint 2 (job_digest job) place.1 all; succeeded = false }; generation = place.1; sound = sound; carried = carried })
