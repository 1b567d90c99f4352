-- The effect of a failed gathering on a keeper that was only looked at before.
use Rattle.std.proofs.Common.{◌≡◌, ◌∙◌, Bool, List, ℕ, false, subst, Option, Result, Ok, Err, IfErr}
use Rattle.audit_model.specs.Faults.{Rose}
use Rattle.audit_model.specs.Pair.{Pair, KeepsOther}
use Rattle.audit_model.specs.State.{KeeperState}
use Rattle.audit_model.specs.Attempts.{attempted_too}
use Rattle.audit_model.specs.declared.outcome.Outcome.{Outcome}
use Rattle.audit_model.specs.Job.{Job}
use Rattle.audit_statement.specs.Checkpoint.{checkpoint}
use Rattle.ckpt_store.specs.declared.gather_result.GatherError.{GatherError}
use Rattle.ckpt_store.specs.declared.gather_result.GatherError.TheVariants as ungathered
use Rattle.ckpt_store.specs.Whole.{HasGatherFailed, IsUnsaved, IsUnsavedUnion, IsUntouched, MayBeSaved}

-- two looks in a row leave the keeper untouched
more : (before between after : KeeperState) → IsUntouched before between → IsUntouched between after → IsUntouched before after
more before between after h k = record { slots = k.slots ∙ h.slots; attempted = k.attempted ∙ h.attempted; saves = k.saves ∙ h.saves }

-- the effect of a failure after a look
of_one : (P Q : Type 0) → (P → Q) → (before between after : KeeperState) (why : GatherError) → IsUntouched before between → between.load_faults ≡ before.load_faults
    → IsUnsaved P between after why → IsUnsaved Q before after why
of_one P Q from before between after ungathered.Memory h loads k = more before between after h k
of_one P Q from before between after ungathered.Unread h loads k = (more before between after h k.0, subst (λ n. Rose n.all after.load_faults.all) loads k.1)
of_one P Q from before between after ungathered.Taken h loads k = (
  more before between after h k.0,
  subst (λ n. Rose n.all after.load_faults.all) loads k.1,
  subst (λ n. Rose n.taken after.load_faults.taken) loads k.2,
)
of_one P Q from before between after ungathered.Unsaved h loads k = from k

-- a failed save after a look
failed_from : (digest : List ℕ) (place : ℕ × ℕ) (outcomes : List Outcome) (before between after : KeeperState) → IsUntouched before between
    → IsUnsavedUnion digest place outcomes between after → IsUnsavedUnion digest place outcomes before after
failed_from digest place outcomes before between after h u = record {
  sound = u.sound;
  other = subst (λ (o : Option Pair). KeepsOther o after.slots place.0) h.slots u.other;
  attempted = u.attempted ∙ (λ i. attempted_too (h.attempted i) place.0 (checkpoint 2 digest place.1 outcomes) false);
  rose = subst (λ n. Rose n after.save_faults) h.saves u.rose;
}

-- a union that may be saved may be saved for equal slots
pub may_from : (job : Job) (digest : List ℕ) (observed other : Option Pair) (folders folders_now : List KeeperState) (place : ℕ × ℕ) (all : List Outcome) → observed ≡ other
    → MayBeSaved job digest observed folders folders_now place all → MayBeSaved job digest other folders folders_now place all
may_from job digest observed other folders folders_now place all same may = subst (λ (o : Option Pair). MayBeSaved job digest o folders folders_now place all) same may

-- a failed save after a look, in terms of the keeper before the look
pub unsaved_from : {A : Type 0} (job : Job) (digest : List ℕ) (saves : Bool) (folders folders_now : List KeeperState) (before between after : KeeperState) (r : Result A GatherError)
    → IsUntouched before between → between.load_faults ≡ before.load_faults
    → IfErr r (IsUnsaved (HasGatherFailed job digest saves between after folders folders_now) between after) → IfErr r (IsUnsaved (HasGatherFailed job digest saves before after folders folders_now) before after)
unsaved_from job digest saves folders folders_now before between after (Ok observed) h loads k = k
unsaved_from job digest saves folders folders_now before between after (Err why) h loads k =
    of_one (HasGatherFailed job digest saves between after folders folders_now) (HasGatherFailed job digest saves before after folders folders_now)
    (λ f. record {
      place = f.place;
      all = f.all;
      asked = f.asked;
      may = may_from job digest between.slots before.slots folders folders_now f.place f.all h.slots f.may;
      unsaved = failed_from digest f.place f.all before between after h f.unsaved;
    })
    before between after why h loads k
