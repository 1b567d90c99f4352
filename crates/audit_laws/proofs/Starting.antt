-- The initial outcomes of a run, and the condition on which it saves.
use Rattle.std.proofs.Common.{◌≡◌, ℕ, zero, suc, ◌<◌, ◌&&◌, not, Bool, true, false, List, [], Option, Some, refl, sym, subst, ap, ◌∙◌, arith, ◌||◌, None}
use Rattle.std.specs.Prelude.{◌==◌}
use Rattle.std.proofs.lemmas.Bool.{ne_eqb, ltb-false}
use Rattle.audit_model.specs.Pair.{Pair}
use Rattle.audit_model.specs.declared.outcome.Outcome.{Outcome}
use Rattle.audit_model.specs.Job.{Job}
use Rattle.ckpt_store.specs.Fitting.{AreFit}
use Rattle.audit_statement.specs.Endings.{AreInitialOutcomes, StartsFrom, ObservesInitialOutcomes, saves, leaves_work, pending, to_walk, Saw, initial_outcomes_from}
use Rattle.audit_laws.specs.Runs.{IsRunJob}
use Rattle.audit_model.specs.State.{KeeperState}
use Rattle.audit_model.specs.Graph.{has}
use Rattle.audit_model.specs.Run.{total, has_id, run_ids, IsRight}
use Rattle.audit_laws.proofs.Counting.{walks_each}
use Rattle.audit_model.specs.Trajectory.{Draws}

-- ---- the condition on which it saves

-- a job with a save interval of 0 saves nothing
pub saves_not : (job : Job) → job.setting.save_every ≡ 0 → saves job.setting ≡ false
saves_not job none = rw none (and_false _)
  where
    and_false : (b : Bool) → (b && false) ≡ false
    and_false true = refl
    and_false false = refl

-- a number other than 0 tests as such
not_zero : (n : ℕ) → (n ≡ 0 → ⊥) → not (n == 0) ≡ true
not_zero zero some = absurd (some refl)
not_zero (suc n) some = ap not (ne_eqb (suc n) 0 (λ e. absurd (omega (arith, e))))

-- a run with a save interval other than 0 saves
pub saves_some : (job : Job) → IsRunJob job → (job.setting.save_every ≡ 0 → ⊥) → saves job.setting ≡ true
saves_some job run some = rw (run.walking, not_zero job.setting.save_every some) refl

-- ---- the initial outcomes

-- an empty list of outcomes is plausible for any job
pub none_fit : (job : Job) → AreFit job []
none_fit job = record { few = omega arith; rising = tt; fit = λ k d inside. absurd (omega arith) }

-- a property of all slots holds for those that were seen
saw_any : (slots : Option Pair) (P : Pair → Type 0) → ((p : Pair) → P p) → Saw slots P
saw_any None P each = record { pair = record { zero_slot = None; one_slot = None }; same = tt; holds = each (record { zero_slot = None; one_slot = None }) }
saw_any (Some p) P each = record { pair = p; same = refl; holds = each p }

-- initial outcomes by the known slots are those by the slots that were seen
by_seen : (resumes : Bool) (job : Job) (slots : Option Pair) (observed seen : Option (List Outcome)) → StartsFrom resumes job slots observed
    → Saw slots (λ p. initial_outcomes_from resumes job p ≡ seen) → observed ≡ seen
by_seen false job slots observed seen e saw = sym e ∙ saw.holds
by_seen true job None observed seen e saw = absurd e
by_seen true job (Some p) observed seen e saw = sym e ∙ subst (λ q. initial_outcomes_from true job q ≡ seen) saw.same saw.holds

-- the initial outcomes are the known ones
pub initial_outcomes_known : (job : Job) (slots : Option Pair) (observed : Option (List Outcome)) (outcomes : List Outcome) → ObservesInitialOutcomes job slots observed → AreInitialOutcomes job slots outcomes
    → observed ≡ Some outcomes
initial_outcomes_known job slots observed outcomes e o = by_seen job.setting.resume job slots observed (Some outcomes) e o.seen

-- slots without valid initial outcomes are known as such
pub undefined_known : (job : Job) (slots : Option Pair) (observed : Option (List Outcome)) (P : Pair → Type 0) → ObservesInitialOutcomes job slots observed
    → Saw slots (λ p. (initial_outcomes_from job.setting.resume job p ≡ None) × P p) → observed ≡ None
undefined_known job slots observed P e saw = by_seen job.setting.resume job slots observed None e (record { pair = saw.pair; same = saw.same; holds = saw.holds.0 })

-- if the slots are known, so are the initial outcomes from the slots that were seen
by_observed : (resumes : Bool) (job : Job) (slots : Option Pair) (p : Pair) (o : Option (List Outcome)) → slots ≡ Some p
    → Saw slots (λ p. initial_outcomes_from resumes job p ≡ o) → StartsFrom resumes job slots o
by_observed false job slots p o was saw = saw.holds
by_observed true job None p o was saw = cc
by_observed true job (Some q) p o was saw = subst (λ r. initial_outcomes_from true job r ≡ o) saw.same saw.holds

-- if the slots are known, the initial outcomes are
pub initial_outcomes_observed : (job : Job) (slots : Option Pair) (p : Pair) (outcomes : List Outcome) → slots ≡ Some p → AreInitialOutcomes job slots outcomes
    → ObservesInitialOutcomes job slots (Some outcomes)
initial_outcomes_observed job slots p outcomes was o = by_observed job.setting.resume job slots p (Some outcomes) was o.seen

-- a run that does not resume starts without outcomes
pub fresh_initial_outcomes : (job : Job) (slots : Option Pair) → job.setting.resume ≡ false → AreInitialOutcomes job slots []
fresh_initial_outcomes job slots fresh = record {
  seen = saw_any slots (λ p. initial_outcomes_from job.setting.resume job p ≡ Some []) (λ p. subst (λ (b : Bool). initial_outcomes_from b job p ≡ Some []) (sym fresh) refl);
  apart = tt;
  fitting = refl;
}

-- an empty list of outcomes is correct
pub none_right : (job : Job) (draws : Draws) → IsRight job draws []
none_right job draws = record {
  apart = λ i j d before inside. absurd (omega (arith, inside));
  below = λ k d inside. absurd (omega (arith, inside));
  found = λ k d inside. absurd (omega (arith, inside));
}

-- an 'or' is true if its second operand is whenever the first is not
pub or_else : (a b : Bool) → (a ≡ false → b ≡ true) → (a || b) ≡ true
or_else true b f = refl
or_else false b f = f refl

-- if nothing is pending, each id has an initial outcome or is walked
pub every_id : (job : Job) (outcomes : List Outcome) → leaves_work job outcomes ≡ false → (id : ℕ) → id < total job
    → (has_id outcomes id || has (run_ids job outcomes job.setting.budget) id) ≡ true
every_id job outcomes none id below =
    or_else (has_id outcomes id) (has (run_ids job outcomes job.setting.budget) id)
    (walks_each job outcomes job.setting.budget (ltb-false (to_walk job outcomes) (pending job outcomes) none) id below)

-- keepers with four equal parts are equal
pub same_kept : (k l : KeeperState) → l.slots ≡ k.slots → l.attempted ≡ k.attempted → l.load_faults ≡ k.load_faults → l.save_faults ≡ k.save_faults → l ≡ k
same_kept k l slots attempted loads saves i = record { slots = slots i; attempted = attempted i; load_faults = loads i; save_faults = saves i }
