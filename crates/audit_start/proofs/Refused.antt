-- The ending of a run that cannot resume.
use Rattle.std.proofs.Common.{◌≡◌, ℕ, Bool, true, List, None, refl, sym, subst, ◌∙◌}
use Rattle.audit_model.specs.Pair.{Pair}
use Rattle.audit_model.specs.Job.{Job}
use Rattle.audit_statement.specs.Checkpoint.{job_digest}
use Rattle.ckpt_store.specs.declared.slots.Slots.{Slots}
use Rattle.ckpt_store.specs.Looked.{AreSlots, SawSlots}
use Rattle.ckpt_store.specs.View.{newest_seen, slot_view}
use Rattle.report.specs.declared.ended.Ended.{Ended}
use Rattle.report.specs.declared.ended.Ended.TheVariants as ended
use Rattle.audit_statement.specs.Endings.{AreDamaged, IsOtherJob, is_walking, initial_outcomes_from}
use Rattle.audit_start.specs.ResumeState.{IsOtherSeen, RefusesSlots}
use Rattle.audit_laws.specs.Calls.{Finishes}
use Rattle.audit_model.specs.State.{KeeperState, Stream}
use Rattle.audit_start.proofs.Started.{newest_observed, one_observed, initial_outcomes_seen, initial_outcomes_observed, saw_pair, slot_observed, zero_observed}
use Rattle.audit_laws.proofs.Leaving.{left}

module _ (job : Job) (digest : List ℕ) (slots : Slots) (is : digest ≡ job_digest job) (resumes : job.setting.resume ≡ true) where
  undefined : (p : Pair) → AreSlots job digest p slots → initial_outcomes_seen job.setting slots ≡ None → initial_outcomes_from job.setting.resume job p ≡ None
  undefined p seen none = subst (λ (b : Bool). initial_outcomes_from b job p ≡ None) (sym resumes) (sym (initial_outcomes_observed job digest p slots is seen) ∙ none)

  are_damaged : (p : Pair) → AreSlots job digest p slots → newest_seen slots ≡ None → AreDamaged (slot_view slots.zero) (slot_view slots.one) job p
  are_damaged p seen none = record {
    zero_is = sym (zero_observed job digest p slots is seen);
    one_is = sym (one_observed job digest p slots is seen);
    no_newest = none;
  }

  is_other : (p : Pair) (found : List ℕ) → AreSlots job digest p slots → IsOtherSeen slots found → IsOtherJob found digest job p
  is_other p found seen o = record {
    wanted_is = is;
    generation = o.generation;
    number = o.number;
    newest_is = sym (newest_observed job digest p slots is seen) ∙ o.newest_is;
    found_is = sym (slot_observed job digest p slots is seen o.number) ∙ o.other_is;
  }

  damaged_ends : (out : Stream) (k : KeeperState) → is_walking job.setting.command ≡ true → SawSlots job digest k.slots slots → newest_seen slots ≡ None → initial_outcomes_seen job.setting slots ≡ None
      → Finishes job out out k k (ended.Damaged slots)
  damaged_ends out k walking seen none none_initial = λ words before after p. record {
    cause = record {
      job = job;
      prepared = p;
      resuming = rw (walking, resumes) refl;
      seen = saw_pair job digest k.slots slots (λ p. (initial_outcomes_from job.setting.resume job p ≡ None) × AreDamaged (slot_view slots.zero) (slot_view slots.one) job p) seen
          (undefined seen.pair seen.are none_initial, are_damaged seen.pair seen.are none);
    };
    untouched = left words before after job p out out k k _ refl refl refl refl refl refl refl;
    line_is = refl;
  }

  other_ends : (out : Stream) (k : KeeperState) (found : List ℕ) → is_walking job.setting.command ≡ true → SawSlots job digest k.slots slots → IsOtherSeen slots found → initial_outcomes_seen job.setting slots ≡ None
      → Finishes job out out k k (ended.OtherJob found digest)
  other_ends out k found walking seen o none_initial = λ words before after p. record {
    cause = record {
      job = job;
      prepared = p;
      resuming = rw (walking, resumes) refl;
      seen = saw_pair job digest k.slots slots (λ p. (initial_outcomes_from job.setting.resume job p ≡ None) × IsOtherJob found digest job p) seen
          (undefined seen.pair seen.are none_initial, is_other seen.pair found seen.are o);
    };
    untouched = left words before after job p out out k k _ refl refl refl refl refl refl refl;
    line_is = refl;
  }

  pub refused_ends : (out : Stream) (k : KeeperState) (why : Ended) → is_walking job.setting.command ≡ true → SawSlots job digest k.slots slots → initial_outcomes_seen job.setting slots ≡ None
      → RefusesSlots slots digest why → Finishes job out out k k why
  refused_ends out k (ended.Damaged found) walking seen none_initial r =
      subst (λ (s : Slots). Finishes job out out k k (ended.Damaged s)) (sym r.0) (damaged_ends out k walking seen r.1 none_initial)
  refused_ends out k (ended.OtherJob found wanted) walking seen none_initial r =
      subst (λ (d : List ℕ). Finishes job out out k k (ended.OtherJob found d)) (sym r.0) (other_ends out k found walking seen r.1 none_initial)
  refused_ends out k ended.Done walking seen none_initial r = absurd r
  refused_ends out k (ended.BadWords f) walking seen none_initial r = absurd r
  refused_ends out k ended.TooManyBytes walking seen none_initial r = absurd r
  refused_ends out k (ended.BadGraph f c) walking seen none_initial r = absurd r
  refused_ends out k (ended.BadRegions f c) walking seen none_initial r = absurd r
  refused_ends out k (ended.BadPlan f) walking seen none_initial r = absurd r
  refused_ends out k (ended.BadTable f) walking seen none_initial r = absurd r
  refused_ends out k (ended.BadPlanNamed name f) walking seen none_initial r = absurd r
  refused_ends out k ended.NoMemory walking seen none_initial r = absurd r
  refused_ends out k ended.ReadFault walking seen none_initial r = absurd r
  refused_ends out k ended.WriteFault walking seen none_initial r = absurd r
  refused_ends out k ended.LoadFault walking seen none_initial r = absurd r
  refused_ends out k ended.FolderTaken walking seen none_initial r = absurd r
  refused_ends out k (ended.Stopped done all) walking seen none_initial r = absurd r
  refused_ends out k ended.SaveFault walking seen none_initial r = absurd r
