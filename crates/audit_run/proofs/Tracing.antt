-- The ending of a trace.
use Rattle.std.proofs.Common.{◌≡◌, ◌<◌, ◌≤◌, arith, ◌&&◌, not, Bool, true, false, ℕ, List, refl, sym, ap, subst}
use Rattle.std.specs.Prelude.{◌==◌, ⊤}
use Rattle.std.specs.Io.KnownBytes.{Appends}
use Rattle.audit_model.specs.Faults.{Rose}
use Rattle.audit_model.specs.Job.{Job}
use Rattle.audit_model.specs.JobOf.{IsJob}
use Rattle.audit_model.specs.Limits.{IsSettingOf, IsTraceSetting}
use Rattle.audit_model.specs.State.{KeeperState, Stream}
use Rattle.audit_model.specs.declared.setting.Command.{Command}
use Rattle.audit_model.specs.declared.setting.Command.TheVariants.{Trace}
use Rattle.audit_statement.specs.Draw.{draw}
use Rattle.audit_statement.specs.Endings.{AppendsPart, NoSaveFailed, SameUnless, SavesWhere, WritesText, is_walking, saves}
use Rattle.audit_statement.specs.Trace.{trace_text}
use Rattle.audit_statement.specs.World.{World, world}
use Rattle.audit_laws.specs.Calls.{Finishes}
use Rattle.audit_laws.proofs.Leaving.{left, saved_left}
use Rattle.plan_runs.specs.declared.tracing.TraceRange.{TraceRange}
use Rattle.plan_runs.specs.Tracers.{TracesJob}
use Rattle.report.specs.declared.ended.Ended.{Ended}
use Rattle.report.specs.declared.ended.Ended.TheVariants as ended

-- an unchanged value is unchanged whether a test passes or not
same_always : {A : Type 0} (b : Bool) (x : A) → SameUnless b x x
same_always true x = tt
same_always false x = refl

-- the text of a trace of the job
abbrev pub text_of : Job → List ℕ
text_of job = trace_text job (draw job.setting.key) job.setting.first_id job.setting.last_id job.setting.thin

module _ (job : Job) (trace : job.setting.command ≡ Trace) (out out' : Stream) (k : KeeperState) where
  -- a trace saves nothing
  unsaved : saves job.setting ≡ false
  unsaved = ap (λ (c : Command). is_walking c && not (job.setting.save_every == 0)) trace

  -- the slots are unchanged, since a trace saves nothing
  left_alone : (made : Type 0) (before after : World) → after.keeper ≡ before.keeper → SavesWhere (saves job.setting) made job before after
  left_alone made before after same = subst (λ (b : Bool). SavesWhere b made job before after) (sym unsaved) (ap (λ (kept : KeeperState). kept.slots) same)

  -- the text that is written
  written : (whole : Bool) (before after : World) → WritesText Trace whole job before after → WritesText job.setting.command whole job before after
  written whole before after text = subst (λ (c : Command). WritesText c whole job before after) (sym trace) text

  -- the ending of a complete trace
  pub done_ends : Appends out.bytes out'.bytes (text_of job) → out'.faults ≡ out.faults → Finishes job out out' k k ended.Done
  done_ends text faults = λ words before after p. record {
    cause = record {
      job = job;
      prepared = p;
      written = written true (world before out k) (world after out' k) text;
      saved = left_alone ⊤ (world before out k) (world after out' k) refl;
    };
    untouched = left words before after job p out out' k k _ tt
        (saved_left words before after job p k.slots k.slots (same_always (saves job.setting) k.slots))
        (saved_left words before after job p k.attempted k.attempted (same_always (saves job.setting) k.attempted)) refl faults refl refl;
    line_is = refl;
  }

  -- the ending after a failed write
  pub fault_ends : AppendsPart out.bytes out'.bytes (text_of job) → Rose out.faults out'.faults → Finishes job out out' k k ended.WriteFault
  fault_ends text rose = λ words before after p. record {
    cause = record {
      job = job;
      prepared = p;
      written = written false (world before out k) (world after out' k) text;
      saved = left_alone (NoSaveFailed (world before out k) (world after out' k)) (world before out k) (world after out' k) refl;
      rose = rose;
    };
    untouched = left words before after job p out out' k k _ tt
        (saved_left words before after job p k.slots k.slots (same_always (saves job.setting) k.slots))
        (saved_left words before after job p k.attempted k.attempted (same_always (saves job.setting) k.attempted)) refl tt refl
        (saved_left words before after job p k.save_faults k.save_faults (same_always (saves job.setting) k.save_faults));
    line_is = refl;
  }

-- the ending if memory ran out
pub no_memory_ends : (job : Job) (out : Stream) (k : KeeperState) → Finishes job out out k k ended.NoMemory
no_memory_ends job out k = λ words before after p. record { cause = tt; untouched = left words before after job p out out k k _ refl refl refl refl refl refl refl; line_is = refl }

-- the range that the arguments name
abbrev pub range_of : Job → TraceRange
range_of job = record { first = job.setting.first_id; last = job.setting.last_id; thin = job.setting.thin }

-- the ending of a trace in all cases
pub traced_ends : (job : Job) → job.setting.command ≡ Trace → (range : TraceRange) → range ≡ range_of job
    → (out out' : Stream) (k : KeeperState) (why : Ended) → TracesJob job range out out' why → Finishes job out out' k k why
traced_ends job trace range is out out' k why how = by why (subst (λ (r : TraceRange). TracesJob job r out out' why) is how)
  where
    by : (why : Ended) → TracesJob job (range_of job) out out' why → Finishes job out out' k k why
    by ended.Done p = done_ends job trace out out' k p.0 p.1
    by ended.WriteFault p = fault_ends job trace out out' k p.0 p.1
    by ended.NoMemory p = subst (λ (later : Stream). Finishes job out later k k ended.NoMemory) (sym p) (no_memory_ends job out k)
    by _ p = absurd p

-- the range of an accepted trace
pub record IsGoodRange (job : Job) : Type 0 where
  pub some_thin : 0 < job.setting.thin
  pub in_order : job.setting.first_id ≤ job.setting.last_id
  pub few : job.setting.last_id < 100000

pub good_range : (job : Job) → IsJob job → job.setting.command ≡ Trace → IsGoodRange job
good_range job sound trace =
    let within : IsTraceSetting job.setting = subst (λ (c : Command). IsSettingOf c job.setting) trace sound.within.setting.command in
    record {
      some_thin = omega (arith, within.some_thin);
      in_order = within.in_order;
      few = omega (arith, within.within, within.run.few);
    }
