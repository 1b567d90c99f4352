-- From the arguments and the source to the next step of a call on several plans.
use Rattle.std.proofs.Common.{◌≡◌, ◌∙◌, ℕ, ◌<◌, ◌≤◌, true, false, List, length, Option, Some, None, Result, Ok, Err, refl, sym, subst, ap, inl, inr}
use Rattle.std.specs.Prelude.{◌⊎◌, MatchResult, Vec}
use Rattle.std.specs.Io.KnownBytes.{IsAtEnd}
use Rattle.std.proofs.lemmas.Bool.{lt-ltb, le-ltb}
use Rattle.audit_model.specs.declared.fault.WordFault.{WordFault}
use Rattle.audit_model.specs.declared.fault.WordFault.TheVariants as word
use Rattle.audit_model.specs.declared.setting.Columns.{Columns}
use Rattle.audit_model.specs.declared.setting.Setting.{Setting}
use Rattle.audit_statement.specs.Note.{Ending, too_many_bytes, bad_graph, bad_regions, bad_table, bad_plan, bad_plan_named}
use Rattle.audit_model.specs.declared.fault.PlansFault.{PlansFault}
use Rattle.audit_model.specs.declared.fault.PlansFault.TheVariants as fault
use Rattle.plan_csv.specs.declared.named.Named.{Named}
use Rattle.plan_csv.specs.Named.{jobs_of}
use Rattle.audit_statement.specs.Jobs.{Jobs, jobs_reading}
use Rattle.plan_csv.specs.Shared.{AreShared}
use Rattle.audit_statement.specs.Words.{setting_of}
use Rattle.report.specs.declared.ended.Ended.{Ended}
use Rattle.report.specs.declared.ended.Ended.TheVariants as ended
use Rattle.report.specs.Ended.{columns_kept, ending_of, word_ended}
use Rattle.audit_start.specs.declared.reading.ReadEnd.{ReadEnd}
use Rattle.audit_start.specs.declared.reading.ReadEnd.TheVariants as read
use Rattle.audit_start.specs.Steps.{ReadsSource}
use Rattle.audit_statement.specs.Accepted.{columns_in, most_bytes}
use Rattle.audit_statement.specs.Endings.{AddsLine, WritesEnding}
use Rattle.audit_statement.specs.Several.{ArePlansRefused, PlansEnd, PlansLeave, from_jobs, plans_judged}
use Rattle.audit_statement.specs.Status.{line_of, status_of}
use Rattle.audit_model.specs.State.{KeeperState, Stream}
use Rattle.audit_model.specs.Observed.{IfObserved}
use Rattle.audit_statement.specs.World.{World, world}
use Rattle.audit_run.specs.Stages.{ArePreparedFor, ArePlansPrepared, IsRefusedSo, PlansRefused, PlansRunTo, plans_ended, read_ended}
use Rattle.plan_runs.specs.Plans.{ReportsPlans}
use Rattle.audit_run.proofs.Visiting.{visit_legally}

-- ---- the jobs of bytes

-- bytes within the limit give the result of their reading
judged_few : (setting : Setting) (bytes : List ℕ) (r : Result Jobs PlansFault) → length bytes ≤ most_bytes → jobs_reading setting bytes ≡ r → plans_judged setting bytes ≡ from_jobs setting r
unfolding plans_judged
judged_few setting bytes r few e = rw (le-ltb most_bytes (length bytes) few, e) refl

-- too many bytes are refused
judged_many : (setting : Setting) (bytes : List ℕ) → most_bytes < length bytes → plans_judged setting bytes ≡ Err too_many_bytes
unfolding plans_judged
judged_many setting bytes many = rw (lt-ltb most_bytes (length bytes) many) refl

module _ (setting : Setting) (before after : Stream) (bytes : List ℕ) (given : IfObserved before.bytes (λ left. left ≡ bytes)) (few : length bytes ≤ most_bytes) (faults : after.faults ≡ before.faults) where
  pub jobs_prepared : (named : List Named) → IsAtEnd after.bytes → AreShared setting named → jobs_reading setting bytes ≡ Ok (jobs_of named) → ArePreparedFor setting before after named
  jobs_prepared named ended shared e = record {
    bytes = bytes;
    given = given;
    judged_so = judged_few setting bytes (Ok (jobs_of named)) few e;
    shared = shared;
    at_end = ended;
    faults = faults;
  }

  refused_so : (f : PlansFault) (ending : Ending) → from_jobs setting (Err f) ≡ Err ending → jobs_reading setting bytes ≡ Err f → IsRefusedSo setting before after ending
  refused_so f ending is e = record { bytes = bytes; given = given; judged_so = judged_few setting bytes (Err f) few e ∙ is; faults = faults }

  pub jobs_refused : (f : PlansFault) → (f ≡ fault.Memory) ⊎ (jobs_reading setting bytes ≡ Err f) → PlansRefused setting before after (plans_ended setting f)
  jobs_refused fault.Memory e = faults
  jobs_refused (fault.Graph f) (inl e) = cc e
  jobs_refused (fault.Graph f) (inr e) = (refused_so (fault.Graph f) (bad_graph f) refl e, refl)
  jobs_refused (fault.Regions f) (inl e) = cc e
  jobs_refused (fault.Regions f) (inr e) = refused_so (fault.Regions f) (bad_regions setting.region f) refl e
  jobs_refused (fault.Table f) (inl e) = cc e
  jobs_refused (fault.Table f) (inr e) = refused_so (fault.Table f) (bad_table f) refl e
  jobs_refused (fault.Own f) (inl e) = cc e
  jobs_refused (fault.Own f) (inr e) = refused_so (fault.Own f) (bad_plan f) refl e
  jobs_refused (fault.Other name f) (inl e) = cc e
  jobs_refused (fault.Other name f) (inr e) = refused_so (fault.Other name f) (bad_plan_named name f) refl e

-- a source that was not read to its end is refused with that reason
pub read_refused : (setting : Setting) (before after : Stream) (e : ReadEnd) → ReadsSource before after (Err e) → PlansRefused setting before after (read_ended e)
read_refused setting before after read.Failed r = r
read_refused setting before after read.TooMany r = r
read_refused setting before after read.Memory r = r

-- the source was read to its end
pub at_its_end : {A : Type 0} (setting : Setting) (before after : Stream) (r : Result (Vec Named A) Ended) → IsAtEnd after.bytes
    → MatchResult r (λ plans. IsAtEnd after.bytes → ArePreparedFor setting before after plans.items) (λ why. PlansRefused setting before after why)
    → MatchResult r (λ plans. ArePreparedFor setting before after plans.items) (λ why. PlansRefused setting before after why)
at_its_end setting before after (Ok plans) ended h = h ended
at_its_end setting before after (Err why) ended h = h

-- ---- the next step of the call

-- refused arguments, or out of memory
pub words_run : (words : List (List ℕ)) (source : Stream) (f : WordFault) (out : Stream) (keeper : KeeperState) → (f ≡ word.Memory) ⊎ (setting_of words ≡ Err f)
    → PlansRunTo words (world source out keeper) (world source out keeper) (word_ended f)
words_run words source word.Memory out keeper e = record {
  cause = tt;
  untouched = record { source = tt; read_faults = refl; out = refl; write_faults = refl; keeper = refl };
  line_is = refl;
}
words_run words source f out keeper (inl e) = cc e
words_run words source f out keeper (inr e) = record {
  cause = e;
  untouched = record { source = refl; read_faults = refl; out = refl; write_faults = refl; keeper = refl };
  line_is = refl;
}

module _ (words : List (List ℕ)) (setting : Setting) (accepted : setting_of words ≡ Ok setting) (before after : Stream) where
  pub plans_prepared : (named : List Named) → ArePreparedFor setting before after named → ArePlansPrepared words before after named
  plans_prepared named r = record {
    setting = setting;
    prepared = record {
      bytes = r.bytes;
      input = record { words_are = accepted; given = r.given };
      judged_so = r.judged_so;
      at_end = r.at_end;
      faults = r.faults;
    };
    shared = r.shared;
  }

  are_refused : (ending : Ending) → IsRefusedSo setting before after ending → ArePlansRefused words before.bytes ending
  are_refused ending r = record { setting = setting; bytes = r.bytes; input = record { words_are = accepted; given = r.given }; judged_so = r.judged_so }

  module _ (out : Stream) (keeper : KeeperState) where
    only_read : after.faults ≡ before.faults → PlansLeave (world before out keeper) (world after out keeper) (record { read = true; read_failed = false; wrote = false; write_failed = false })
    only_read faults = record { source = tt; read_faults = faults; out = refl; write_faults = refl; keeper = refl }

    pub refused_run : (why : Ended) → PlansRefused setting before after why → PlansRunTo words (world before out keeper) (world after out keeper) why
    refused_run ended.NoMemory r = record { cause = tt; untouched = only_read r; line_is = refl }
    refused_run ended.ReadFault r = record {
      cause = record { setting = setting; words_are = accepted; rose = r };
      untouched = record { source = tt; read_faults = tt; out = refl; write_faults = refl; keeper = refl };
      line_is = refl;
    }
    refused_run ended.TooManyBytes r = record {
      cause = record {
        refused = record { setting = setting; bytes = r.bytes; input = record { words_are = accepted; given = r.given }; judged_so = judged_many setting r.bytes r.many };
        taken = r.taken;
      };
      untouched = only_read r.faults;
      line_is = refl;
    }
    refused_run (ended.BadGraph f columns) r = record {
      cause = are_refused (bad_graph f) r.0;
      untouched = only_read r.0.faults;
      line_is = ap (λ (c : Columns). line_of c (Some (bad_graph f))) (ap columns_in accepted ∙ sym r.1);
    }
    refused_run (ended.BadRegions f column) r = record { cause = are_refused (bad_regions column f) r; untouched = only_read r.faults; line_is = refl }
    refused_run (ended.BadTable f) r = record { cause = are_refused (bad_table f) r; untouched = only_read r.faults; line_is = refl }
    refused_run (ended.BadPlan f) r = record { cause = are_refused (bad_plan f) r; untouched = only_read r.faults; line_is = refl }
    refused_run (ended.BadPlanNamed name f) r = record { cause = are_refused (bad_plan_named name f) r; untouched = only_read r.faults; line_is = refl }
    refused_run _ r = absurd r

  -- the call goes on or ends
  pub prepared : {A : Type 0} (r : Result (Vec Named A) Ended) → MatchResult r (λ plans. ArePreparedFor setting before after plans.items) (λ why. PlansRefused setting before after why)
      → MatchResult r (λ plans. ArePlansPrepared words before after plans.items) (λ why. (out : Stream) (keeper : KeeperState) → PlansRunTo words (world before out keeper) (world after out keeper) why)
  prepared (Ok plans) h = plans_prepared plans.items h
  prepared (Err why) h = λ out keeper. refused_run out keeper why h

-- the reports were written, in full or in part, or memory ran out
pub reported_run : (words : List (List ℕ)) (before after : Stream) (named : List Named) (by : ArePlansPrepared words before after named) (out out' : Stream) (keeper : KeeperState) (why : Ended)
    → ReportsPlans by.setting.key (jobs_of named) out out' why → PlansRunTo words (world before out keeper) (world after out' keeper) why
reported_run words before after named by out out' keeper ended.Done r = record {
  cause = record { setting = by.setting; jobs = jobs_of named; prepared = by.prepared; written = r.0; legal = visit_legally by.setting by.shared.regions by.shared.group by.shared.frozen named by.shared.each };
  untouched = record { source = tt; read_faults = by.prepared.faults; out = tt; write_faults = r.1; keeper = refl };
  line_is = refl;
}
reported_run words before after named by out out' keeper ended.WriteFault r = record {
  cause = record { setting = by.setting; jobs = jobs_of named; prepared = by.prepared; written = r.0; legal = visit_legally by.setting by.shared.regions by.shared.group by.shared.frozen named by.shared.each; rose = r.1 };
  untouched = record { source = tt; read_faults = by.prepared.faults; out = tt; write_faults = tt; keeper = refl };
  line_is = refl;
}
reported_run words before after named by out out' keeper ended.NoMemory r = record {
  cause = tt;
  untouched = record { source = tt; read_faults = by.prepared.faults; out = ap (λ (s : Stream). s.bytes) r; write_faults = ap (λ (s : Stream). s.faults) r; keeper = refl };
  line_is = refl;
}
reported_run words before after named by out out' keeper _ r = absurd r

-- ---- the ending of the call

-- the diagnostic with the columns that the code kept is that of the columns of the arguments
ending_same : (a b : Columns) (n m : Stream) (reason : Option Ending) → line_of a reason ≡ line_of b reason → WritesEnding b n m reason → WritesEnding a n m reason
ending_same a b n m None e t = t
ending_same a b n m (Some ending) e t = subst (λ (line : List ℕ). AddsLine n m line) (sym e) t

-- a call on several plans that ran to an end and wrote its diagnostic has a correct ending
pub plans_end : (words : List (List ℕ)) (before after : World) (n m : Stream) (status : ℕ) (why : Ended) → PlansRunTo words before after why → status ≡ status_of (ending_of why)
    → WritesEnding (columns_kept why) n m (ending_of why) → PlansEnd words before after n m status
plans_end words before after n m status why r s t =
    record { reason = ending_of why; status_is = s; cause = r.cause; untouched = r.untouched; observed = ending_same _ _ n m (ending_of why) r.line_is t }
