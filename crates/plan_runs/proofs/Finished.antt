-- The end of a run.
use Rattle.std.proofs.Common.{◌≡◌, ℕ, ◌<◌, ◌≤◌, Bool, true, false, List, length, Result, Ok, Err, refl, sym, subst, ap, ◌∙◌}
use Rattle.std.specs.Prelude.{⊤}
use Rattle.std.specs.Io.KnownBytes.{Appends}
use Rattle.audit_io.specs.declared.source.Failed.{Failed}
use Rattle.audit_model.specs.Faults.{Rose}
use Rattle.audit_model.specs.declared.outcome.Outcome.{Outcome}
use Rattle.audit_model.specs.declared.setting.Command.{Command}
use Rattle.audit_model.specs.declared.setting.Command.TheVariants.{Check, Run, Make, Plans, Trace}
use Rattle.audit_model.specs.Job.{Job}
use Rattle.audit_model.specs.Run.{total}
use Rattle.audit_statement.specs.Draw.{draw}
use Rattle.audit_statement.specs.Report.{full_report}
use Rattle.report.specs.declared.ended.Ended.TheVariants as ended
use Rattle.audit_statement.specs.Endings.{AppendsPart, AreInitialOutcomes, SameUnless, SavesAll, SavesWhere, NoSaveFailed, StopsEarly, Writes, WritesReport, WritesText, is_walking, saves}
use Rattle.audit_laws.specs.Runs.{AreAll, IsRunJob}
use Rattle.plan_runs.specs.Ending.{SavedBy, SavesLast, ended_as, ended_by, stopped_by}
use Rattle.audit_laws.specs.Calls.{Finishes}
use Rattle.report.specs.AddedText.{WritesAllOf}
use Rattle.audit_model.specs.State.{KeeperState, Stream}
use Rattle.audit_statement.specs.World.{World, world}
use Rattle.audit_laws.proofs.Running.{leaves_none, short_leaves, whole_leaves}
use Rattle.audit_laws.proofs.Starting.{saves_some}
use Rattle.audit_laws.proofs.Leaving.{left, saved_left}

-- ---- runs that walk

-- a command that walks writes the report
walking_text : (command : Command) (whole : Bool) (job : Job) (before after : World) → is_walking command ≡ true
    → WritesReport whole job before after → WritesText command whole job before after
walking_text Check whole job before after w r = cc
walking_text Run whole job before after w r = r
walking_text Make whole job before after w r = r
walking_text Plans whole job before after w r = r
walking_text Trace whole job before after w r = cc

module _ (job : Job) (run : IsRunJob job) (initial_outcomes outcomes : List Outcome) (all : AreAll job initial_outcomes outcomes) (out out' : Stream) (k l : KeeperState) (opened : AreInitialOutcomes job k.slots initial_outcomes) where
  report_written : (whole : Bool) (before after : Stream) → total job ≤ length outcomes → Writes whole out.bytes out'.bytes (full_report job (draw job.setting.key) outcomes)
      → WritesReport whole job (world before out k) (world after out' l)
  report_written whole before after none w = record {
    outcomes = initial_outcomes;
    opened = opened;
    nothing_left = whole_leaves job initial_outcomes outcomes all none;
    written = subst (λ (os : List Outcome). Writes whole out.bytes out'.bytes (full_report job (draw job.setting.key) os)) all.full w;
  }

  text_written : (whole : Bool) (before after : Stream) → total job ≤ length outcomes → Writes whole out.bytes out'.bytes (full_report job (draw job.setting.key) outcomes)
      → WritesText job.setting.command whole job (world before out k) (world after out' l)
  text_written whole before after none w =
      walking_text job.setting.command whole job (world before out k) (world after out' l) run.walking (report_written whole before after none w)

  -- the slots after the last save, in the terms of the definition of endings
  saves_all : (before after : Stream) (made : Type 0) (result : Result (Unit {0}) Failed) → (made → result ≡ Ok tt) → SavesLast job initial_outcomes k l result
      → SavesAll made job (world before out k) (world after out' l)
  saves_all before after made (Ok done) e s = record { outcomes = initial_outcomes; opened = opened; kept = s.kept; in_turn = λ _. s.in_turn; newest_is = λ _. s.newest_is; attempted = s.attempted }
  saves_all before after made (Err failed) e s = record {
    outcomes = initial_outcomes;
    opened = opened;
    kept = s.kept;
    in_turn = λ m. absurd (not_made (e m));
    newest_is = λ m. absurd (not_made (e m));
    attempted = s.attempted;
  }
    where
      not_made : ◌≡◌ {A = Result (Unit {0}) Failed} (Err failed) (Ok tt) → ⊥
      not_made h = cc

  saves_where : (before after : Stream) (made : Type 0) (b : Bool) (result : Result (Unit {0}) Failed) → (made → result ≡ Ok tt) → SavedBy b job initial_outcomes k l result
      → SavesWhere b made job (world before out k) (world after out' l)
  saves_where before after made false result e s = ap (λ (x : KeeperState). x.slots) s.0
  saves_where before after made true result e s = saves_all before after made result e s

  -- the counts and the slots that a run leaves unchanged
  slots_left : (b : Bool) (result : Result (Unit {0}) Failed) → SavedBy b job initial_outcomes k l result → SameUnless b k.slots l.slots
  slots_left false result s = ap (λ (x : KeeperState). x.slots) s.0
  slots_left true result s = tt

  attempted_left : (b : Bool) (result : Result (Unit {0}) Failed) → SavedBy b job initial_outcomes k l result → SameUnless b k.attempted l.attempted
  attempted_left false result s = ap (λ (x : KeeperState). x.attempted) s.0
  attempted_left true result s = tt

  loads_left : (b : Bool) (result : Result (Unit {0}) Failed) → SavedBy b job initial_outcomes k l result → l.load_faults ≡ k.load_faults
  loads_left false result s = ap (λ (x : KeeperState). x.load_faults) s.0
  loads_left true result s = s.loads

  count_left : (b : Bool) (result : Result (Unit {0}) Failed) → SavedBy b job initial_outcomes k l result → SameUnless b k.save_faults l.save_faults
  count_left false result s = ap (λ (x : KeeperState). x.save_faults) s.0
  count_left true result s = tt

  passed_count : (b : Bool) → SavedBy b job initial_outcomes k l (Ok tt) → l.save_faults ≡ k.save_faults
  passed_count false s = ap (λ (x : KeeperState). x.save_faults) s.0
  passed_count true s = s.cause.passed

  made_by : (b : Bool) (result : Result (Unit {0}) Failed) → SavedBy b job initial_outcomes k l result → (Rose k.save_faults l.save_faults → ⊥) → result ≡ Ok tt
  made_by false result s no_save_failed = s.1
  made_by true (Ok done) s no_save_failed = refl
  made_by true (Err failed) s no_save_failed = absurd (no_save_failed s.cause.failed)

  -- a save can only fail in a run that saves
  failed_saves : (b : Bool) (f : Failed) → SavedBy b job initial_outcomes k l (Err f) → b ≡ true
  failed_saves true f s = refl
  failed_saves false f s = let never : Err f ≡ Ok tt = s.1 in cc

  -- the end after the report was written in full
  done_ends : total job ≤ length outcomes → Appends out.bytes out'.bytes (full_report job (draw job.setting.key) outcomes) → out'.faults ≡ out.faults → SavedBy (saves job.setting) job initial_outcomes k l (Ok tt)
      → Finishes job out out' k l ended.Done
  done_ends whole w writes s = λ words before after p. record {
    cause = record {
      job = job;
      prepared = p;
      written = text_written true before after whole w;
      saved = saves_where before after ⊤ (saves job.setting) (Ok tt) (λ _. refl) s;
    };
    untouched = left words before after job p out out' k l _ tt (saved_left words before after job p _ _ (slots_left (saves job.setting) (Ok tt) s))
        (saved_left words before after job p _ _ (attempted_left (saves job.setting) (Ok tt) s)) refl writes
        (loads_left (saves job.setting) (Ok tt) s) (passed_count (saves job.setting) s);
    line_is = refl;
  }

  -- the end after a part of the report was written
  write_fault_ends : (result : Result (Unit {0}) Failed) → total job ≤ length outcomes → AppendsPart out.bytes out'.bytes (full_report job (draw job.setting.key) outcomes) → Rose out.faults out'.faults
      → SavedBy (saves job.setting) job initial_outcomes k l result → Finishes job out out' k l ended.WriteFault
  write_fault_ends result whole w writes s = λ words before after p. record {
    cause = record {
      job = job;
      prepared = p;
      written = text_written false before after whole w;
      saved = saves_where before after (NoSaveFailed (world before out k) (world after out' l)) (saves job.setting) result (made_by (saves job.setting) result s) s;
      rose = writes;
    };
    untouched = left words before after job p out out' k l _ tt (saved_left words before after job p _ _ (slots_left (saves job.setting) result s))
        (saved_left words before after job p _ _ (attempted_left (saves job.setting) result s)) refl tt
        (loads_left (saves job.setting) result s) (saved_left words before after job p _ _ (count_left (saves job.setting) result s));
    line_is = refl;
  }

  -- the end after the report was written in full but a save had failed
  save_fault_ends : (f : Failed) → total job ≤ length outcomes → Appends out.bytes out'.bytes (full_report job (draw job.setting.key) outcomes) → out'.faults ≡ out.faults
      → SavedBy (saves job.setting) job initial_outcomes k l (Err f) → Finishes job out out' k l ended.SaveFault
  save_fault_ends f whole w writes s = λ words before after p.
      let saving = failed_saves (saves job.setting) f s in
      let last : SavesLast job initial_outcomes k l (Err f) = subst (λ b. SavedBy b job initial_outcomes k l (Err f)) saving s in
      record {
        cause = record {
          job = job;
          prepared = p;
          saving = saving;
          whole = true;
          written = report_written true before after whole w;
          outcomes = initial_outcomes;
          opened = opened;
          kept = last.kept;
          attempted = last.attempted;
          rose = last.cause.failed;
        };
        untouched = left words before after job p out out' k l _ tt (saved_left words before after job p _ _ (slots_left (saves job.setting) (Err f) s))
            (saved_left words before after job p _ _ (attempted_left (saves job.setting) (Err f) s)) refl writes
            (loads_left (saves job.setting) (Err f) s) (saved_left words before after job p _ _ (count_left (saves job.setting) (Err f) s));
        line_is = refl;
      }

  -- the end of a run that wrote its report, in full or in part
  pub written_ends : (text : List ℕ) (written saved : Result (Unit {0}) Failed) → total job ≤ length outcomes → text ≡ full_report job (draw job.setting.key) outcomes → WritesAllOf out out' text written
      → SavedBy (saves job.setting) job initial_outcomes k l saved → Finishes job out out' k l (ended_as (ended_by written saved))
  written_ends text (Ok done) (Ok saved) whole is w s =
      done_ends whole (subst (λ t. Appends out.bytes out'.bytes t) is w.0) w.1 s
  written_ends text (Ok done) (Err failed) whole is w s =
      save_fault_ends failed whole (subst (λ t. Appends out.bytes out'.bytes t) is w.0) w.1 s
  written_ends text (Err failed) saved whole is w s =
      write_fault_ends saved whole (subst (λ t. AppendsPart out.bytes out'.bytes t) is w.0) w.1 s

-- ---- runs that leave trajectories pending

module _ (job : Job) (run : IsRunJob job) (initial_outcomes outcomes : List Outcome) (all : AreAll job initial_outcomes outcomes) (out : Stream) (k l : KeeperState) (opened : AreInitialOutcomes job k.slots initial_outcomes) (short : length outcomes < total job) where
  -- only a run that saves leaves trajectories pending
  saving : saves job.setting ≡ true
  saving = saves_some job run (λ e. true_false (sym (short_leaves job initial_outcomes outcomes all short) ∙ leaves_none job initial_outcomes run e))
    where
      true_false : true ≡ false → ⊥
      true_false e = cc

  abbrev stops_early : (before after : Stream) → StopsEarly job (world before out k) (world after out l)
  stops_early before after = record { outcomes = initial_outcomes; opened = opened; work_left = short_leaves job initial_outcomes outcomes all short; unwritten = refl }

  stopped_ends : SavedBy (saves job.setting) job initial_outcomes k l (Ok tt) → Finishes job out out k l (ended.Stopped (length outcomes) (total job))
  stopped_ends s = λ words before after p.
      let last : SavesLast job initial_outcomes k l (Ok tt) = subst (λ b. SavedBy b job initial_outcomes k l (Ok tt)) saving s in
      record {
        cause = record {
          job = job;
          prepared = p;
          saving = saving;
          stopped = stops_early before after;
          done_is = all.count;
          all_is = refl;
          saved = saves_all job run initial_outcomes outcomes all out out k l opened before after ⊤ (Ok tt) (λ _. refl) last;
        };
        untouched = left words before after job p out out k l _ refl
            (saved_left words before after job p _ _ (slots_left job run initial_outcomes outcomes all out out k l opened (saves job.setting) (Ok tt) s))
            (saved_left words before after job p _ _ (attempted_left job run initial_outcomes outcomes all out out k l opened (saves job.setting) (Ok tt) s)) refl refl
            (loads_left job run initial_outcomes outcomes all out out k l opened (saves job.setting) (Ok tt) s) (passed_count job run initial_outcomes outcomes all out out k l opened (saves job.setting) s);
        line_is = refl;
      }

  failed_ends : (f : Failed) → SavedBy (saves job.setting) job initial_outcomes k l (Err f) → Finishes job out out k l ended.SaveFault
  failed_ends f s = λ words before after p.
      let saving = failed_saves job run initial_outcomes outcomes all out out k l opened (saves job.setting) f s in
      let last : SavesLast job initial_outcomes k l (Err f) = subst (λ b. SavedBy b job initial_outcomes k l (Err f)) saving s in
      record {
        cause = record {
          job = job;
          prepared = p;
          saving = saving;
          whole = false;
          written = stops_early before after;
          outcomes = initial_outcomes;
          opened = opened;
          kept = last.kept;
          attempted = last.attempted;
          rose = last.cause.failed;
        };
        untouched = left words before after job p out out k l _ tt
            (saved_left words before after job p _ _ (slots_left job run initial_outcomes outcomes all out out k l opened (saves job.setting) (Err f) s))
            (saved_left words before after job p _ _ (attempted_left job run initial_outcomes outcomes all out out k l opened (saves job.setting) (Err f) s)) refl refl
            (loads_left job run initial_outcomes outcomes all out out k l opened (saves job.setting) (Err f) s)
            (saved_left words before after job p _ _ (count_left job run initial_outcomes outcomes all out out k l opened (saves job.setting) (Err f) s));
        line_is = refl;
      }

  -- the end of a run that leaves trajectories pending
  pub short_ends : (saved : Result (Unit {0}) Failed) → SavedBy (saves job.setting) job initial_outcomes k l saved → Finishes job out out k l (ended_as (stopped_by (length outcomes) (total job) saved))
  short_ends (Ok saved) s = stopped_ends s
  short_ends (Err failed) s = failed_ends failed s
