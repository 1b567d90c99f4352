-- From the contract of the top call to the effect of a plain run.
use Rattle.std.proofs.Common.{◌≡◌, ℕ, ◌++◌, Bool, List, [], ◌∷◌, Option, Some, None, Ok, refl, sym, ap, ◌∙◌, subst, arith}
use Rattle.std.specs.Prelude.{codes}
use Rattle.std.specs.Io.KnownBytes.{Appends}
use Rattle.audit_model.specs.State.{Stream}
use Rattle.audit_model.specs.declared.setting.Command.{Command}
use Rattle.audit_model.specs.declared.setting.Command.TheVariants.{Run}
use Rattle.audit_model.specs.declared.setting.Setting.{Setting}
use Rattle.audit_model.specs.Job.{Job}
use Rattle.audit_model.specs.JobOf.{job_from}
use Rattle.audit_model.specs.Limits.{IsRunSetting, IsSettingOf, most_edges}
use Rattle.audit_model.specs.Plan.{is_legal}
use Rattle.audit_statement.specs.Draw.{draw}
use Rattle.audit_model.proofs.Legal.{legal_passes, passes_legal}
use Rattle.audit_statement.specs.Report.{thread_report}
use Rattle.audit_statement.specs.Words.{setting_of}
use Rattle.audit_statement.specs.Accepted.{input_by, judged}
use Rattle.audit_statement.specs.Causes.{IsTheJob}
use Rattle.audit_statement.specs.Endings.{Cause, IsDone, StartsFrom, is_walking}
use Rattle.audit_statement.specs.Headline.{StartsWith}
use Rattle.audit_statement.specs.Origin.{origin_of}
use Rattle.audit_statement.specs.Note.{Ending, bad_words, too_many_bytes, bad_graph, bad_regions, bad_table, bad_plan, bad_plan_named, no_memory, read_fault, write_fault, load_fault, folder_taken, stopped, damaged, other_job, save_fault}
use Rattle.audit_statement.specs.Status.{status_of}
use Rattle.audit_statement.specs.Promise.{KeepsItsPromise}
use Rattle.audit_statement.specs.Several.{names_plans}
use Rattle.audit_statement.specs.World.{World}
use Rattle.audit_laws.proofs.Starting.{none_right}
use Rattle.audit_laws.proofs.Reporting.{known_at, same_setting}
use Rattle.audit_statement.specs.Audited.{AuditsPlainly}
use Rattle.audit_laws.specs.Promised.{PromisedCallsAuditPlainly}
use Rattle.audit_statement.specs.Given.{IsGiven}
use Rattle.audit_statement.specs.PlainArguments.{SettingMatches}
use Rattle.audit_laws.proofs.Saying.{IsPlain, run_words, silent_is_plain, words_say}
use Rattle.audit_laws.proofs.Read.{no_frozen_read, no_group_read, no_lengths_read, read_jobs_are_given}
use Rattle.audit_statement.specs.Valid.{IsValid}
use Rattle.audit_statement.specs.Plain.{Decides, plain_report}
use Rattle.audit_laws.proofs.Judged.{IsJudged, given_with, judged_is}
use Rattle.audit_laws.proofs.Reported.{AsksPlainly, HasNoRules, Visits, legal_is_valid, plain_report_is, valid_is_legal, visit_is, visits_are}

-- a setting of the run command is that of a run
run_asks : (command : Command) (setting : Setting) → command ≡ Run → IsSettingOf command setting → IsRunSetting setting
run_asks command setting run within = subst (λ (c : Command). IsSettingOf c setting) run within

-- the known bytes after a text was appended
grown : (old : List ℕ) (before new : Option (List ℕ)) (text : List ℕ) → before ≡ Some old → Appends before new text → new ≡ Some (old ++ text)
grown old None new text e h = cc
grown old (Some xs) None text e h = absurd h
grown old (Some xs) (Some ys) text e h = let same : xs ≡ old = cc in ap Some h ∙ ap (λ (zs : List ℕ). Some (zs ++ text)) same

-- status 0 comes only if all work was done
done_only : (words : List (List ℕ)) (before after : World) (r : Option Ending) → Cause words before after r → status_of r ≡ 0 → IsDone words before after
done_only words before after None c z = c
done_only words before after (Some (bad_words f)) c z = absurd (omega arith)
done_only words before after (Some too_many_bytes) c z = absurd (omega arith)
done_only words before after (Some (bad_graph f)) c z = absurd (omega arith)
done_only words before after (Some (bad_regions column f)) c z = absurd (omega arith)
done_only words before after (Some (bad_table f)) c z = absurd c
done_only words before after (Some (bad_plan f)) c z = absurd (omega arith)
done_only words before after (Some (bad_plan_named name f)) c z = absurd c
done_only words before after (Some no_memory) c z = absurd (omega arith)
done_only words before after (Some read_fault) c z = absurd (omega arith)
done_only words before after (Some write_fault) c z = absurd (omega arith)
done_only words before after (Some load_fault) c z = absurd (omega arith)
done_only words before after (Some folder_taken) c z = absurd (omega arith)
done_only words before after (Some (stopped done all)) c z = absurd (omega arith)
done_only words before after (Some (damaged a b)) c z = absurd (omega arith)
done_only words before after (Some (other_job a b)) c z = absurd (omega arith)
done_only words before after (Some save_fault) c z = absurd (omega arith)

-- the input of a run is that of its source
pub input_is : (command : Command) (setting : Setting) (bytes : List ℕ) → command ≡ Run → input_by command setting (Some bytes) ≡ Some bytes
input_is command setting bytes run = ap (λ (c : Command). input_by c setting (Some bytes)) run

-- the facts about a complete call on the arguments of a plain run
module _ (words : List (List ℕ)) (before after : World) (done : IsDone words before after) (setting : Setting) (bytes : List ℕ)
    (words_are : setting_of words ≡ Ok setting) (plain : IsPlain setting) (observed : before.source.bytes ≡ Some bytes) where
  abbrev job : Job
  job = done.job

  set : job.setting ≡ setting
  set = same_setting words job.setting setting done.prepared.accepted.words_are words_are

  input : input_by setting.command setting before.source.bytes ≡ Some bytes
  input = ap (input_by setting.command setting) observed ∙ input_is setting.command setting bytes plain.run

  accepted : judged setting bytes ≡ Ok job
  accepted =
      let a = done.prepared.accepted in
      let at : input_by job.setting.command job.setting before.source.bytes ≡ Some bytes =
      subst (λ (s : Setting). input_by s.command s before.source.bytes ≡ Some bytes) (sym set) input in
      let read : bytes ≡ a.bytes = known_at _ bytes (λ b. b ≡ a.bytes) at a.given in
      subst (λ (s : Setting). judged s bytes ≡ Ok job) set (subst (λ (b : List ℕ). judged job.setting b ≡ Ok job) (sym read) a.judged_so)

  the_job : IsTheJob words before job
  the_job = record {
    bytes = bytes;
    observed = record {
      words_are = done.prepared.accepted.words_are;
      input = subst (λ (s : Setting). input_by s.command s before.source.bytes ≡ Some bytes) (sym set) input;
    };
    accepted = subst (λ (s : Setting). judged s bytes ≡ Ok job) (sym set) accepted;
  }

  judged_so : IsJudged setting bytes job
  judged_so = judged_is setting bytes job plain.no_regions accepted

  no_rules : HasNoRules job
  no_rules =
      let most : job.setting.max_cut ≡ most_edges = ap (λ (s : Setting). s.max_cut) set ∙ plain.any_cut in
      record {
        enough = omega (arith, most, done.prepared.sound.within.input.edges);
        none = ap (λ (j : Job). j.regions) (sym judged_so.made);
        none_due = ap (λ (s : Setting). s.group_districts) set ∙ plain.none_due;
        none_frozen = ap (λ (j : Job). j.frozen) (sym judged_so.made)
            ∙ no_frozen_read bytes setting.columns judged_so.parsed plain.no_frozen judged_so.read_so;
        none_long = ap (λ (j : Job). j.counts.lengths) (sym judged_so.made)
            ∙ no_lengths_read bytes setting.columns judged_so.parsed plain.no_lengths judged_so.read_so;
        no_weight = ap (λ (s : Setting). s.cut_weight) set ∙ plain.no_weight;
      }

  asks : AsksPlainly job bytes
  asks = record {
    no_stop = ap (λ (s : Setting). s.stop) set ∙ plain.no_stop;
    no_serial = ap (λ (s : Setting). s.serial) set ∙ plain.no_serial;
    no_shift = ap (λ (s : Setting). s.shift) set ∙ plain.no_shift;
    any_cut = ap (λ (s : Setting). s.max_cut) set ∙ plain.any_cut;
    no_group = ap (λ (j : Job). j.group.members) (sym judged_so.made)
        ∙ no_group_read bytes setting.columns judged_so.parsed plain.no_group judged_so.read_so;
    no_lengths = ap (λ (s : Setting). s.columns.length) set ∙ plain.no_lengths;
    any_length = ap (λ (s : Setting). s.max_length) set ∙ plain.any_length;
    no_weight = ap (λ (s : Setting). s.cut_weight) set ∙ plain.no_weight;
    no_pairs = ap (λ (s : Setting). s.pairs) set ∙ plain.no_pairs;
    not_blind = ap (λ (s : Setting). s.blind) set ∙ plain.not_blind;
    no_regions = ap (λ (s : Setting). s.region) set ∙ plain.no_regions;
    no_members = ap (λ (s : Setting). s.columns.group) set ∙ plain.no_group;
    no_frozen = ap (λ (s : Setting). s.columns.frozen) set ∙ plain.no_frozen;
    origin = ap (λ (j : Job). j.origin) (sym judged_so.made) ∙ ap (λ (s : Setting). origin_of s bytes) (sym set);
    few_asks = (run_asks job.setting.command job.setting (ap (λ (s : Setting). s.command) set ∙ plain.run) done.prepared.sound.within.setting.command).few_asks;
  }

  starts : StartsWith words before job []
  starts = record {
    the_job = the_job;
    walking = ap (λ (s : Setting). is_walking s.command) set ∙ ap is_walking plain.run;
    opened = subst (λ (b : Bool). StartsFrom b job before.keeper.slots (Some [])) (sym (ap (λ (s : Setting). s.resume) set ∙ plain.fresh)) refl;
  }

  decides : Decides job (is_legal job)
  decides plan = (λ h. legal_is_valid job plan (passes_legal job plan h), λ h. legal_passes job plan (valid_is_legal job plan no_rules h))

-- a call that meets its contract has done what the plain statement says
pub plain_calls : (words : List (List ℕ)) (before after : World) (n m : Stream) (status : ℕ) → KeepsItsPromise words before after n m status
    → AuditsPlainly words before.source.bytes before.out.bytes after.out.bytes status
plain_calls words before after n m status k rest bytes old run silent observed kept zero =
    let done = done_only words before after k.ends.reason k.ends.cause (sym k.ends.status_is ∙ zero) in
    let setting = done.job.setting in
    let words_are : setting_of words ≡ Ok setting = done.prepared.accepted.words_are in
    let words_run : setting_of (codes "run" ∷ rest) ≡ Ok setting = subst (λ (ws : List (List ℕ)). setting_of ws ≡ Ok setting) run words_are in
    let said_so = run_words rest setting words_run in
    let plain = subst IsPlain said_so.1 (silent_is_plain rest said_so.0 silent) in
    let j = job words before after done setting bytes words_are plain observed in
    let free = no_rules words before after done setting bytes words_are plain observed in
    let decided = decides words before after done setting bytes words_are plain observed in
    let is = judged_so words before after done setting bytes words_are plain observed in
    let wrote : Appends before.out.bytes after.out.bytes (thread_report j (draw j.setting.key)) =
    k.written.one_thread j [] (starts words before after done setting bytes words_are plain observed) (none_right j (draw j.setting.key)) zero in
    let gives = read_jobs_are_given bytes setting is.parsed is.read_so in
    record {
      root = gives.root;
      is_text = gives.is_text;
      is_json = gives.is_json;
      job = j;
      set = subst (SettingMatches rest) said_so.1 (words_say rest said_so.0);
      given = subst (IsGiven gives.root) is.made (given_with gives.root (origin_of setting bytes) (job_from is.parsed setting []) gives.given);
      start = legal_is_valid j j.start done.prepared.sound.legal;
      valid = is_legal j;
      decides = decided;
      from_start = λ stream i. subst (IsValid j)
          (visit_is j free (is_legal j) decided (draw j.setting.key stream) j.start i)
          (legal_is_valid j _ (k.legal.from_start j done.prepared.accepted stream i));
      from_hub = λ stream i. subst (IsValid j)
          (ap (λ (v : Visits). v (draw j.setting.key stream) (v (draw j.setting.key 1) j.start j.setting.hub_steps) i)
          (visits_are j free (is_legal j) decided))
          (legal_is_valid j _ (k.legal.from_hub j done.prepared.accepted stream i));
      written = grown old before.out.bytes after.out.bytes (plain_report j (is_legal j) (draw j.setting.key) bytes) kept
          (subst (Appends before.out.bytes after.out.bytes)
          (plain_report_is j free bytes (asks words before after done setting bytes words_are plain observed) (is_legal j) decided (draw j.setting.key)) wrote);
    }

-- the law on each call that meets its contract
pub promised_calls_audit_plainly : PromisedCallsAuditPlainly
promised_calls_audit_plainly words before after n m status k rest bytes old run silent observed kept zero =
    plain_calls words before after n m status (k.one (ap names_plans run)) rest bytes old run silent observed kept zero
