-- A call on valid arguments and a valid graph of a plain run ends well if nothing failed.
use Rattle.std.proofs.Common.{◌≡◌, ℕ, ◌≤◌, Bool, false, not, List, [], ◌∷◌, length, Some, Ok, refl, sym, ap, ◌∙◌, subst, arith}
use Rattle.std.specs.Prelude.{codes, take}
use Rattle.std.proofs.lemmas.Bool.{le-ltb}
use Rattle.std.proofs.lemmas.List.{length-take}
use Rattle.audit_model.specs.State.{Stream}
use Rattle.audit_model.specs.declared.outcome.Outcome.{Outcome}
use Rattle.audit_model.specs.declared.setting.Setting.{Setting}
use Rattle.audit_model.specs.Job.{Job}
use Rattle.audit_model.specs.JobOf.{job_from, job_of}
use Rattle.audit_model.specs.Parsed.{Parsed}
use Rattle.audit_model.specs.Run.{has_id, pending_ids, part_ids, run_ids, total}
use Rattle.audit_statement.specs.Accepted.{from_bytes, from_job, from_parsed, from_regions, input_by, judged, most_bytes}
use Rattle.audit_statement.specs.Origin.{origin_of, with_origin}
use Rattle.audit_statement.specs.Regions.{regions_by}
use Rattle.audit_statement.specs.Causes.{HasBudget}
use Rattle.audit_statement.specs.Endings.{StartsFrom, is_walking, pending, leaves_work, to_walk}
use Rattle.audit_statement.specs.Promise.{KeepsItsPromise}
use Rattle.audit_statement.specs.Several.{names_plans}
use Rattle.audit_statement.specs.World.{World}
use Rattle.audit_laws.proofs.Words.{accepted_words_cover}
use Rattle.audit_statement.specs.Reading.{reading}
use Rattle.audit_model.proofs.Below.{length-filter_below}
use Rattle.audit_model.proofs.Parts.{only_part}
use Rattle.audit_laws.proofs.Taking.{given_jobs_are_taken}
use Rattle.audit_laws.proofs.Plainly.{input_is}
use Rattle.audit_laws.proofs.Saying.{IsPlain, one_part, run_words, saves_nothing, silent_is_plain}
use Rattle.audit_statement.specs.PlainlyEnded.{EndsPlainly}
use Rattle.audit_laws.specs.Promised.{PromisedCallsEndPlainly}
use Rattle.audit_statement.specs.Words.{setting_of}

-- input that is read and accepted and is not too long gives this job
judged_from : (setting : Setting) (bytes : List ℕ) (p : Parsed) → setting.region ≡ [] → length bytes ≤ most_bytes
    → reading bytes setting.columns ≡ Ok p → job_of p setting [] ≡ Ok (job_from p setting [])
    → judged setting bytes ≡ Ok (with_origin (origin_of setting bytes) (job_from p setting []))
unfolding judged
judged_from setting bytes p none few is made =
    ap (from_bytes setting bytes) (le-ltb most_bytes (length bytes) few)
    ∙ ap (from_parsed setting bytes) is
    ∙ ap (λ (region : List ℕ). from_regions setting (origin_of setting bytes) p (regions_by region bytes)) none
    ∙ ap (from_job (origin_of setting bytes)) made

-- a budget for all ids leaves nothing pending in a run of one part
nothing_left : (job : Job) (outcomes : List Outcome) → (job.setting.parts ≡ 1) × (job.setting.part ≡ 0) → total job ≤ job.setting.budget
    → leaves_work job outcomes ≡ false
nothing_left job outcomes whole enough =
    let ids : run_ids job outcomes job.setting.budget ≡ take job.setting.budget (pending_ids job outcomes) =
    ap (λ (n : ℕ). part_ids n job.setting.part job outcomes job.setting.budget) whole.0
    ∙ ap (λ (k : ℕ). part_ids 1 k job outcomes job.setting.budget) whole.1
    ∙ only_part job outcomes job.setting.budget in
    le-ltb (to_walk job outcomes) (pending job outcomes)
    (omega (
      arith,
      ap (λ (xs : List ℕ). length xs) ids,
      length-take job.setting.budget (pending_ids job outcomes),
      enough,
      length-filter_below (total job) (λ id. not (has_id outcomes id)),
    ))

-- a run that does not resume starts without outcomes, so its budget covers all
has_budget : (job : Job) (before : World) → IsPlain job.setting → (job.setting.parts ≡ 1) × (job.setting.part ≡ 0) → total job ≤ job.setting.budget
    → HasBudget (is_walking job.setting.command) job before
has_budget job before plain whole enough =
    subst (λ (b : Bool). HasBudget b job before) (sym (ap is_walking plain.run)) (
      [],
      subst (λ (b : Bool). StartsFrom b job before.keeper.slots (Some [])) (sym plain.fresh) refl,
      nothing_left job [] whole enough,
    )

-- a call that meets its contract ends with status 0 or 3, if its input is valid and nothing failed
plain_ends : (words : List (List ℕ)) (before after : World) (n m : Stream) (status : ℕ) → KeepsItsPromise words before after n m status
    → EndsPlainly words before after status
plain_ends words before after n m status k rest bytes run silent unsaved observed fit none =
    let setting = fit.job.setting in
    let words_run : setting_of (codes "run" ∷ rest) ≡ Ok setting = subst (λ (ws : List (List ℕ)). setting_of ws ≡ Ok setting) run fit.words_are in
    let said_so = run_words rest setting words_run in
    let plain = subst IsPlain said_so.1 (silent_is_plain rest said_so.0 silent) in
    let none_saved = saves_nothing rest unsaved in
    let whole = subst (λ (s : Setting). (s.parts ≡ 1) × (s.part ≡ 0)) said_so.1 (one_part rest said_so.0 none_saved) in
    let taken = given_jobs_are_taken bytes fit.root fit.job fit.is_text fit.is_json fit.given fit.start fit.allowed
    (record { no_group = plain.no_group; none_due = plain.none_due; no_frozen = plain.no_frozen; no_lengths = plain.no_lengths; any_cut = plain.any_cut }) in
    let made = with_origin (origin_of setting bytes) (job_from taken.parsed setting []) in
    k.complete (record {
      job = made;
      bytes = bytes;
      observed = record {
        words_are = fit.words_are;
        input = ap (input_by setting.command setting) observed ∙ input_is setting.command setting bytes plain.run;
      };
      accepted = judged_from setting bytes taken.parsed plain.no_regions fit.few_bytes taken.read_so taken.accepted;
      budget = has_budget made before plain whole
          (accepted_words_cover words setting fit.words_are (ap is_walking plain.run)
          (subst (λ (s : Setting). s.save_every ≡ 0) said_so.1 none_saved));
      reads = none.reads;
      writes = none.writes;
      loads = none.loads;
      saves = none.saves;
    })

-- the law on each call that meets its contract
pub promised_calls_end_plainly : PromisedCallsEndPlainly
promised_calls_end_plainly words before after n m status k rest bytes run silent unsaved observed fit none =
    plain_ends words before after n m status (k.one (ap names_plans run)) rest bytes run silent unsaved observed fit none
