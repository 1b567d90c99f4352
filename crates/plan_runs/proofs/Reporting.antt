-- The outcomes of a run are those that its report covers.
use Rattle.std.proofs.Common.{◌≡◌, ◌∙◌, ℕ, ◌≤◌, List, [], length, take, sym, ap, subst, arith}
use Rattle.std.proofs.lemmas.List.{length-take, take_all}
use Rattle.audit_model.specs.declared.outcome.Outcome.{Outcome}
use Rattle.audit_model.specs.Below.{map_below}
use Rattle.audit_model.specs.Job.{Job}
use Rattle.audit_model.specs.Serially.{serial_observed}
use Rattle.audit_model.specs.Stopping.{stops_of}
use Rattle.audit_model.specs.Trajectory.{outcome, sequence}
use Rattle.audit_statement.specs.Draw.{draw}
use Rattle.audit_statement.specs.Report.{report}
use Rattle.report.specs.Outcomes.{AreStopsOf}
use Rattle.sequential_test.specs.Rounds.{AreParts, StopsInTime}
use Rattle.audit_laws.specs.Runs.{AreAll, IsRunJob}
use Rattle.audit_laws.proofs.Running.{no_stops, reports_all, run_setting, whole_outcomes}
use Rattle.plan_runs.specs.declared.found.Found.{Found}
use Rattle.plan_runs.specs.Found.{HasFound, listed_in, observed_in}
use Rattle.plan_runs.specs.RunBuffers.{HasReportRoom}
use Rattle.plan_runs.proofs.EarlyStops.{one_finds_all, one_is_whole, reports_walks, stops_observed, walks_first, walks_fit, walks_determine_all}
use Rattle.plan_runs.proofs.Plain.{plain_report}

-- the number of covered outcomes is the recorded number
pub length-listed : (f : Found) → f.listed ≤ length f.sorted.items → length (listed_in f) ≡ f.listed
length-listed f enough = omega (arith, length-take f.listed f.sorted.items, enough)

-- a run without early stops has all outcomes, and the report covers each
pub all_found : (job : Job) → IsRunJob job → job.setting.stop ≡ 0 → (initial_outcomes : List Outcome) (f : Found) → AreAll job initial_outcomes f.sorted.items → f.listed ≡ length f.sorted.items
    → f.observed ≡ 0 → f.text.items ≡ [] → HasReportRoom job f.text.spare → HasFound job initial_outcomes f
all_found job run plain initial_outcomes f all listed observed blank room =
    let enough : f.listed ≤ length f.sorted.items = omega (arith, listed) in
    let each : listed_in f ≡ f.sorted.items = take_all f.listed f.sorted.items (omega (arith, listed)) in
    let here : AreAll job initial_outcomes (listed_in f) = subst (AreAll job initial_outcomes) (sym each) all in
    let none : observed_in f ≡ [] = ap (λ n. take n f.stops) observed in
    let long = length-listed f enough in
    let due = reports_all job plain in
    record {
      reportable = record {
        run = run;
        enough = enough;
        enough_stops = omega (arith, observed);
        outcomes = λ whole. whole_outcomes job plain initial_outcomes (listed_in f) here (omega (arith, whole, long, due));
        stops = subst (AreStopsOf job) (sym none) (no_stops job plain);
        blank = blank;
        report_room = room;
      };
      whole = λ whole. record {
        outcomes = listed_in f;
        all = here;
        whole = omega (arith, whole, long, due);
        same = ap (λ (stops : List (List ℕ)). report job (listed_in f) stops (serial_observed job (draw job.setting.key))) none
            ∙ plain_report job plain (draw job.setting.key) (listed_in f);
      };
      short = λ less. record { all = here; due = due };
    }

-- a run with early stops has the outlier walks and all stops
pub early_found : (job : Job) → IsRunJob job → 1 ≤ job.setting.stop → (initial_outcomes : List Outcome) → initial_outcomes ≡ [] → (f : Found) → StopsInTime job f.sorted.items → f.listed ≡ job.setting.walks
    → f.observed ≡ length job.setting.asks → take (length job.setting.asks) f.stops ≡ stops_of job (sequence job (draw job.setting.key))
    → AreParts job.setting.ends (length job.setting.asks) f.stops → length f.stops ≡ 4 → f.text.items ≡ [] → HasReportRoom job f.text.spare → HasFound job initial_outcomes f
early_found job run some initial_outcomes fresh f in_time listed observed stops parts four blank room =
    let first = walks_first job run some f.sorted.items in_time in
    let walks : listed_in f ≡ map_below job.setting.walks (outcome job (draw job.setting.key)) = ap (λ n. take n f.sorted.items) listed ∙ first.1 in
    let these : observed_in f ≡ take (length job.setting.asks) f.stops = ap (λ n. take n f.stops) observed in
    let few = (run_setting job run).few_asks in
    let due = reports_walks job run some in
    record {
      reportable = record {
        run = run;
        enough = omega (arith, first.0, listed);
        enough_stops = omega (arith, observed, few, four);
        outcomes = λ whole. walks_fit job run some (listed_in f) walks;
        stops = subst (AreStopsOf job) (sym these) (stops_observed job run some f.stops (omega (arith, few, four)) parts);
        blank = blank;
        report_room = room;
      };
      whole = λ whole. record {
        outcomes = sequence job (draw job.setting.key);
        all = subst (λ (os : List Outcome). AreAll job os (sequence job (draw job.setting.key))) (sym fresh) (one_finds_all job run some);
        whole = one_is_whole job run some;
        same = ap (λ (os : List Outcome). report job os (observed_in f) (serial_observed job (draw job.setting.key))) walks
            ∙ walks_determine_all job (draw job.setting.key) some (observed_in f) (serial_observed job (draw job.setting.key))
            ∙ ap (λ (s : List (List ℕ)). report job (sequence job (draw job.setting.key)) s (serial_observed job (draw job.setting.key))) (these ∙ stops);
      };
      short = λ less. absurd (omega (arith, less, listed, due));
    }
