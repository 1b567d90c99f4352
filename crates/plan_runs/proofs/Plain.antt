-- The report of a run whose tests do not stop early.
use Rattle.std.proofs.Common.{◌≡◌, ℕ, List, [], sym, ap}
use Rattle.audit_model.specs.declared.outcome.Outcome.{Outcome}
use Rattle.audit_model.specs.Job.{Job}
use Rattle.audit_model.specs.Serially.{serial_observed}
use Rattle.audit_model.specs.Stopping.{stops_by, stops_of}
use Rattle.audit_model.specs.Trajectory.{Draws}
use Rattle.audit_statement.specs.Report.{full_report, report}

-- the report if no test stops early
pub plain_report : (job : Job) → job.setting.stop ≡ 0 → (draws : Draws) (outcomes : List Outcome)
    → report job outcomes [] (serial_observed job draws) ≡ full_report job draws outcomes
plain_report job plain draws outcomes =
    let stops : stops_of job outcomes ≡ [] = ap (λ (n : ℕ). stops_by n job outcomes) plain in
    sym (ap (λ (found : List (List ℕ)). report job outcomes found (serial_observed job draws)) stops)
