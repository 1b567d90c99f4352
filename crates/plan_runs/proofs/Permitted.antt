-- The texts of a run that a sink permits.
use Rattle.std.proofs.Common.{◌∙◌, ◌≤◌, List, ap, sym}
use Rattle.audit_model.specs.declared.outcome.Outcome.{Outcome}
use Rattle.audit_model.specs.Job.{Job}
use Rattle.audit_model.specs.Serially.{serial_observed}
use Rattle.audit_model.specs.State.{Stream}
use Rattle.audit_statement.specs.Draw.{draw}
use Rattle.audit_statement.specs.Report.{full_report, report}
use Rattle.audit_statement.specs.DueText.{LetsBytes, LetsReport, LetsText}
use Rattle.report.specs.Outcomes.{reported}
use Rattle.report.proofs.Letting.{lets_as}
use Rattle.audit_laws.proofs.Running.{whole_leaves}
use Rattle.plan_runs.specs.declared.found.Found.{Found}
use Rattle.plan_runs.specs.Found.{HasFound, listed_in, observed_in}

-- the report on what was found is the due one, if nothing that it covers is missing
pub report_permitted : {lets : LetsBytes} (job : Job) (initial_outcomes : List Outcome) (f : Found) (out : Stream) → LetsReport lets job out initial_outcomes
    → HasFound job initial_outcomes f → reported job ≤ f.listed
    → LetsText lets out (report job (listed_in f) (observed_in f) (serial_observed job (draw job.setting.key)))
report_permitted job initial_outcomes f out due has whole =
    let found = has.whole whole in
    lets_as (due (whole_leaves job initial_outcomes found.outcomes found.all found.whole))
    (sym (found.same ∙ ap (λ (os : List Outcome). full_report job (draw job.setting.key) os) found.all.full))
