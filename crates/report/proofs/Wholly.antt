-- The report is the join of its parts.
use Rattle.std.proofs.Common.{◌≡◌, ℕ, List, true, false, ap, sym}
use Rattle.std.specs.Prelude.{Option}
use Rattle.audit_model.specs.declared.outcome.Outcome.{Outcome}
use Rattle.audit_model.specs.Job.{Job}
use Rattle.audit_statement.specs.Report.{blind_report, report, report_by}
use Rattle.report.specs.Parts.{report_by_parts}

-- a blind report is the lines of the head and of the moves
pub report_is_blind : (job : Job) (os : List Outcome) (stops : List (List ℕ)) (serial : Option (ℕ × List ℕ)) → job.setting.blind ≡ true
    → blind_report job os ≡ report job os stops serial
unfolding report
report_is_blind job os stops serial blind = sym (ap (λ b. report_by b job os stops serial) blind)

-- any other report equals the join of its parts
pub report_is_whole : (job : Job) (os : List Outcome) (stops : List (List ℕ)) (serial : Option (ℕ × List ℕ)) → job.setting.blind ≡ false
    → report_by_parts job os stops serial ≡ report job os stops serial
unfolding report
report_is_whole job os stops serial shown = sym (ap (λ b. report_by b job os stops serial) shown)
