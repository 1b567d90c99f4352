-- Arguments and JSON determine one report.
use Rattle.std.specs.Prelude.{◌≡◌, ℕ, Bool, List, codes}
use Rattle.serde_json.specs.Data.{Data}
use Rattle.audit_model.specs.Job.{Job}
use Rattle.audit_statement.specs.Draw.{draw}
use Rattle.audit_statement.specs.Given.{IsGiven}
use Rattle.audit_statement.specs.Valid.{IsValid}
use Rattle.audit_statement.specs.Plain.{Decides, plain_report}
use Rattle.audit_statement.specs.PlainArguments.{SettingMatches, IsNotGiven}

-- the arguments say the job's setting and name no lengths, the JSON gives the job, its start plan is valid, and the test
-- passes exactly its valid plans
pub record IsSuch (words : List (List ℕ)) (root : Data) (job : Job) (valid : List ℕ → Bool) : Type 0 where
  pub set : SettingMatches words job.setting
  pub no_lengths : IsNotGiven words (codes "--length")
  pub given : IsGiven root job
  pub start : IsValid job job.start
  pub decides : Decides job valid

-- the law that two such jobs have the same report
abbrev pub ReportsAreOne : Type 0
ReportsAreOne = (words : List (List ℕ)) (root : Data) (a b : Job) (p q : List ℕ → Bool) → IsSuch words root a p → IsSuch words root b q
    → (bytes : List ℕ) → plain_report a p (draw a.setting.key) bytes ≡ plain_report b q (draw b.setting.key) bytes
