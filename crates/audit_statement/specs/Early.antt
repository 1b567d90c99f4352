-- A call whose arguments ask for tests that stop early.
use Rattle.std.specs.Prelude.{◌≡◌, ℕ, ◌<◌, ◌≤◌, List, Ok}
use Rattle.audit_model.specs.declared.setting.Setting.{Setting}
use Rattle.audit_model.specs.Job.{Job}
use Rattle.audit_statement.specs.Words.{setting_of}
use Rattle.audit_statement.specs.Causes.{IsTheJob}
use Rattle.audit_statement.specs.Headline.{WritesOneThreads}
use Rattle.audit_statement.specs.World.{World}

-- If tests stop early: with status 0 the report of one thread was written. It gives each test's stopping place among
-- the endpoints by rising id and its p-value there, however many endpoints were walked beyond. The keeper is unchanged,
-- and no status is above 5.
pub record EndsEarly (words : List (List ℕ)) (before after : World) (status : ℕ) : Type 0 where
  pub written : (job : Job) → IsTheJob words before job → 1 ≤ job.setting.stop → status ≡ 0 → WritesOneThreads job before after
  pub kept : (setting : Setting) → setting_of words ≡ Ok setting → 1 ≤ setting.stop → after.keeper ≡ before.keeper
  pub never : (setting : Setting) → setting_of words ≡ Ok setting → 1 ≤ setting.stop → status < 6
