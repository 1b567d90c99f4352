-- Data shared by the jobs of several plans.
use Rattle.std.specs.Prelude.{ℕ, ◌<◌, List, length}
use Rattle.std.specs.List.{All}
use Rattle.audit_model.specs.declared.rules.Group.{Group}
use Rattle.audit_model.specs.declared.setting.Setting.{Setting}
use Rattle.plan_csv.specs.declared.named.Named.{Named}
use Rattle.plan_csv.specs.Named.{IsOneOf}

-- there is at least one job, and all share this setting, the regions, the group and the frozen units
pub record AreShared (setting : Setting) (named : List Named) : Type 0 where
  pub some : 0 < length named
  pub regions : List ℕ
  pub group : Group
  pub frozen : List ℕ
  pub each : All (IsOneOf setting regions group frozen) named
