-- Plans of one graph and one setting.
use Rattle.std.specs.Prelude.{List}
use Rattle.std.specs.List.{All}
use Rattle.audit_model.specs.declared.setting.Setting.{Setting}
use Rattle.plan_csv.specs.declared.named.Named.{Named}
use Rattle.plan_csv.specs.Shared.{AreShared}
use Rattle.plan_runs.specs.Plans.{RunsAlone}

-- plans of one graph and one setting, each a run that saves nothing and does not resume
pub record MayRunTogether (named : List Named) : Type 0 where
  pub setting : Setting
  pub shared : AreShared setting named
  pub alone : All (λ n. RunsAlone n.job) named
