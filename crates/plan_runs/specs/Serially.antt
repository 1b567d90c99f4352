-- The walker of a run's serial test.
use Rattle.std.specs.Prelude.{◌≡◌, Bool, true, false, ⊤, Option, Some, None}
use Rattle.audit_model.specs.Job.{Job}
use Rattle.flip_kernel.specs.ChainState.{ChainState}

-- there is a walker of the job exactly if the test was requested
abbrev pub IsTesterBy : Bool → Job → Option ChainState → Type 0
IsTesterBy false job None = ⊤
IsTesterBy false job (Some w) = ⊥
IsTesterBy true job None = ⊥
IsTesterBy true job (Some w) = w.job ≡ job

abbrev pub IsTester : Job → Option ChainState → Type 0
IsTester job tester = IsTesterBy job.setting.serial job tester
