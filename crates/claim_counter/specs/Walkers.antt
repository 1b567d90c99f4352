-- Predicates on walkers, by their current plan.
use Rattle.std.specs.Prelude.{◌≡◌, List}
use Rattle.std.specs.List.{All}
use Rattle.audit_model.specs.Job.{Job}
use Rattle.flip_kernel.specs.ChainState.{ChainState}

-- a walker of the job
abbrev pub IsWalker : Job → ChainState → Type 0
IsWalker job w = w.job ≡ job

abbrev pub AreWalkers : Job → List ChainState → Type 0
AreWalkers job walkers = All (IsWalker job) walkers
