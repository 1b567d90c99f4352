-- Constraints for the walkers of a job.
use Rattle.std.specs.Prelude.{List}
use Rattle.std.specs.List.{All}
use Rattle.audit_model.specs.Job.{Job}
use Rattle.flip_guard.specs.Judging.{Judging}
use Rattle.flip_kernel.specs.Judged.{IsJudgeFor}

-- each is a constraint for the job
abbrev pub AreJudges : {J : Type 0} → Job → (J → Judging) → List J → Type 0
AreJudges job by judges = All (λ judge. IsJudgeFor job (by judge)) judges
