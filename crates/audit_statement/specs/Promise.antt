-- The promise of the top call for one call, from its arguments and the outside before and after it; the headline comes
-- first. `ends` says everything about how a call ended, for each reason. `written`, `early`, `causes`, `complete` and
-- `left_alone` follow from it: they restate it by statuses and observable facts, without the reason. `chain` and
-- `attempted` follow from it and from the laws on slots. `legal` follows from what is accepted.
use Rattle.std.specs.Prelude.{ℕ, List}
use Rattle.audit_statement.specs.Causes.{HasCauses, IsComplete}
use Rattle.audit_statement.specs.Chain.{StaysConsistent, AttemptedRightly}
use Rattle.audit_statement.specs.Early.{EndsEarly}
use Rattle.audit_statement.specs.Endings.{EndsFor}
use Rattle.audit_statement.specs.Headline.{WritesWhole}
use Rattle.audit_statement.specs.Left.{LeavesAlone}
use Rattle.audit_statement.specs.Visits.{VisitsLegal}
use Rattle.audit_model.specs.State.{Stream}
use Rattle.audit_statement.specs.World.{World}

-- With status 0, the report of one thread was written, with early-stopping tests at their places. Every visited plan is
-- legal. From consistent slots, a run resumes rightly and leaves consistent slots, and each save attempt is right. The
-- call ended for a reason, which the diagnostic says. Each status comes exactly when it must, and the rest is
-- unchanged.
pub record KeepsItsPromise (words : List (List ℕ)) (before after : World) (note_before note_after : Stream) (status : ℕ) : Type 0 where
  pub written : WritesWhole words before after status
  pub early : EndsEarly words before after status
  pub legal : VisitsLegal words before.source.bytes
  pub chain : StaysConsistent words before after status
  pub attempted : AttemptedRightly words before after status
  pub ends : EndsFor words before after note_before note_after status
  pub causes : HasCauses words before after status
  pub complete : IsComplete words before after status
  pub left_alone : LeavesAlone words before after status
