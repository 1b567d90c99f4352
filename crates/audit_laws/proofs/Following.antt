-- Consequences of the ending of a call.
use Rattle.std.proofs.Common.{ℕ, List}
use Rattle.audit_statement.specs.Causes.{HasCauses, IsComplete}
use Rattle.audit_statement.specs.Early.{EndsEarly}
use Rattle.audit_statement.specs.Endings.{EndsFor}
use Rattle.audit_statement.specs.Headline.{WritesWhole}
use Rattle.audit_statement.specs.Left.{LeavesAlone}
use Rattle.audit_model.specs.State.{Stream}
use Rattle.audit_statement.specs.World.{World}
use Rattle.audit_laws.proofs.Alone.{leaves_alone}
use Rattle.audit_laws.proofs.Causing.{is_complete}
use Rattle.audit_laws.proofs.OneThread.{writes_whole}
use Rattle.audit_laws.proofs.Promised.{ends_early}
use Rattle.audit_laws.proofs.Statuses.{has_causes}

pub record Follows (words : List (List ℕ)) (before after : World) (status : ℕ) : Type 0 where
  pub written : WritesWhole words before after status
  pub causes : HasCauses words before after status
  pub complete : IsComplete words before after status
  pub left_alone : LeavesAlone words before after status
  pub early : EndsEarly words before after status

-- the ending of a call follows from its input and its faults
pub follows : (words : List (List ℕ)) (before after : World) (n m : Stream) (status : ℕ) → EndsFor words before after n m status → Follows words before after status
follows words before after n m status e = record {
  written = writes_whole words before after n m status e;
  causes = has_causes words before after n m status e;
  complete = is_complete words before after n m status e;
  left_alone = leaves_alone words before after n m status e;
  early = ends_early words before after n m status e (writes_whole words before after n m status e) (leaves_alone words before after n m status e);
}
