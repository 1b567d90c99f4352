-- The ending of a call before its diagnostic, as its steps pass it on.
use Rattle.std.specs.Prelude.{◌≡◌, ℕ, List}
use Rattle.audit_model.specs.Job.{Job}
use Rattle.report.specs.declared.ended.Ended.{Ended}
use Rattle.audit_statement.specs.Accepted.{columns_of}
use Rattle.report.specs.Ended.{ending_of, columns_kept}
use Rattle.audit_statement.specs.Status.{line_of}
use Rattle.audit_statement.specs.Endings.{Cause, LeavesUntouched, marks_of, IsPrepared}
use Rattle.audit_model.specs.State.{KeeperState, Stream}
use Rattle.audit_statement.specs.World.{World, world}

-- a call that ended for this reason, before its diagnostic
pub record RunsTo (words : List (List ℕ)) (before after : World) (why : Ended) : Type 0 where
  pub cause : Cause words before after (ending_of why)
  pub untouched : LeavesUntouched words before after (marks_of (ending_of why))
  pub line_is : line_of (columns_of words) (ending_of why) ≡ line_of (columns_kept why) (ending_of why)

-- the rest of a call with this job ends for this reason, whatever was read for it
abbrev pub Finishes : Job → Stream → Stream → KeeperState → KeeperState → Ended → Type 0
Finishes job out_before out_after kept_before kept_after why =
    (words : List (List ℕ)) (before after : Stream) → IsPrepared words before after job
    → RunsTo words (world before out_before kept_before) (world after out_after kept_after) why
