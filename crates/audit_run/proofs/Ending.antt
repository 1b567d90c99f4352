-- From the result of the steps to the ending of the call.
use Rattle.std.proofs.Common.{◌≡◌, ℕ, List, Option, Some, None, sym, subst}
use Rattle.audit_model.specs.declared.setting.Columns.{Columns}
use Rattle.audit_statement.specs.Note.{Ending}
use Rattle.report.specs.declared.ended.Ended.{Ended}
use Rattle.report.specs.Ended.{ending_of, columns_kept}
use Rattle.audit_statement.specs.Status.{status_of, line_of}
use Rattle.audit_statement.specs.Endings.{EndsFor, WritesEnding, AddsLine}
use Rattle.audit_laws.specs.Calls.{RunsTo}
use Rattle.audit_model.specs.State.{Stream}
use Rattle.audit_statement.specs.World.{World}

-- the diagnostic with the columns that the code kept is that of the columns of the arguments
ending_same : (a b : Columns) (n m : Stream) (reason : Option Ending) → line_of a reason ≡ line_of b reason → WritesEnding b n m reason → WritesEnding a n m reason
ending_same a b n m None e t = t
ending_same a b n m (Some ending) e t = subst (λ (line : List ℕ). AddsLine n m line) (sym e) t

-- a call that ran to an end and wrote its diagnostic has a correct ending
pub ends_for : (words : List (List ℕ)) (before after : World) (n m : Stream) (status : ℕ) (why : Ended)
    → RunsTo words before after why → status ≡ status_of (ending_of why) → WritesEnding (columns_kept why) n m (ending_of why)
    → EndsFor words before after n m status
ends_for words before after n m status why r s t =
    record { reason = ending_of why; status_is = s; cause = r.cause; untouched = r.untouched; observed = ending_same _ _ n m (ending_of why) r.line_is t }
