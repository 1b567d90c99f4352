-- The contract of the top call implies the plain statement.
use Rattle.std.specs.Prelude.{ℕ, List}
use Rattle.audit_model.specs.State.{Stream}
use Rattle.audit_statement.specs.Whole.{KeepsEachPromise}
use Rattle.audit_statement.specs.World.{World}
use Rattle.audit_statement.specs.Audited.{AuditsPlainly}
use Rattle.audit_statement.specs.PlainlyEnded.{EndsPlainly}

-- the law that such a call has done what the plain statement says
abbrev pub PromisedCallsAuditPlainly : Type 0
PromisedCallsAuditPlainly = (words : List (List ℕ)) (before after : World) (note_before note_after : Stream) (status : ℕ)
    → KeepsEachPromise words before after note_before note_after status
    → AuditsPlainly words before.source.bytes before.out.bytes after.out.bytes status

-- the law that such a call ends well if it can
abbrev pub PromisedCallsEndPlainly : Type 0
PromisedCallsEndPlainly = (words : List (List ℕ)) (before after : World) (note_before note_after : Stream) (status : ℕ)
    → KeepsEachPromise words before after note_before note_after status → EndsPlainly words before after status
