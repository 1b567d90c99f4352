-- Consequences of the ending of a call.
use Rattle.std.specs.Prelude.{ℕ, List}
use Rattle.audit_statement.specs.Endings.{EndsFor}
use Rattle.audit_statement.specs.Promise.{KeepsItsPromise}
use Rattle.audit_model.specs.State.{Stream}
use Rattle.audit_statement.specs.World.{World}

-- the law that a call with a correct ending meets the contract of the top call
abbrev pub EndedCallsKeepTheirPromise : Type 0
EndedCallsKeepTheirPromise = (words : List (List ℕ)) (before after : World) (n m : Stream) (status : ℕ) → EndsFor words before after n m status → KeepsItsPromise words before after n m status
