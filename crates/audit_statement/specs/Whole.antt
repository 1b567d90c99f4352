-- The promise of the top call, for all arguments.
use Rattle.std.specs.Prelude.{◌≡◌, ℕ, true, false, List}
use Rattle.audit_statement.specs.Promise.{KeepsItsPromise}
use Rattle.audit_statement.specs.Several.{KeepsPlansPromise, names_plans}
use Rattle.audit_model.specs.State.{Stream}
use Rattle.audit_statement.specs.World.{World}

-- the promise for one plan, which also covers refused arguments, or the promise for several plans if the command asks
-- for them
pub record KeepsEachPromise (words : List (List ℕ)) (before after : World) (note_before note_after : Stream) (status : ℕ) : Type 0 where
  pub one : names_plans words ≡ false → KeepsItsPromise words before after note_before note_after status
  pub several : names_plans words ≡ true → KeepsPlansPromise words before after note_before note_after status
