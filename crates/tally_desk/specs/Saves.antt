-- The last save of a run that saves while it walks.
use Rattle.std.specs.Prelude.{◌≡◌, true, false, Result, is_ok}
use Rattle.audit_io.specs.declared.source.Failed.{Failed}
use Rattle.audit_model.specs.State.{KeeperState}
use Rattle.ckpt_store.specs.Saved.{SavesThese}
use Rattle.tally_desk.specs.declared.state.RunState.{RunState}
use Rattle.tally_desk.specs.Entries.{ends_saved}

-- nothing is done if the last post saved, and otherwise a last save is made
pub record MakesLastSave {C : Type 0} (state : C → KeeperState) (before now : RunState C) (result : Result (Unit {0}) Failed) : Type 0 where
  pub failed : now.failed_saves ≡ before.failed_saves
  pub saved : ends_saved before.posted.items ≡ true → (now.keeper ≡ before.keeper) × (is_ok result ≡ true)
  pub unsaved : ends_saved before.posted.items ≡ false → SavesThese state before.keeper now.keeper before.place before.digest now.sorted.items result
