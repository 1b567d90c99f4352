-- The parts of the outside that a call leaves unchanged, by its status and its arguments.
use Rattle.std.specs.Prelude.{◌≡◌, ◌≢◌, ℕ, List, IsFalse, Ok, IsErr}
use Rattle.audit_model.specs.declared.setting.Setting.{Setting}
use Rattle.audit_statement.specs.Words.{setting_of}
use Rattle.audit_statement.specs.Endings.{is_reading, saves, loads}
use Rattle.audit_statement.specs.World.{World}

-- A refusal, a failed read or load and out of memory write nothing and attempt no save. Nothing is written if work is
-- left. Refused arguments, and commands that do not read, leave the source. Commands that do not save or load leave the
-- slots and the keeper's counts.
pub record LeavesAlone (words : List (List ℕ)) (before after : World) (status : ℕ) : Type 0 where
  pub unwritten : status ≢ 0 → status ≢ 5 → status ≢ 9 → after.out.bytes ≡ before.out.bytes
  pub unsaved : status ≢ 0 → status ≢ 5 → status ≢ 7 → status ≢ 9 → after.keeper.slots ≡ before.keeper.slots
  pub no_attempt : status ≢ 0 → status ≢ 5 → status ≢ 7 → status ≢ 9 → after.keeper.attempted ≡ before.keeper.attempted
  pub refused_words : IsErr (setting_of words) → after.source ≡ before.source
  pub not_reading : (setting : Setting) → setting_of words ≡ Ok setting → IsFalse (is_reading setting.command) → after.source ≡ before.source
  pub not_saving : (setting : Setting) → setting_of words ≡ Ok setting → IsFalse (saves setting)
      → (after.keeper.slots ≡ before.keeper.slots) × (after.keeper.save_faults ≡ before.keeper.save_faults) × (after.keeper.attempted ≡ before.keeper.attempted)
  pub not_loading : (setting : Setting) → setting_of words ≡ Ok setting → IsFalse (loads setting) → after.keeper.load_faults ≡ before.keeper.load_faults
