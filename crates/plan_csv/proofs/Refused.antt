-- The faults of the ids and units, in their order.
use Rattle.std.proofs.Common.{◌≡◌, ℕ, List, [], length, Option, Some, None, ap, ◌∙◌}
use Rattle.std.specs.Option.{option_or}
use Rattle.audit_model.specs.declared.fault.TableFault.{TableFault}
use Rattle.audit_model.specs.declared.setting.Label.{Label}
use Rattle.audit_statement.specs.Table.{shared_id, unknown_id, repeated_unit, missing_unit}
use Rattle.plan_csv.specs.Stages.{AreUnits, AreFirstRecords, AreThere, AreRecords, unit_repeated, unnamed, refused_units}
use Rattle.plan_csv.proofs.Bridge.{repeated_is, missing_is, entry_is, entry_under}

module _ (ids : List Label) (rows : List (List (List ℕ))) (shared : shared_id ids [] [] ≡ None) (unknown : unknown_id ids [] rows ≡ None) (units : List ℕ) (are : AreUnits ids rows units) where
  past_two : refused_units ids rows ≡ option_or (repeated_unit ids [] rows) (option_or (missing_unit ids [] rows) None)
  past_two =
      ap (λ o. option_or o (option_or (unknown_id ids [] rows) (option_or (repeated_unit ids [] rows) (option_or (missing_unit ids [] rows) None)))) shared
      ∙ ap (λ o. option_or o (option_or (repeated_unit ids [] rows) (option_or (missing_unit ids [] rows) None))) unknown

  pub twice_first : (f : TableFault) → unit_repeated units ≡ Some f → refused_units ids rows ≡ Some f
  twice_first f e = past_two ∙ ap (λ o. option_or o (option_or (missing_unit ids [] rows) None)) (repeated_is ids rows units are ∙ e)

  module _ (once : unit_repeated units ≡ None) (places : List (Option ℕ)) (placed : AreFirstRecords units (length ids) places) where
    past_three : refused_units ids rows ≡ option_or (unnamed places) None
    past_three =
        past_two ∙ ap (λ o. option_or o (option_or (missing_unit ids [] rows) None)) (repeated_is ids rows units are ∙ once)
        ∙ ap (λ o. option_or o None) (missing_is ids rows units are shared places placed)

    pub missing_first : (f : TableFault) → unnamed places ≡ Some f → refused_units ids rows ≡ Some f
    missing_first f e = past_three ∙ ap (λ o. option_or o None) e

    pub none_refused : unnamed places ≡ None → refused_units ids rows ≡ None
    none_refused e = past_three ∙ ap (λ o. option_or o None) e

    pub all_records : (records : List ℕ) → AreThere places records → AreRecords ids rows records
    all_records records have = record {
      size = have.size ∙ placed.size;
      each = λ u l. entry_is ids rows units are shared places placed records have u l;
      under = λ u l. entry_under ids rows units are shared places placed records have u l;
    }
