-- The grid that accepted arguments ask for.
use Rattle.std.proofs.Common.{◌≡◌, ℕ, ◌≤◌, ◌&&◌, true, false, List, [], Option, Some, None, Ok, refl, sym, subst, ap}
use Rattle.std.specs.Prelude.{nat_le, unwrap_or, option_map}
use Rattle.std.proofs.lemmas.Bool.{and_parts, leb-true}
use Rattle.audit_model.specs.declared.fault.Name.TheVariants.{Size}
use Rattle.audit_model.specs.declared.setting.Command.{Command}
use Rattle.audit_model.specs.declared.setting.Command.TheVariants.{Check, Run, Make, Plans, Trace}
use Rattle.audit_model.specs.declared.setting.Setting.{Setting}
use Rattle.audit_statement.specs.Words.{NameAndValue, text_of, number_of, fault_of, setting_for, setting_of}
use Rattle.grid_maker.specs.Columns.{grid_columns}
use Rattle.audit_start.specs.Steps.{IsMaking}
use Rattle.audit_laws.proofs.Words.{accepted_words, good}

-- a number that passed the test is from 1 to 30
bounded : (o : Option ℕ) → unwrap_or (option_map (λ n. nat_le 1 n && nat_le n 30) o) false ≡ true → (1 ≤ unwrap_or o 0) × (unwrap_or o 0 ≤ 30)
bounded None h = cc
bounded (Some n) h = let p = and_parts (nat_le 1 n) (nat_le n 30) h in (leb-true 1 n p.0, leb-true n 30 p.1)

-- the arguments of a grid are accepted only with a size from 1 to 30
sized_by : (command : Command) (words : List NameAndValue) (setting : Setting) → fault_of command words ≡ None
    → setting_for command words ≡ setting → setting.command ≡ Make → (1 ≤ setting.size) × (setting.size ≤ 30)
sized_by Check words setting faultless same make =
    let check : Check ≡ setting.command = ap (λ (s : Setting). s.command) same in cc
sized_by Plans words setting faultless same make =
    let plans : Plans ≡ setting.command = ap (λ (s : Setting). s.command) same in cc
sized_by Trace words setting faultless same make =
    let trace : Trace ≡ setting.command = ap (λ (s : Setting). s.command) same in cc
sized_by Run words setting faultless same make =
    let run : Run ≡ setting.command = ap (λ (s : Setting). s.command) same in cc
sized_by Make words setting faultless same make =
    subst (λ (n : ℕ). (1 ≤ n) × (n ≤ 30)) (ap (λ (s : Setting). s.size) same) (bounded (number_of (text_of Make words Size)) (good Make words 0 Size faultless refl))

-- the setting of a grid names its own columns, no regions and no origin
made_by : (command : Command) (words : List NameAndValue) (setting : Setting) → setting_for command words ≡ setting → setting.command ≡ Make
    → (setting.columns ≡ grid_columns) × (setting.region ≡ []) × (setting.source ≡ false)
made_by Check words setting same make =
    let check : Check ≡ setting.command = ap (λ (s : Setting). s.command) same in cc
made_by Plans words setting same make =
    let plans : Plans ≡ setting.command = ap (λ (s : Setting). s.command) same in cc
made_by Trace words setting same make =
    let trace : Trace ≡ setting.command = ap (λ (s : Setting). s.command) same in cc
made_by Run words setting same make =
    let run : Run ≡ setting.command = ap (λ (s : Setting). s.command) same in cc
made_by Make words setting same make =
    (sym (ap (λ (s : Setting). s.columns) same), sym (ap (λ (s : Setting). s.region) same), sym (ap (λ (s : Setting). s.source) same))

-- the grid that accepted arguments ask for has a size from 1 to 30, its own columns, no regions and no origin
pub accepted_grid : (words : List (List ℕ)) (setting : Setting) → setting_of words ≡ Ok setting → setting.command ≡ Make → IsMaking setting
accepted_grid words setting e make =
    let s = accepted_words words setting e in
    let parts = made_by s.command s.words setting s.same make in
    record { size = sized_by s.command s.words setting s.faultless s.same make; columns = parts.0; region = parts.1; no_source = parts.2 }
