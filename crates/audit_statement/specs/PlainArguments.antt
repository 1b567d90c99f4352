-- The meaning of plain arguments. This project's arguments: `run`, then an option and its value in turn.
use Rattle.std.specs.Prelude.{◌≡◌, ℕ, ◌^◌, ◌<◌, List, [], ◌∷◌, codes, cond, decimal, bytes_eq, map, Ok}
use Rattle.std.specs.List.{All}
use Rattle.hex.specs.Hex.{decode_sized}
use Rattle.audit_model.specs.declared.setting.Setting.{Setting}
use Rattle.audit_statement.specs.Words.{ask_text, parts_between}

-- the value that the arguments give an option, or the other value if they do not give it
abbrev pub given_or : List (List ℕ) → List ℕ → List ℕ → List ℕ
given_or [] name other = other
given_or (word ∷ []) name other = other
given_or (word ∷ value ∷ rest) name other = cond (bytes_eq word name) value (given_or rest name other)

-- they do not give it
abbrev pub IsNotGiven : List (List ℕ) → List ℕ → Type 0
IsNotGiven words name = (other : List ℕ) → given_or words name other ≡ other

-- The arguments give none of the optional features: resuming, early stopping, the serial test, histograms, regions, a
-- limit on cut edges, a group, frozen units, lengths of edges, pairs of walks, a weight on cut edges, a text without
-- scores. Saves and parts need no mention: a run ends with status 0 only if all its trajectories are walked.
abbrev pub ArePlain : List (List ℕ) → Type 0
ArePlain words = All (IsNotGiven words) (
    codes "--resume" ∷ codes "--stop" ∷ codes "--serial" ∷ codes "--shift" ∷ codes "--region" ∷ codes "--max-cut"
    ∷ codes "--group" ∷ codes "--freeze" ∷ codes "--length" ∷ codes "--pairs" ∷ codes "--cut-weight" ∷ codes "--blind" ∷ [])

-- the text is the digits of the number; `decimal` keeps the last 64 digits only
abbrev pub IsSpelled : List ℕ → ℕ → Type 0
IsSpelled text n = (decimal n ≡ text) × (n < 2 ^ 64)

-- the setting is what the arguments say: column keys, a 32-byte key in hexadecimal, decimal numbers, and asks between
-- commas
pub record SettingMatches (words : List (List ℕ)) (setting : Setting) : Type 0 where
  pub population : setting.columns.population ≡ given_or words (codes "--pop") []
  pub first : setting.columns.first ≡ given_or words (codes "--first") []
  pub second : setting.columns.second ≡ given_or words (codes "--second") []
  pub district : setting.columns.district ≡ given_or words (codes "--district") []
  pub length : setting.columns.length ≡ given_or words (codes "--length") []
  pub slack : IsSpelled (given_or words (codes "--slack") (codes "500")) setting.slack
  pub key : decode_sized (given_or words (codes "--key") []) 32 ≡ Ok setting.key
  pub walks : IsSpelled (given_or words (codes "--walks") (codes "1")) setting.walks
  pub steps : IsSpelled (given_or words (codes "--steps") (codes "1000")) setting.steps
  pub ends : IsSpelled (given_or words (codes "--ends") (codes "0")) setting.ends
  pub hub_steps : IsSpelled (given_or words (codes "--hub-steps") (codes "1000")) setting.hub_steps
  pub source : setting.source ≡ bytes_eq (given_or words (codes "--source") (codes "no")) (codes "yes")
  pub asks : map ask_text setting.asks ≡ parts_between 44 (given_or words (codes "--ask") [])
