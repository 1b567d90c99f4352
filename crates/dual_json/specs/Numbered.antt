-- Regions of the units of a graph's text, numbered by their labels.
use Rattle.std.specs.Prelude.{◌≡◌, ℕ, ◌≤◌, List, length, Option, Ok, is_none}
use Rattle.serde_json.specs.Data.{Data}
use Rattle.serde_json.specs.Find.{get as member}
use Rattle.audit_model.specs.declared.setting.Columns.{Columns}
use Rattle.audit_model.specs.declared.setting.Label.{Label}
use Rattle.audit_model.specs.First.{first_below}
use Rattle.audit_model.specs.Parsed.{Parsed}
use Rattle.audit_statement.specs.Reading.{reading}
use Rattle.dual_json.specs.Districts.{AreDistricts}
use Rattle.dual_json.specs.Places.{object_at}
use Rattle.audit_model.specs.Limits.{most_regions}

-- the text is accepted as a graph, for some columns
pub record IsGraphText (bytes : List ℕ) : Type 0 where
  pub columns : Columns
  pub parsed : Parsed
  pub accepted : reading bytes columns ≡ Ok parsed

-- the first object without the key
abbrev pub first_without : List ℕ → List Data → Option ℕ
first_without key objects = first_below (length objects) (λ i. is_none (member key (object_at objects i)))

-- the index of each label among the distinct ones in rising order, of which there are at most 5,000
pub record AreNumbered (labels : List Label) (regions : List ℕ) : Type 0 where
  pub found : List Label
  pub districts : AreDistricts labels found regions
  pub few : length found ≤ most_regions
