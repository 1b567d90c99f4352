-- The regions of the units, by the labels of one more column, or the first fault; and the ids of the units.
use Rattle.std.specs.Prelude.{ℕ, nat_lt, cond, List, [], ◌∷◌, Option, Some, None, is_none, unwrap_or, option_map, option_and_then, Result, Ok, Err}
use Rattle.std.specs.Str.{is_utf8}
use Rattle.serde_json.specs.Data.{null}
use Rattle.serde_json.specs.Read.{read}
use Rattle.audit_model.specs.declared.fault.Column.TheVariants.{District}
use Rattle.audit_model.specs.declared.fault.RegionFault.{RegionFault}
use Rattle.audit_model.specs.declared.fault.RegionFault.TheVariants.{Missing, BadLabel, TooMany}
use Rattle.audit_model.specs.declared.setting.Columns.{Columns}
use Rattle.audit_model.specs.declared.setting.Label.{Label}
use Rattle.audit_model.specs.declared.setting.Label.TheVariants.{Word}
use Rattle.audit_model.specs.Below.{map_below}
use Rattle.audit_model.specs.First.{first_some, first_below}
use Rattle.audit_statement.specs.Reading.{Document, document, node_count, node, id_of, label_of, cell, label_count, district_at, refused_if}
use Rattle.audit_model.specs.Limits.{most_regions}

-- the document of a text that is a graph
abbrev pub document_of : List ℕ → Document
document_of bytes = document (unwrap_or (cond (is_utf8 bytes) (read bytes) None) null)

-- ---- regions

-- the column in place of the district column: regions are read and numbered as districts are
abbrev pub as_districts : List ℕ → Columns
as_districts column = record { population = []; first = []; second = []; district = column; group = []; whole = []; frozen = []; length = [] }

module _ (read_of : Document) (column : List ℕ) where
  -- the first fault, in their order, each at its least node
  abbrev pub region_fault : Option RegionFault
  region_fault = first_some (
      option_map Missing (first_below (node_count read_of) (λ i. is_none (cell read_of (as_districts column) i District)))
      ∷ option_map BadLabel (first_below (node_count read_of) (λ i. is_none (option_and_then label_of (cell read_of (as_districts column) i District))))
      ∷ refused_if (nat_lt most_regions (label_count read_of (as_districts column))) (TooMany (label_count read_of (as_districts column)))
      ∷ [])

  -- the region of each unit
  abbrev pub regions : List ℕ
  regions = map_below (node_count read_of) (district_at read_of (as_districts column))

-- the regions, if there is no fault
abbrev pub regions_or : List ℕ → Option RegionFault → Result (List ℕ) RegionFault
regions_or numbers None = Ok numbers
regions_or numbers (Some f) = Err f

-- the regions of a text that is a graph, or the first fault
unfoldable pub region_reading : List ℕ → List ℕ → Result (List ℕ) RegionFault
region_reading bytes column = regions_or (regions (document_of bytes) column) (region_fault (document_of bytes) column)

-- the regions of the units, or none if no column is named
abbrev pub regions_by : List ℕ → List ℕ → Result (List ℕ) RegionFault
regions_by [] bytes = Ok []
regions_by (c ∷ column) bytes = region_reading bytes (c ∷ column)

-- ---- ids

-- the ids of the units in order
unfoldable pub id_reading : List ℕ → List Label
id_reading bytes = map_below (node_count (document_of bytes)) (λ i. unwrap_or (id_of (node (document_of bytes) i)) (Word []))
