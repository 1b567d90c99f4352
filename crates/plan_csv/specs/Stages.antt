-- The stages of reading a table, one definition per step of the code.
use Rattle.std.specs.Prelude.{◌≡◌, ◌<◌, ℕ, suc, ◌==◌, ◌||◌, Bool, not, List, [], ◌∷◌, length, slice_index, bytes_eq, Option, None, Some, option_map}
use Rattle.std.specs.Cmp.Lexicographic.{slice_cmp}
use Rattle.std.specs.Map.{lookup}
use Rattle.std.specs.Ordering.{is_eq, nat_cmp}
use Rattle.std.specs.List.{list_all, slice_index_or}
use Rattle.std.specs.Option.{is_none}
use Rattle.std.specs.Str.{is_utf8}
use Rattle.audit_model.specs.declared.fault.TableFault.{TableFault}
use Rattle.audit_model.specs.declared.fault.TableFault.TheVariants as fault
use Rattle.audit_model.specs.declared.plans.Assigned.{Assigned}
use Rattle.audit_model.specs.declared.setting.Label.{Label}
use Rattle.audit_model.specs.Below.{any_below, map_below}
use Rattle.audit_model.specs.First.{first_below, first_some}
use Rattle.audit_statement.specs.Table.{unit_text, names_unit, entry_of, shared_id, unknown_id, repeated_unit, missing_unit, refused_count, refusal, misses_header, too_many, bad_name, plan_name, label_count, label_in, label_of_district, district_in}
use Rattle.dual_json.specs.Districts.{AreDistricts}
use Rattle.dual_json.specs.Places.{nth}

-- a record has another number of fields, or a field that is not UTF-8
abbrev pub is_unread : ℕ → List (List ℕ) → Bool
is_unread columns row = not (length row == columns) || not (list_all is_utf8 row)

-- the fault of the first record that is unreadable or not `columns` wide
abbrev pub unread : ℕ → List (List (List ℕ)) → Option TableFault
unread columns rows = option_map fault.Unreadable (first_below (length rows) (λ r. is_unread columns (slice_index_or rows r [])))

-- ---- the units

-- the index finds the unit of each id text; `text` reads a key as a text
abbrev pub IsUnitIndex : {K : Type 0} → (K → List ℕ) → List Label → List (K × ℕ) → Type 0
IsUnitIndex {K} text ids entries = (q : List ℕ) → lookup (λ k. is_eq (slice_cmp nat_cmp q (text k))) entries ≡ first_below (length ids) (λ u. bytes_eq q (unit_text ids [] [] u))

-- the first unit with each record's id
pub record AreUnits (ids : List Label) (entries : List (List (List ℕ))) (units : List ℕ) : Type 0 where
  pub count : length units ≡ length entries
  pub each : (e : ℕ) → e < length entries → first_below (length ids) (names_unit ids [] entries e) ≡ Some (slice_index_or units e 0)

-- a record's unit is u
abbrev pub is_of : List ℕ → ℕ → ℕ → Bool
is_of units u e = slice_index_or units e 0 == u

-- the first record whose unit an earlier record has too
abbrev pub unit_repeated : List ℕ → Option TableFault
unit_repeated units = option_map (λ e. fault.Twice (suc e)) (first_below (length units) (λ e. any_below e (is_of units (slice_index_or units e 0))))

-- the first record of each unit
pub record AreFirstRecords (units : List ℕ) (count : ℕ) (places : List (Option ℕ)) : Type 0 where
  pub size : length places ≡ count
  pub each : (u : ℕ) → u < count → slice_index_or places u None ≡ first_below (length units) (is_of units u)

-- the first unit without a record
abbrev pub unnamed : List (Option ℕ) → Option TableFault
unnamed places = option_map fault.MissingUnit (first_below (length places) (λ u. is_none (slice_index_or places u None)))

-- the record of each unit
pub record AreThere (places : List (Option ℕ)) (records : List ℕ) : Type 0 where
  pub size : length records ≡ length places
  pub each : (u : ℕ) → u < length places → slice_index_or places u None ≡ Some (slice_index_or records u 0)

-- the faults of the ids and of the units
abbrev pub refused_units : List Label → List (List (List ℕ)) → Option TableFault
refused_units ids rows = first_some (shared_id ids [] rows ∷ unknown_id ids [] rows ∷ repeated_unit ids [] rows ∷ missing_unit ids [] rows ∷ [])

-- the record of each unit, by its id
pub record AreRecords (ids : List Label) (rows : List (List (List ℕ))) (records : List ℕ) : Type 0 where
  pub size : length records ≡ length ids
  pub each : (u : ℕ) → u < length ids → entry_of ids [] rows u ≡ slice_index_or records u 0
  pub under : (u : ℕ) → u < length ids → slice_index_or records u 0 < length rows

-- ---- the labels

-- the labels of a plan's column, record by record
pub record AreLabelsOf (rows : List (List (List ℕ))) (plan : ℕ) (labels : List Label) : Type 0 where
  pub count : length labels ≡ length rows
  pub each : (e : ℕ) → e < length rows → nth labels e ≡ label_in [] [] rows plan e

-- a plan with this name, whose labels are the distinct ones among the records' labels
pub record IsAssigned (name : List ℕ) (labels found : List Label) (records : List ℕ) (plan : Assigned) : Type 0 where
  pub named : plan.name ≡ name
  pub labelled : plan.labels ≡ found
  pub districts : List ℕ
  pub are : AreDistricts labels found districts
  pub start : plan.start ≡ map_below (length records) (λ u. slice_index districts (slice_index records u))

-- the plan of a column, given the record of each unit
abbrev pub assigned_by : List (List ℕ) → List (List (List ℕ)) → List ℕ → ℕ → Assigned
assigned_by header rows records plan = record {
  name = plan_name [] header [] plan;
  start = map_below (length records) (λ u. district_in [] [] rows plan (slice_index records u));
  labels = map_below (label_count [] [] rows plan) (label_of_district [] [] rows plan);
}

-- ---- all faults

-- the faults after the unreadable records
abbrev pub later : List Label → List (List ℕ) → List (List (List ℕ)) → Option TableFault
later ids header entries = first_some (
    misses_header ids header entries ∷ too_many ids header entries ∷ bad_name ids header entries ∷ shared_id ids header entries
    ∷ unknown_id ids header entries ∷ repeated_unit ids header entries ∷ missing_unit ids header entries ∷ refused_count ids header entries ∷ [])

-- the first fault of the records
abbrev pub refused : List Label → List (List (List ℕ)) → Option TableFault
refused ids [] = Some fault.NoHeader
refused ids (header ∷ entries) = refusal ids header entries
