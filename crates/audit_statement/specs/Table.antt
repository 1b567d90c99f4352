-- The plans of a table, or the first fault. The table is read as the crate `csv` reads by default, without a special
-- header: the first record is a title and the plans' names. Each further record has a unit's id and its label in each
-- plan. CSV is what the crate `csv` reads. Districts are counts; the code sorts labels and looks ids up.
use Rattle.std.specs.Prelude.{ℕ, suc, ◌-◌, ◌==◌, ◌&&◌, ◌||◌, Bool, not, cond, nat_lt, nat_le, List, [], ◌∷◌, length, bytes_eq, Option, Some, None, unwrap_or, option_map, Result, Ok, Err}
use Rattle.std.specs.Fmt.{signed_decimal}
use Rattle.std.specs.List.{after_first, before_first, list_all, slice_index_or}
use Rattle.std.specs.Str.{is_utf8}
use Rattle.csv.specs.Reading.{default_config, records, strip_bom}
use Rattle.audit_model.specs.declared.fault.TableFault.{TableFault}
use Rattle.audit_model.specs.declared.fault.TableFault.TheVariants as fault
use Rattle.audit_model.specs.declared.plans.Assigned.{Assigned}
use Rattle.audit_model.specs.declared.setting.Label.{Label}
use Rattle.audit_model.specs.declared.setting.Label.TheVariants.{Whole, Word}
use Rattle.audit_model.specs.Below.{any_below, count_below, map_below}
use Rattle.audit_model.specs.First.{first_some, first_below}
use Rattle.audit_model.specs.Label.{same_label, label_before}
use Rattle.audit_model.specs.Limits.{most_districts}

-- ---- the two parts of the input

-- the graph: the bytes before the first line feed, or all
abbrev pub graph_part : List ℕ → List ℕ
graph_part bytes = before_first (λ c. c == 10) bytes

-- the table: the bytes after it
abbrev pub table_part : List ℕ → List ℕ
table_part bytes = after_first (λ c. c == 10) bytes

-- ---- ids and names

-- an id as text
abbrev pub id_text : Label → List ℕ
id_text (Whole n) = signed_decimal n
id_text (Word t) = t

-- 1 to 100 printable ASCII characters, spaces among them
abbrev pub is_plan_name : List ℕ → Bool
is_plan_name name = nat_le 1 (length name) && nat_le (length name) 100 && list_all (λ c. nat_le 32 c && nat_le c 126) name

module _ (ids : List Label) (header : List (List ℕ)) (entries : List (List (List ℕ))) where
  -- the id of a unit as text
  abbrev pub unit_text : ℕ → List ℕ
  unit_text u = id_text (slice_index_or ids u (Word []))

  -- a field of a record after the header, both counted from 0
  abbrev pub field : ℕ → ℕ → List ℕ
  field entry place = slice_index_or (slice_index_or entries entry []) place []

  -- the number of plans
  abbrev pub plan_count : ℕ
  plan_count = length header - 1

  -- the name of a plan in the header
  abbrev pub plan_name : ℕ → List ℕ
  plan_name plan = slice_index_or header (suc plan) []

  -- a record names the unit
  abbrev pub names_unit : ℕ → ℕ → Bool
  names_unit entry u = bytes_eq (field entry 0) (unit_text u)

  -- the first record of the unit
  abbrev pub entry_of : ℕ → ℕ
  entry_of u = unwrap_or (first_below (length entries) (λ entry. names_unit entry u)) 0

  -- ---- the labels of a plan

  -- the label in a record
  abbrev pub label_in : ℕ → ℕ → Label
  label_in plan entry = Word (field entry (suc plan))

  -- no earlier record has the label
  abbrev pub is_new_label : ℕ → ℕ → Bool
  is_new_label plan entry = not (any_below entry (λ before. same_label (label_in plan before) (label_in plan entry)))

  -- the number of the plan's distinct labels
  abbrev pub label_count : ℕ → ℕ
  label_count plan = count_below (length entries) (is_new_label plan)

  -- the number of distinct labels before the record's
  abbrev pub district_in : ℕ → ℕ → ℕ
  district_in plan entry = count_below (length entries) (λ other. is_new_label plan other && label_before (label_in plan other) (label_in plan entry))

  -- the label of a district
  abbrev pub label_of_district : ℕ → ℕ → Label
  label_of_district plan d = unwrap_or (option_map (label_in plan) (first_below (length entries) (λ entry. district_in plan entry == d))) (Word [])

  -- the plan with its name, its distinct labels in rising order, and the index among these of the label in each unit's
  -- record
  abbrev pub assigned : ℕ → Assigned
  assigned plan = record {
    name = plan_name plan;
    start = map_below (length ids) (λ u. district_in plan (entry_of u));
    labels = map_below (label_count plan) (label_of_district plan);
  }

  -- ---- the faults, each at its least place

  -- a record has another number of fields than the first, or a field that is not UTF-8
  abbrev pub is_unreadable : List (List ℕ) → Bool
  is_unreadable row = not (length row == length header) || not (list_all is_utf8 row)

  -- the first record that is unreadable
  abbrev pub unreadable : Option TableFault
  unreadable = option_map fault.Unreadable (first_below (suc (length entries)) (λ r. is_unreadable (slice_index_or (header ∷ entries) r [])))

  -- two units have equal ids as text
  abbrev pub is_shared : ℕ → ℕ → Bool
  is_shared other one = bytes_eq (unit_text one) (unit_text other)

  -- the first unit whose id an earlier unit has, and that unit
  abbrev pub shared_id : Option TableFault
  shared_id = option_map
      (λ other. fault.SharedId (unwrap_or (first_below other (is_shared other)) 0) other)
      (first_below (length ids) (λ other. any_below other (is_shared other)))

  -- the first record with an unknown id; the header is record 0
  abbrev pub unknown_id : Option TableFault
  unknown_id = option_map (λ entry. fault.UnknownId (suc entry))
      (first_below (length entries) (λ entry. not (any_below (length ids) (names_unit entry))))

  -- the first record whose id an earlier record has
  abbrev pub repeated_unit : Option TableFault
  repeated_unit = option_map (λ entry. fault.Twice (suc entry))
      (first_below (length entries) (λ entry. any_below entry (λ before. bytes_eq (field before 0) (field entry 0))))

  -- the first unit that no record names
  abbrev pub missing_unit : Option TableFault
  missing_unit = option_map fault.MissingUnit
      (first_below (length ids) (λ u. not (any_below (length entries) (λ entry. names_unit entry u))))

  -- a plan has fewer than 2 districts, or too many
  abbrev pub is_miscounted : ℕ → Bool
  is_miscounted plan = nat_lt (label_count plan) 2 || nat_lt most_districts (label_count plan)

  -- the first such plan
  abbrev pub refused_count : Option TableFault
  refused_count = option_map (λ plan. fault.DistrictCount plan (label_count plan)) (first_below plan_count is_miscounted)

  -- there are more than 4096 plans
  abbrev pub too_many : Option TableFault
  too_many = cond (nat_lt 4096 plan_count) (Some (fault.TooManyPlans plan_count)) None

  -- the header names no plan
  abbrev pub misses_header : Option TableFault
  misses_header = cond (nat_lt (length header) 2) (Some fault.NoHeader) None

  -- the first plan without a usable name
  abbrev pub bad_name : Option TableFault
  bad_name = option_map fault.BadName (first_below plan_count (λ plan. not (is_plan_name (plan_name plan))))

  -- the first fault, in their order
  abbrev pub refusal : Option TableFault
  refusal = first_some (
      unreadable ∷ misses_header ∷ too_many ∷ bad_name ∷ shared_id ∷ unknown_id ∷ repeated_unit ∷ missing_unit ∷ refused_count ∷ [])

-- ---- the whole reading

-- the plans, if there is no fault
abbrev pub plans_or : List Assigned → Option TableFault → Result (List Assigned) TableFault
plans_or plans None = Ok plans
plans_or plans (Some f) = Err f

-- the plans of records, the first of them the header
abbrev pub of_rows : List Label → List (List (List ℕ)) → Result (List Assigned) TableFault
of_rows ids [] = Err fault.NoHeader
of_rows ids (header ∷ entries) = plans_or (map_below (plan_count ids header entries) (assigned ids header entries)) (refusal ids header entries)

-- the plans of a table over units with these ids, or the first fault
unfoldable pub table_reading : List ℕ → List Label → Result (List Assigned) TableFault
table_reading bytes ids = of_rows ids (records default_config (strip_bom bytes))
