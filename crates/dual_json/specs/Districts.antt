-- Districts of the start plan.
use Rattle.std.specs.Prelude.{◌≡◌, ℕ, ◌<◌, ◌≤◌, ◌||◌, Bool, nat_lt, not, true, List, length, slice_index, Option}
use Rattle.std.specs.List.{Any, Contains}
use Rattle.std.specs.List.Sorted.{IsStrictlySortedBy}
use Rattle.std.specs.declared.cmp.Ordering.TheVariants.{Less}
use Rattle.audit_model.specs.declared.fault.GraphFault.{GraphFault}
use Rattle.audit_model.specs.declared.fault.GraphFault.TheVariants as fault
use Rattle.audit_model.specs.declared.setting.Label.{Label}
use Rattle.audit_model.specs.Below.{any_below, count_below}
use Rattle.audit_model.specs.Label.{label_cmp, same_label}
use Rattle.audit_statement.specs.Reading.{refused_if}
use Rattle.dual_json.specs.Names.{name_cmp, same_name}
use Rattle.dual_json.specs.Places.{nth}
use Rattle.dual_json.specs.declared.names.NodeName.{NodeName}
use Rattle.audit_model.specs.Limits.{most_districts}

-- the distinct names of a list, in rising order
pub record AreDifferent (names found : List NodeName) : Type 0 where
  pub rising : IsStrictlySortedBy name_cmp found
  pub from : (x : NodeName) → Contains found x → Contains names x
  pub to : (x : NodeName) → Contains names x → Any (λ y. same_name x y ≡ true) found
  pub short : length found ≤ length names

-- the distinct labels of a list in rising order, and the index of each label among them
pub record AreDistricts (labels found : List Label) (start : List ℕ) : Type 0 where
  pub rising : (i j : ℕ) → i < j → j < length found → label_cmp (nth found i) (nth found j) ≡ Less
  pub from : (k : ℕ) → k < length found → (i : ℕ) × (i < length labels) × (nth found k ≡ nth labels i)
  pub count : length start ≡ length labels
  pub inside : (i : ℕ) → i < length labels → slice_index start i < length found
  pub place : (i : ℕ) → i < length labels → nth found (slice_index start i) ≡ nth labels i

-- the fault of too few or too many districts
abbrev pub district_count_fault : ℕ → Option GraphFault
district_count_fault count = refused_if (nat_lt count 2 || nat_lt most_districts count) (fault.DistrictCount count)

-- no earlier label is equal
abbrev pub is_new : List Label → ℕ → Bool
is_new labels i = not (any_below i (λ j. same_label (nth labels j) (nth labels i)))

-- the number of distinct labels
abbrev pub different_count : List Label → ℕ
different_count labels = count_below (length labels) (is_new labels)
