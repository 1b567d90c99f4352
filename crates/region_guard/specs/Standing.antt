-- The counts of a constraint, and the plan that they describe.
use Rattle.std.specs.Prelude.{◌≡◌, ℕ, ◌+◌, ◌-◌, ◌*◌, ◌<◌, ◌≤◌, ◌==◌, ◌&&◌, ◌||◌, Bool, true, not, nat_le, nat_lt, List, length, slice_index, slice_set}
use Rattle.audit_model.specs.declared.rules.Group.{Group}
use Rattle.audit_model.specs.declared.rules.Rules.{Rules}
use Rattle.audit_model.specs.Below.{above_all, count_below, sum_below}
use Rattle.audit_model.specs.District.{district_sum}
use Rattle.audit_model.specs.Limits.{IsGroup, most_regions, most_districts, most_units}
use Rattle.audit_model.specs.Meets.{are_whole, keeps_frozen, majorities, split_of, split_regions, splits_in_all}
use Rattle.region_guard.specs.declared.majority.GroupTally.{GroupTally}
use Rattle.region_guard.specs.declared.splits.SplitCounts.{SplitCounts}
use Rattle.region_guard.specs.declared.splits.Totals.{Totals}

-- a list has one entry per unit, or none
abbrev pub is_for : ℕ → List ℕ → Bool
is_for units entries = (length entries == 0) || (length entries == units)

-- plans of this many units with districts below `above` are accepted: the regions, the group and the frozen units
-- have that many units, and the tables enough districts
abbrev pub is_fitting : Rules → ℕ → ℕ → ℕ → Bool
is_fitting rules districts units above =
    is_for units rules.regions && is_for units rules.group.members && is_for units rules.frozen && nat_le above districts

-- the plans before and after a move fit the tables, and each unit has an entry in the list
pub record IsStep (entries : List ℕ) (districts : ℕ) (after : List ℕ) (unit from : ℕ) : Type 0 where
  pub long : length after ≡ length entries
  pub unit_below : unit < length after
  pub after_below : above_all after ≤ districts
  pub before_below : above_all (slice_set after unit from) ≤ districts

-- the plans before and after a move fit the tables, and each unit has an entry in the list unless it is empty
pub record IsFitStep (entries : List ℕ) (districts : ℕ) (after : List ℕ) (unit from : ℕ) : Type 0 where
  pub long : is_for (length after) entries ≡ true
  pub unit_below : unit < length after
  pub after_below : above_all after ≤ districts
  pub before_below : above_all (slice_set after unit from) ≤ districts

-- ---- regions

-- the number of the first n units that are in the region and in the district
abbrev pub units_among : ℕ → List ℕ → List ℕ → ℕ → ℕ → ℕ
units_among n regions plan region district = count_below n (λ u. (slice_index regions u == region) && (slice_index plan u == district))

-- the count for a region and a district, in a table with a row per region
abbrev pub cell : ℕ → List ℕ → ℕ → ℕ → ℕ
cell districts cells region district = slice_index cells (region * districts + district)

-- the number of regions that lie in more than `most` districts
abbrev pub broken_in : List ℕ → ℕ → List ℕ → ℕ
broken_in regions most plan = count_below (above_all regions) (λ region. not (nat_le (split_of regions plan region) most))

-- the totals of a plan: regions in too many districts, splits in all, and split regions
abbrev pub totals_of : List ℕ → ℕ → List ℕ → Totals
totals_of regions most plan = record {
  broken = broken_in regions most plan;
  in_all = splits_in_all regions plan;
  split = split_regions regions plan;
}

-- the totals, from the number of districts of each region
abbrev pub totals_from : ℕ → ℕ → (ℕ → ℕ) → Totals
totals_from rows most width = record {
  broken = count_below rows (λ region. not (nat_le (width region) most));
  in_all = sum_below rows (λ region. width region - 1);
  split = count_below rows (λ region. nat_lt 1 (width region));
}

-- the rules on regions
abbrev pub permits_splits : Rules → List ℕ → Bool
permits_splits rules plan =
    are_whole rules.regions rules.max_split plan
    && nat_le (splits_in_all rules.regions plan) rules.max_splits
    && nat_le (split_regions rules.regions plan) rules.max_split_regions

-- a table with a row per region and a column per district, at most 5,000 by 200
pub record IsTable (regions : List ℕ) (districts : ℕ) (splits : SplitCounts) : Type 0 where
  pub rows : length splits.widths ≡ above_all regions
  pub places : length splits.cells ≡ length splits.widths * districts
  pub few_rows : above_all regions ≤ most_regions
  pub some : 1 ≤ districts
  pub few : districts ≤ most_districts

-- the counts are the plan's: units by region and district, districts by region, and totals
pub record AreSplits (regions : List ℕ) (most districts : ℕ) (splits : SplitCounts) (plan : List ℕ) : Type 0 where
  pub units : (region district : ℕ) → region < above_all regions → district < districts
      → cell districts splits.cells region district ≡ units_among (length regions) regions plan region district
  pub widths : (region : ℕ) → region < above_all regions → slice_index splits.widths region ≡ split_of regions plan region
  pub totals : splits.totals ≡ totals_of regions most plan

-- ---- the group

-- numbers for at most 100,000 units or for none, and a sum for each district
pub record IsGroupTable (group : Group) (districts : ℕ) (tally : GroupTally) : Type 0 where
  pub columns : IsGroup (length group.members) group
  pub few_units : length group.members ≤ most_units
  pub members : length tally.members ≡ districts
  pub whole : length tally.whole ≡ districts
  pub few : districts ≤ most_districts
  pub few_share : tally.share ≤ 10000

-- the sums and the number of majorities are the plan's
pub record IsTallied (group : Group) (districts : ℕ) (tally : GroupTally) (plan : List ℕ) : Type 0 where
  pub members : (district : ℕ) → district < districts → slice_index tally.members district ≡ district_sum group.members plan district
  pub whole : (district : ℕ) → district < districts → slice_index tally.whole district ≡ district_sum group.whole plan district
  pub majorities : tally.majorities ≡ majorities tally.share group plan

-- ---- all rules

-- all counts are the plan's, and `kept` is true if the plan keeps the districts of frozen units
pub record IsStanding (rules : Rules) (districts : ℕ) (splits : SplitCounts) (tally : GroupTally) (kept : Bool) (plan : List ℕ) : Type 0 where
  pub regions : AreSplits rules.regions rules.max_split districts splits plan
  pub group : IsTallied rules.group districts tally plan
  pub frozen : kept ≡ keeps_frozen rules.frozen rules.home plan
