-- The rules that a plan must meet beyond population and contiguity. They limit the cut edges, the districts of one
-- region (such as a county), the splits in all and the split regions, require majorities of a group, and freeze units
-- in their districts. In GerryChain such a rule is a constraint that the user adds, a call on a partition; here each
-- is a number or a column.
use Rattle.std.specs.Prelude.{◌≡◌, ℕ, ◌-◌, ◌*◌, ◌<◌, ◌≤◌, ◌==◌, ◌&&◌, ◌||◌, Bool, nat_le, nat_lt, List, length, slice_index}
use Rattle.audit_model.specs.declared.rules.Group.{Group}
use Rattle.audit_model.specs.declared.rules.Rules.{Rules}
use Rattle.audit_model.specs.Below.{above_all, all_below, any_below, count_below, sum_below}
use Rattle.audit_model.specs.District.{district_sum}
use Rattle.audit_model.specs.Graph.{has}

-- the number of regions
abbrev pub region_count : List ℕ → ℕ
region_count regions = count_below (above_all regions) (has regions)

-- some unit of the region is in the district
abbrev pub lies_in : List ℕ → List ℕ → ℕ → ℕ → Bool
lies_in regions plan region district = any_below (length regions) (λ u. (slice_index regions u == region) && (slice_index plan u == district))

-- the number of districts in which the region has units
abbrev pub split_of : List ℕ → List ℕ → ℕ → ℕ
split_of regions plan region = count_below (above_all plan) (lies_in regions plan region)

-- the number of splits in all: the districts of each region less one, added up
abbrev pub splits_in_all : List ℕ → List ℕ → ℕ
splits_in_all regions plan = sum_below (above_all regions) (λ region. split_of regions plan region - 1)

-- the number of regions that lie in more than one district
abbrev pub split_regions : List ℕ → List ℕ → ℕ
split_regions regions plan = count_below (above_all regions) (λ region. nat_lt 1 (split_of regions plan region))

-- the group has more than a share of the district's base population, in hundredths of a percent
abbrev pub has_majority : ℕ → Group → List ℕ → ℕ → Bool
has_majority share group plan district =
    nat_lt (share * district_sum group.whole plan district) (10000 * district_sum group.members plan district)

-- the number of districts in which the group has a majority
abbrev pub majorities : ℕ → Group → List ℕ → ℕ
majorities share group plan = count_below (above_all plan) (has_majority share group plan)

-- the number of frozen units
abbrev pub frozen_count : List ℕ → ℕ
frozen_count frozen = count_below (length frozen) (λ u. nat_lt 0 (slice_index frozen u))

-- the plan agrees with another on each frozen unit
abbrev pub KeepsFrozen : List ℕ → List ℕ → List ℕ → Type 0
KeepsFrozen frozen home plan = (u : ℕ) → u < length frozen → 0 < slice_index frozen u → slice_index plan u ≡ slice_index home u

-- a plan with this number of cut edges meets the rules
pub record Meets (rules : Rules) (cut : ℕ) (plan : List ℕ) : Type 0 where
  pub few_cuts : cut ≤ rules.max_cut
  pub few_splits : (region : ℕ) → split_of rules.regions plan region ≤ rules.max_split
  pub few_in_all : splits_in_all rules.regions plan ≤ rules.max_splits
  pub few_regions : split_regions rules.regions plan ≤ rules.max_split_regions
  pub enough : rules.group_districts ≤ majorities rules.group_share rules.group plan
  pub keeps : KeepsFrozen rules.frozen rules.home plan

-- ---- tests that decide it

-- no region lies in too many districts
abbrev pub are_whole : List ℕ → ℕ → List ℕ → Bool
are_whole regions max_split plan = all_below (above_all regions) (λ region. nat_le (split_of regions plan region) max_split)

-- each frozen unit has the district that the other plan gives it
abbrev pub keeps_frozen : List ℕ → List ℕ → List ℕ → Bool
keeps_frozen frozen home plan =
    all_below (length frozen) (λ u. (slice_index frozen u == 0) || (slice_index plan u == slice_index home u))

abbrev pub meets_rules : Rules → ℕ → List ℕ → Bool
meets_rules rules cut plan =
    keeps_frozen rules.frozen rules.home plan
    && nat_le cut rules.max_cut && are_whole rules.regions rules.max_split plan
    && nat_le (splits_in_all rules.regions plan) rules.max_splits
    && nat_le (split_regions rules.regions plan) rules.max_split_regions
    && nat_le rules.group_districts (majorities rules.group_share rules.group plan)
