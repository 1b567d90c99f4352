-- Constraints by a test of the cut edges and a test of the districts of a region.
use Rattle.std.specs.Prelude.{◌≡◌, ◌≤◌, ℕ, List, length}
use Rattle.std.specs.List.{All}
use Rattle.audit_model.specs.declared.rules.Rules.{Rules}
use Rattle.region_guard.specs.declared.guard.RegionGuard.{RegionGuard}
use Rattle.region_guard.specs.Standing.{IsGroupTable, IsTable}

-- the constraint has these tests and rules, and tables for this number of districts
pub record IsRegionGuard {F T : Type 0} (cut : F) (test : T) (by : Rules) (districts : ℕ) (g : RegionGuard F T) : Type 0 where
  pub cut_is : g.cut.test ≡ cut
  pub same_cut : g.cut.rules.max_cut ≡ by.max_cut
  pub test_is : g.test ≡ test
  pub rules_are : g.rules ≡ by
  pub districts_are : g.districts ≡ districts
  pub table : IsTable by.regions districts g.splits
  pub group_table : IsGroupTable by.group districts g.tally
  pub share_is : g.tally.share ≡ by.group_share
  pub homes : length by.frozen ≤ length by.home

abbrev pub AreRegionGuards : {F T : Type 0} → F → T → Rules → ℕ → List (RegionGuard F T) → Type 0
AreRegionGuards cut test by districts judges = All (IsRegionGuard cut test by districts) judges
