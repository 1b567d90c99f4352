-- Rules that limit nothing.
use Rattle.std.specs.Prelude.{◌≡◌, ◌≤◌, []}
use Rattle.audit_model.specs.declared.rules.Rules.{Rules}
use Rattle.audit_model.specs.Limits.{most_edges}

-- every edge may be cut, there are no regions, no group majority is required, and no unit is frozen
pub record LimitNothing (rules : Rules) : Type 0 where
  pub all_cuts : most_edges ≤ rules.max_cut
  pub no_regions : rules.regions ≡ []
  pub no_group : rules.group_districts ≡ 0
  pub no_frozen : rules.frozen ≡ []
