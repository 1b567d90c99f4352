-- Constraints made from one test.
use Rattle.std.specs.Prelude.{◌≡◌, List}
use Rattle.std.specs.List.{All}
use Rattle.audit_model.specs.declared.rules.Rules.{Rules}
use Rattle.flip_guard.specs.declared.guard.Guard.{Guard}

-- the constraint has this test and these rules
pub record IsGuard {F : Type 0} (test : F) (by : Rules) (g : Guard F) : Type 0 where
  pub test_is : g.test ≡ test
  pub rules_are : g.rules ≡ by

abbrev pub AreGuards : {F : Type 0} → F → Rules → List (Guard F) → Type 0
AreGuards test by judges = All (IsGuard test by) judges
