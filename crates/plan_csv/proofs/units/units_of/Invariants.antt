use Rattle.std.proofs.Common.{List, map, string_bytes}
use Rattle.csv.specs.Records.{fields_of}
use Rattle.audit_model.specs.declared.setting.Label.{Label}
use Rattle.plan_csv.specs.Stages.{IsUnitIndex}
use Rattle.plan_csv.proofs.United.{IsUnited}
use Rattle.plan_csv.proofs.units.units_of.Given as goal

abbrev pub invariant-loop-entry : goal.invariant-loop-entry
invariant-loop-entry l = (ids : List Label) → IsUnitIndex string_bytes ids l.index.entries → IsUnited ids (map fields_of l.entries) l.entry l.units.items
