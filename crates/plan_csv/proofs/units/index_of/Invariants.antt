use Rattle.std.proofs.Common.{string_bytes}
use Rattle.plan_csv.proofs.Indexed.{IsIndexed}
use Rattle.plan_csv.proofs.units.index_of.Given as goal

abbrev pub invariant-loop-unit : goal.invariant-loop-unit
invariant-loop-unit l = IsIndexed string_bytes l.ids l.unit l.index.entries
