use Rattle.std.proofs.Common.{map}
use Rattle.csv.specs.Records.{fields_of}
use Rattle.plan_csv.proofs.Assembled.{AreListed}
use Rattle.plan_csv.proofs.read.read_columns.Given as goal

abbrev pub invariant-loop-plan : goal.invariant-loop-plan
invariant-loop-plan l = AreListed (fields_of l.header) (map fields_of l.entries) l.records l.plan l.list
