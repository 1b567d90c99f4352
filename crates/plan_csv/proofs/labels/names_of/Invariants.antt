use Rattle.std.proofs.Common.{map}
use Rattle.csv.specs.Records.{fields_of}
use Rattle.plan_csv.proofs.Labelled.{AreNamed}
use Rattle.plan_csv.proofs.labels.names_of.Given as goal

abbrev pub invariant-loop-entry : goal.invariant-loop-entry
invariant-loop-entry l = AreNamed (map fields_of l.entries) l.plan l.entry l.names.items
