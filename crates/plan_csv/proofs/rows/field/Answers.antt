use Rattle.std.proofs.Common.{sym}
use Rattle.csv.specs.Records.{fields_of}
use Rattle.csv.proofs.RecordFacts.{field-get}
use Rattle.plan_csv.proofs.Unread.{none_there}
use Rattle.plan_csv.proofs.rows.field.Goals as goal

pub returns-in-Some : goal.returns-in-Some
returns-in-Some c = sym (field-get (fields_of c.args.row.now) c.args.place _ (sym c.in-Some.ensures.value))

pub returns-in-None : goal.returns-in-None
returns-in-None c = sym (none_there (fields_of c.args.row.now) c.args.place (sym c.in-None.ensures.value))
