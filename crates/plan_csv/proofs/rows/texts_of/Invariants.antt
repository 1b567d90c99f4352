use Rattle.std.proofs.Common.{◌≡◌, length, map}
use Rattle.std.specs.Vec.Iter.{into_iter_items, into_iter_len}
use Rattle.csv.specs.Records.{fields_of}
use Rattle.plan_csv.proofs.Unread.{IsRead}
use Rattle.plan_csv.proofs.rows.texts_of.Given as goal

abbrev pub invariant-loop-row : goal.invariant-loop-row
invariant-loop-row l = IsRead l.columns (map fields_of l.fn.rows.items) l.texts.items (into_iter_items l.row-iterator)
    × (into_iter_len l.row-iterator ≡ length (into_iter_items l.row-iterator))
