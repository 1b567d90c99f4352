-- Short lists of units that may fill holes.
use Rattle.std.specs.Prelude.{ℕ, nat_lt, cond, List, take}
use Rattle.contig.specs.declared.short_list.ShortList.{ShortList}

-- the units of a short list
abbrev pub units_in : ShortList → List ℕ
units_in list = take (cond (nat_lt list.count 12) list.count 12) list.units
