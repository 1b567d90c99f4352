-- Long rings, as the program stores them.
use Rattle.std.specs.Prelude.{ℕ, cond, nat_lt, List, map, take}
use Rattle.contig.specs.declared.long.LongRing.{LongRing}

-- the units of a long ring
abbrev pub units_on : LongRing → List ℕ
units_on ring = take (cond (nat_lt ring.count 12) ring.count 12) ring.units

-- the units of each of these long rings
abbrev pub units_of_all : List LongRing → List (List ℕ)
units_of_all rings = map units_on rings
