-- Sums of a column over the units of a district.
use Rattle.std.proofs.Common.{ℕ, cond, List, get_or, ◌≤◌, Bool, true, false, arith, zero, suc, ◌*◌, ◌<◌, length, ◌≡◌, ◌^◌}
use Rattle.audit_model.specs.Below.{sum_below, map_below}
use Rattle.audit_model.specs.District.{in_district, district_sum}
use Rattle.audit_model.specs.Limits.{IsColumn}
use Rattle.audit_model.proofs.Below.{length-map_below, get_or-map_below}
use Rattle.std.specs.List.{All}
use Rattle.std.proofs.Math.Nat.{mul-suc}

-- the sum over the units before this one
abbrev pub part_of : List ℕ → List ℕ → ℕ → ℕ → ℕ
part_of column plan unit d = sum_below unit (λ u. cond (in_district plan d u) (get_or column u 0) 0)

-- a number that is counted or not adds at most itself
pub one_part : (b : Bool) (n : ℕ) → cond b n 0 ≤ n
one_part true n = omega arith
one_part false n = omega arith

-- a sum over units is at most the bound of each times their number
pub part_small : (column plan : List ℕ) (bound unit d : ℕ) → ((u : ℕ) → u < length column → get_or column u 0 ≤ bound) → unit ≤ length column
    → part_of column plan unit d ≤ bound * unit
part_small column plan bound zero d small l = omega arith
part_small column plan bound (suc unit) d small l =
    omega (arith, part_small column plan bound unit d small (omega arith), one_part (in_district plan d unit) (get_or column unit 0), small unit (omega arith), mul-suc bound unit)

-- the sums of a column by district are at most 10 ^ 14
pub column_small : (districts units : ℕ) (column plan : List ℕ) → length plan ≡ units → IsColumn units column → units ≤ 100000
    → All (λ n. n ≤ 10 ^ 14) (map_below districts (district_sum column plan))
column_small districts units column plan complete column_is few = λ k d l.
    let inside : k < districts = omega (arith, l, length-map_below districts (district_sum column plan)) in
    let small : (u : ℕ) → u < length column → get_or column u 0 ≤ 10 ^ 9 = λ u below. column_is.small u 0 below in
    let part : district_sum column plan k ≤ 10 ^ 9 * length plan = part_small column plan (10 ^ 9) (length plan) k small (omega (arith, complete, column_is.width)) in
    let at : get_or (map_below districts (district_sum column plan)) k d ≡ district_sum column plan k = get_or-map_below districts (district_sum column plan) k d inside in
    omega (arith, at, part, complete, few)
