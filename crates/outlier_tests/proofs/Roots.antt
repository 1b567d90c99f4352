-- The bound, computed from an integer square root.
use Rattle.std.proofs.Common.{◌≡◌, ◌∙◌, ℕ, suc, ◌+◌, ◌-◌, ◌*◌, ◌/◌, ◌%◌, ◌^◌, ◌<◌, ◌≤◌, sym, arith}
use Rattle.std.proofs.lemmas.Bool.{le-leb, lt-ltb}
use Rattle.std.proofs.lemmas.Nat.{mul-le, div-add-mod', mod_below}
use Rattle.audit_model.specs.Test.{bound}
use Rattle.audit_model.proofs.Least.{bound_from}

-- one more than the root of the greatest quotient that is too small is the bound
pub bound_from_root : (count all part r : ℕ) → 1 ≤ count → count ≤ all
    → part ≡ (2 * count * 10 ^ 18 - 1) / all → r * r ≤ part → part < (r + 1) * (r + 1) → r + 1 ≡ bound count all
bound_from_root count all part r some l is low high =
    let positive : 0 < all = omega arith in
    let split : (2 * count * 10 ^ 18 - 1) / all * all + (2 * count * 10 ^ 18 - 1) % all ≡ 2 * count * 10 ^ 18 - 1 = div-add-mod' (2 * count * 10 ^ 18 - 1) all in
    let rest : (2 * count * 10 ^ 18 - 1) % all < all = mod_below (2 * count * 10 ^ 18 - 1) all positive in
    let whole : part * all + (2 * count * 10 ^ 18 - 1) % all ≡ 2 * count * 10 ^ 18 - 1 = rw is split in
    let below : r * r * all ≤ part * all = mul-le (r * r) all part all low (omega arith) in
    let above : (part + 1) * all ≤ (r + 1) * (r + 1) * all = mul-le (part + 1) all ((r + 1) * (r + 1)) all (omega arith) (omega arith) in
    let reached : 2 * count * 10 ^ 18 ≤ (r + 1) * (r + 1) * all = omega arith in
    let short : r * r * all < 2 * count * 10 ^ 18 = omega arith in
    let next : suc r ≡ r + 1 = omega arith in
    sym (bound_from count all r l (rw next (le-leb _ _ reached)) (lt-ltb _ _ short) ∙ next)
