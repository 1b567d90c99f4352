-- Least numbers below a limit, and quotients rounded up.
use Rattle.std.proofs.Common.{◌≡◌, ℕ, zero, suc, ◌+◌, ◌-◌, ◌*◌, ◌/◌, ◌^◌, ◌<◌, ◌≤◌, Bool, true, sym, subst, inl, inr, arith}
use Rattle.std.specs.Prelude.{nat_le, nat_lt}
use Rattle.std.proofs.lemmas.Bool.{cases_Bool, cases_lt, cond-true, cond-false, both_ways, leb-true, le-leb, ltb-true}
use Rattle.std.proofs.lemmas.Nat.{mul-le, div-add-mod', div_below, mod_below}
use Rattle.audit_model.specs.Below.{any_below}
use Rattle.audit_model.specs.Least.{IsLeast, least_below}
use Rattle.audit_model.specs.Rounded.{quotient_up}
use Rattle.audit_model.specs.Test.{bound}
use Rattle.audit_model.proofs.Below.{any_below_some, any_below_from}

-- if some number below the limit passes, the least one is found
pub least_below_least : (n : ℕ) (test : ℕ → Bool) (k : ℕ) → k < n → test k ≡ true → IsLeast test (least_below n test)
unfolding least_below
least_below_least zero test k l h = absurd (omega arith)
least_below_least (suc n) test k l h = elim (cases_Bool (any_below n test)) [
  | inl some ↦
      let found = any_below_some n test some in
      subst (λ m. IsLeast test m) (sym (cond-true {A = ℕ} (any_below n test) (least_below n test) n some)) (least_below_least n test found.0 found.1 found.2)
  | inr none ↦
      let least : (m : ℕ) → test m ≡ true → n ≤ m = λ m hm. elim (cases_lt m n) [
        | inl below ↦ absurd (both_ways (any_below n test) none (any_below_from n test m below hm))
        | inr above ↦ above
      ] in
      let at : k ≡ n = omega (arith, least k h) in
      subst (λ m. IsLeast test m) (sym (cond-false {A = ℕ} (any_below n test) (least_below n test) n none))
      (record { passes = subst (λ m. test m ≡ true) at h; least = least })
]

-- a least number is unique
pub least_unique : (test : ℕ → Bool) (m n : ℕ) → IsLeast test m → IsLeast test n → m ≡ n
least_unique test m n hm hn = omega (arith, hm.least n hn.passes, hn.least m hm.passes)

-- the bound is the least number with a large enough square
pub bound_is_least : (count all : ℕ) → count ≤ all → IsLeast (λ r. nat_le (2 * count * 10 ^ 18) (r * r * all)) (bound count all)
unfolding bound
bound_is_least count all l =
    least_below_least (2 ^ 64) (λ r. nat_le (2 * count * 10 ^ 18) (r * r * all)) 2000000000 (omega arith)
    (le-leb (2 * count * 10 ^ 18) (2000000000 * 2000000000 * all) (omega arith))

-- a quotient rounded up is the least number with a large enough product
pub quotient_up_is_least : (a b : ℕ) → 0 < b → IsLeast (λ q. nat_le a (q * b)) (quotient_up a b)
quotient_up_is_least a b pos = record {
  passes = le-leb a (quotient_up a b * b) (omega (arith, div-add-mod' (a + b - 1) b, mod_below (a + b - 1) b pos));
  least = λ m h.
      let enough : a ≤ m * b = leb-true a (m * b) h in
      let below : (a + b - 1) / b < suc m = div_below (a + b - 1) b (suc m) pos (omega arith) in
      omega arith;
}

-- the bound, from the greatest number that is too small
pub bound_from : (count all r : ℕ) → count ≤ all → nat_le (2 * count * 10 ^ 18) (suc r * suc r * all) ≡ true → nat_lt (r * r * all) (2 * count * 10 ^ 18) ≡ true → bound count all ≡ suc r
bound_from count all r l reached short =
    least_unique (λ r. nat_le (2 * count * 10 ^ 18) (r * r * all)) (bound count all) (suc r) (bound_is_least count all l)
    (record {
      passes = reached;
      least = λ m h. elim (cases_lt r m) [
        | inl above ↦ above
        | inr below ↦
            let enough : 2 * count * 10 ^ 18 ≤ m * m * all = leb-true (2 * count * 10 ^ 18) (m * m * all) h in
            let small : r * r * all < 2 * count * 10 ^ 18 = ltb-true (r * r * all) (2 * count * 10 ^ 18) short in
            let square : m * m ≤ r * r = mul-le m m r r below below in
            let product : m * m * all ≤ r * r * all = mul-le (m * m) all (r * r) all square (omega arith) in
            absurd (omega (arith, enough, small, product))
      ];
    })
