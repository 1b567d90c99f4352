-- The numbers of a weight on cut edges, and the test of a change.
use Rattle.std.proofs.Common.{◌≡◌, ℕ, zero, suc, ◌+◌, ◌-◌, ◌*◌, ◌/◌, ◌%◌, ◌^◌, ◌<◌, ◌≤◌, ◌&&◌, Bool, true, false, List, refl, sym, ap, ◌∙◌, inl, inr, arith}
use Rattle.std.specs.Int.Bits.{bit_and}
use Rattle.std.specs.Prelude.{◌||◌, nat_le, nat_lt}
use Rattle.std.proofs.Math.Nat.{mul-le-mul, mul-le-mul_left, one-le-pow, pow-le-pow_right, pow-suc, le-div_iff_mul-le}
use Rattle.std.proofs.lemmas.Bool.{cases_eq, le-leb, lt-ltb, ne_eqb}
use Rattle.std.proofs.lemmas.Nat.{and_mask, div_below, mod_below, one_shl, pow-add}
use Rattle.audit_model.specs.Job.{Job}
use Rattle.audit_model.specs.Plan.{cut_edges}
use Rattle.audit_model.specs.Weight.{factor, factors, is_taken, largest_change, passes, weighed_draws}
use Rattle.audit_model.proofs.Below.{count_below_le}
use Rattle.audit_model.proofs.Digits.{greatest}

-- ---- powers of 64

-- a power of 64 with at most ten digits
pub power_small : (k : ℕ) → k ≤ 10 → 64 ^ k ≤ 64 ^ 10
power_small k l = pow-le-pow_right {n = 64} (omega arith) {i = k} {j = 10} l

-- six bits for each digit
pub bits_of : (k : ℕ) → 2 ^ (6 * k) ≡ 64 ^ k
bits_of zero = refl
bits_of (suc k) =
    let e : 6 * suc k ≡ 6 * k + 6 = omega arith in
    ap (λ (n : ℕ). 2 ^ n) e ∙ pow-add 2 (6 * k) 6 ∙ ap (λ (n : ℕ). n * 64) (bits_of k) ∙ sym (pow-suc 64 k)

-- at most nine digits
pub few_digits : (pairs : ℕ) → largest_change pairs ≤ 9
few_digits pairs = count_below_le 9 (λ m. nat_le (pairs * 64 ^ (m + 2)) (2 ^ 64))

-- the pairs times a power of 64 with at most ten digits
pub product_small : (pairs k : ℕ) → pairs ≤ 20000000 → k ≤ 10 → pairs * 64 ^ k ≤ 20000000 * 64 ^ 10
product_small pairs k l few = mul-le-mul l (power_small k few)

-- ---- the draws that count

-- a block with the last digits is not empty, and fits the draws
pub block_fits : (pairs : ℕ) → 0 < pairs → pairs ≤ 20000000 → pairs * 64 ^ largest_change pairs ≤ 2 ^ 64
block_fits pairs some few = elim (cases_eq (largest_change pairs) 0) [
  | inl e ↦ omega (arith, few, ap (λ (m : ℕ). pairs * 64 ^ m) e)
  | inr off ↦
      let m : ℕ = largest_change pairs in
      let own : m ≤ m = omega arith in
      let fit : pairs * 64 ^ (m + 1) ≤ 2 ^ 64 = (greatest pairs m some (omega (arith, off))).0 own in
      let less : 64 ^ m ≤ 64 ^ (m + 1) = pow-le-pow_right {n = 64} (omega arith) {i = m} {j = m + 1} (omega arith) in
      omega (arith, fit, mul-le-mul_left pairs less)
]

pub block_some : (pairs m : ℕ) → 0 < pairs → 0 < pairs * 64 ^ m
block_some pairs m some =
    let power : 1 ≤ 64 ^ m = one-le-pow m 64 (omega arith) in
    let one : 1 ≤ pairs = omega (arith, some) in
    let l : 1 * 1 ≤ pairs * 64 ^ m = mul-le-mul {n₁ = 1} {m₁ = 1} {n₂ = pairs} {m₂ = 64 ^ m} one power in
    omega (arith, l)

-- some draw counts
pub some_draws : (block : ℕ) → 0 < block → block ≤ 2 ^ 64 → 0 < 2 ^ 64 / block * block
some_draws block some fit =
    let one : 1 ≤ 2 ^ 64 / block = (le-div_iff_mul-le some).1 (omega (arith, fit)) in
    let own : block ≤ block = omega arith in
    let l : 1 * block ≤ 2 ^ 64 / block * block = mul-le-mul one own in
    omega (arith, l, some)

-- ---- factors

-- a factor is at most 64
pub factor_small : (q n : ℕ) → q ≤ 256 → factor q n ≤ 64
factor_small q n l =
    let below : factor q n < 65 = div_below (q + 3 - n % 4) 4 65 (omega arith) (omega (arith, l)) in
    omega (arith, below)

-- a product of factors is at most the power of 64
pub factors_small : (q cut added : ℕ) → q ≤ 256 → factors q cut added ≤ 64 ^ added
unfolding factors
factors_small q cut zero l = omega arith
factors_small q cut (suc added) l =
    let power : 64 ^ suc added ≡ 64 ^ added * 64 = pow-suc 64 added in
    omega (arith, power, mul-le-mul (factors_small q cut added l) (factor_small q (cut + added) l))

pub factors_none : (q cut : ℕ) → 1 ≡ factors q cut 0
unfolding factors
factors_none q cut = refl

pub factors_more : (q cut added : ℕ) → factors q cut added * factor q (cut + added) ≡ factors q cut (added + 1)
unfolding factors
factors_more q cut added = let e : suc added ≡ added + 1 = omega arith in ap (factors q cut) e

-- ---- the test on numbers

module _ (limit pairs most draw added removed : ℕ) where
  -- if the draw counts and the change is not too large, the last digits decide
  pub passes_digits : (digits : ℕ) → draw < weighed_draws pairs most → added ≤ most → removed ≤ most → digits ≡ draw / pairs % 64 ^ added
      → nat_lt digits limit ≡ passes limit pairs most draw added removed
  passes_digits digits counts few_added few_removed is =
      ap (λ (n : ℕ). nat_lt n limit) is
      ∙ sym (all (nat_lt draw (weighed_draws pairs most)) (nat_le added most) (nat_le removed most) (nat_lt (draw / pairs % 64 ^ added) limit)
      (lt-ltb draw (weighed_draws pairs most) counts) (le-leb added most few_added) (le-leb removed most few_removed))
    where
      all : (a b c d : Bool) → a ≡ true → b ≡ true → c ≡ true → (a && (b && c && d)) ≡ d
      all a b c d ha hb hc = ap (λ (x : Bool). x && (b && c && d)) ha ∙ ap (λ (x : Bool). x && c && d) hb ∙ ap (λ (x : Bool). x && d) hc

-- if no cut edges are added, the draw takes each change that is not too large
pub passes_down : (q pairs most draw before after : ℕ) → draw < weighed_draws pairs most → after ≤ before
    → nat_le (before - after) most ≡ passes (factors q before (after - before)) pairs most draw (after - before) (before - after)
unfolding factors
passes_down q pairs most draw before after counts falls =
    let none : after - before ≡ 0 = omega (arith, falls) in
    let rest : draw / pairs % 64 ^ 0 < 1 = mod_below (draw / pairs) 1 (omega arith) in
    sym (ap (λ (a : ℕ). passes (factors q before a) pairs most draw a (before - after)) none
    ∙ all (nat_lt draw (weighed_draws pairs most)) (nat_le 0 most) (nat_le (before - after) most) (nat_lt (draw / pairs % 64 ^ 0) 1)
    (lt-ltb draw (weighed_draws pairs most) counts) (le-leb 0 most (omega arith)) (lt-ltb (draw / pairs % 64 ^ 0) 1 rest))
  where
    last : (c : Bool) → (c && true) ≡ c
    last true = refl
    last false = refl

    all : (a b c d : Bool) → a ≡ true → b ≡ true → d ≡ true → (a && (b && c && d)) ≡ c
    all a b c d ha hb hd = ap (λ (x : Bool). x && (b && c && d)) ha ∙ ap (λ (x : Bool). x && c && d) hb ∙ ap (λ (x : Bool). c && x) hd ∙ last c

-- the masked quotient is the number of the last digits
pub digits_are : (quotient draw pairs added bits : ℕ) → quotient ≡ draw / pairs → bits ≡ 6 * added → added ≤ 9
    → bit_and quotient ((1 * 2 ^ bits) % 2 ^ 64 - 1) ≡ draw / pairs % 64 ^ added
digits_are quotient draw pairs added bits is is_bits few =
    let small : bits < 64 = omega (arith, is_bits, few) in
    let power : (1 * 2 ^ bits) % 2 ^ 64 ≡ 2 ^ bits = one_shl bits 64 small in
    ap (λ (n : ℕ). bit_and quotient (n - 1)) power ∙ and_mask quotient bits ∙ ap (λ (n : ℕ). n % 2 ^ bits) is
    ∙ ap (λ (n : ℕ). draw / pairs % 2 ^ n) is_bits ∙ ap (λ (n : ℕ). draw / pairs % n) (bits_of added)

-- ---- the test of a change of plan

-- the test on numbers is the test of a change of plan
pub takes_is : (job : Job) (from to : List ℕ) (draw q pairs before after : ℕ) (result : Bool) → (job.setting.cut_weight ≡ 256 → ⊥)
    → result ≡ passes (factors q before (after - before)) pairs (largest_change pairs) draw (after - before) (before - after) → q ≡ job.setting.cut_weight
    → pairs ≡ job.graph.units * job.districts → before ≡ cut_edges job.graph from → after ≡ cut_edges job.graph to → result ≡ is_taken job from to draw
unfolding is_taken
takes_is job from to draw q pairs before after result weighted is same_weight same_pairs same_before same_after =
    let t : ℕ = job.setting.cut_weight in
    let n : ℕ = job.graph.units * job.districts in
    let old : ℕ = cut_edges job.graph from in
    let new : ℕ = cut_edges job.graph to in
    is ∙ ap (λ (e : ℕ). passes (factors e before (after - before)) pairs (largest_change pairs) draw (after - before) (before - after)) same_weight
    ∙ ap (λ (p : ℕ). passes (factors t before (after - before)) p (largest_change p) draw (after - before) (before - after)) same_pairs
    ∙ ap (λ (b : ℕ). passes (factors t b (after - b)) n (largest_change n) draw (after - b) (b - after)) same_before
    ∙ ap (λ (a : ℕ). passes (factors t old (a - old)) n (largest_change n) draw (a - old) (old - a)) same_after
    ∙ ap (λ (c : Bool). c || passes (factors t old (new - old)) n (largest_change n) draw (new - old) (old - new)) (sym (ne_eqb t 256 weighted))
