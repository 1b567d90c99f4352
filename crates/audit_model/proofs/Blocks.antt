-- Counts over blocks of numbers.
use Rattle.std.proofs.Common.{◌≡◌, ℕ, zero, suc, ◌+◌, ◌-◌, ◌*◌, ◌/◌, ◌%◌, ◌^◌, ◌<◌, ◌≤◌, Bool, true, false, cond, ◌&&◌, refl, sym, ap, ◌∙◌, inl, inr, arith}
use Rattle.std.specs.Prelude.{◌==◌, nat_lt}
use Rattle.std.proofs.lemmas.Bool.{cases_eq, lt-ltb, le-ltb, eq-eqb, ne_eqb}
use Rattle.std.proofs.lemmas.Nat.{div-mul-add, mod-mul-add, pow-add}
use Rattle.audit_model.specs.Below.{count_below}
use Rattle.audit_model.proofs.Below.{count_below_same, count_below_none}

-- a count over two stretches is the sum of both
pub count_below_add : (a n : ℕ) (p : ℕ → Bool) → count_below (a + n) p ≡ count_below a p + count_below n (λ i. p (a + i))
unfolding count_below
count_below_add a zero p = let e : a + zero ≡ a = omega arith in omega (arith, ap (λ (k : ℕ). count_below k p) e)
count_below_add a (suc n) p =
    let e : a + suc n ≡ suc (a + n) = omega arith in
    omega (arith, ap (λ (k : ℕ). count_below k p) e, count_below_add a n p)

-- only numbers below a smaller bound count
pub count_below_cut : (c m : ℕ) (p : ℕ → Bool) → c ≤ m → count_below m (λ x. nat_lt x c && p x) ≡ count_below c p
count_below_cut c m p l =
    let e : c + (m - c) ≡ m = omega arith in
    let within : count_below c (λ x. nat_lt x c && p x) ≡ count_below c p =
    count_below_same c (λ x. nat_lt x c && p x) p (λ k below. ap (λ (b : Bool). b && p k) (lt-ltb k c below)) in
    let past : count_below (m - c) (λ i. nat_lt (c + i) c && p (c + i)) ≡ 0 =
    count_below_none (m - c) (λ i. nat_lt (c + i) c && p (c + i)) (λ k below. ap (λ (b : Bool). b && p (c + k)) (le-ltb (c + k) c (omega arith))) in
    omega (arith, ap (λ (k : ℕ). count_below k (λ x. nat_lt x c && p x)) e, count_below_add c (m - c) (λ x. nat_lt x c && p x), within, past)

-- all numbers below the bound count
pub count_all : (n : ℕ) → count_below n (λ _. true) ≡ n
unfolding count_below
count_all zero = refl
count_all (suc n) = omega (arith, count_all n)

-- as many numbers are below the smaller bound as it says
count_small : (most size : ℕ) → most ≤ size → count_below size (λ i. nat_lt i most) ≡ most
count_small most size l =
    count_below_same size (λ i. nat_lt i most) (λ i. nat_lt i most && true) (λ k below. sym (and_one (nat_lt k most)))
    ∙ count_below_cut most size (λ _. true) l ∙ count_all most
  where
    and_one : (b : Bool) → (b && true) ≡ b
    and_one true = refl
    and_one false = refl

-- one place counts if it is to
count_place : (size place : ℕ) (b : Bool) → place < size → count_below size (λ i. (i == place) && b) ≡ cond b 1 0
unfolding count_below
count_place zero place b l = absurd (omega arith)
count_place (suc n) place b l = elim (cases_eq n place) [
  | inl e ↦
      let before : count_below n (λ i. (i == place) && b) ≡ 0 = count_below_none n (λ i. (i == place) && b)
      (λ k below. ap (λ (c : Bool). c && b) (ne_eqb k place (λ at. omega (arith, at)))) in
      let last : cond {A = ℕ} ((n == place) && b) 1 0 ≡ cond {A = ℕ} b 1 0 = ap (λ (c : Bool). cond {A = ℕ} (c && b) 1 0) (eq-eqb n place e) in
      omega (arith, before, last)
  | inr off ↦
      let before = count_place n place b (omega (arith, off)) in
      let last : cond {A = ℕ} ((n == place) && b) 1 0 ≡ 0 = ap (λ (c : Bool). cond {A = ℕ} (c && b) 1 0) (ne_eqb n place off) in
      omega (arith, before, last)
]

-- of the numbers of all blocks, those at one place count as their blocks do
pub count_places : (size place blocks : ℕ) (q : ℕ → Bool) → place < size
    → count_below (blocks * size) (λ x. (x % size == place) && q (x / size)) ≡ count_below blocks q
unfolding count_below
count_places size place zero q l = let e : zero * size ≡ 0 = omega arith in ap (λ (k : ℕ). count_below k (λ x. (x % size == place) && q (x / size))) e
count_places size place (suc blocks) q l =
    let test : ℕ → Bool = λ x. (x % size == place) && q (x / size) in
    let e : suc blocks * size ≡ blocks * size + size = omega arith in
    let here : count_below size (λ i. test (blocks * size + i)) ≡ count_below size (λ i. (i == place) && q blocks) =
    count_below_same size (λ i. test (blocks * size + i)) (λ i. (i == place) && q blocks)
    (λ i below. ap (λ (r : ℕ). (r == place) && q ((blocks * size + i) / size)) (mod-mul-add blocks size i below)
    ∙ ap (λ (b : ℕ). (i == place) && q b) (div-mul-add blocks size i below)) in
    omega (arith, ap (λ (k : ℕ). count_below k test) e, count_below_add (blocks * size) size test, count_places size place blocks q l, here, count_place size place (q blocks) l)

-- of each block, as many numbers have a small remainder as the bound says
pub count_rests : (size most blocks : ℕ) → most ≤ size → count_below (blocks * size) (λ y. nat_lt (y % size) most) ≡ blocks * most
unfolding count_below
count_rests size most zero l = let e : zero * size ≡ 0 = omega arith in omega (arith, ap (λ (k : ℕ). count_below k (λ y. nat_lt (y % size) most)) e)
count_rests size most (suc blocks) l =
    let test : ℕ → Bool = λ y. nat_lt (y % size) most in
    let e : suc blocks * size ≡ blocks * size + size = omega arith in
    let more : suc blocks * most ≡ blocks * most + most = omega arith in
    let here : count_below size (λ i. test (blocks * size + i)) ≡ count_below size (λ i. nat_lt i most) =
    count_below_same size (λ i. test (blocks * size + i)) (λ i. nat_lt i most) (λ i below. ap (λ (r : ℕ). nat_lt r most) (mod-mul-add blocks size i below)) in
    omega (arith, more, ap (λ (k : ℕ). count_below k test) e, count_below_add (blocks * size) size test, count_rests size most blocks l, here, count_small most size l)

-- the draws of whole blocks of size * base ^ m that propose the pair at one place and whose last digits are small enough
pub count_digits : (base limit size place blocks m digits : ℕ) → place < size → digits ≤ m → limit ≤ base ^ digits
    → count_below (blocks * (size * base ^ m)) (λ x. (x % size == place) && nat_lt (x / size % base ^ digits) limit) ≡ blocks * base ^ (m - digits) * limit
count_digits base limit size place blocks m digits l few small =
    let together : m - digits + digits ≡ m = omega arith in
    let power : base ^ m ≡ base ^ (m - digits) * base ^ digits = ap (λ (k : ℕ). base ^ k) (sym together) ∙ pow-add base (m - digits) digits in
    let all : blocks * (size * base ^ m) ≡ blocks * base ^ (m - digits) * base ^ digits * size = omega (arith, power, ap (λ (k : ℕ). blocks * (size * k)) power) in
    ap (λ (k : ℕ). count_below k (λ x. (x % size == place) && nat_lt (x / size % base ^ digits) limit)) all
    ∙ count_places size place (blocks * base ^ (m - digits) * base ^ digits) (λ y. nat_lt (y % base ^ digits) limit) l
    ∙ count_rests (base ^ digits) limit (blocks * base ^ (m - digits)) small
