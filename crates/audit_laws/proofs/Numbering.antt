-- Two numberings of the same things in the same order are equal if neither has gaps.
use Rattle.std.proofs.Common.{◌≡◌, ℕ, zero, suc, ◌<◌, ◌≤◌, refl, sym, arith}

-- a numbering below the bound without gaps
pub record IsOnto (n bound : ℕ) (s : ℕ → ℕ) : Type 0 where
  pub within : (u : ℕ) → u < n → s u < bound
  pub each : (d : ℕ) → d < bound → (u : ℕ) × (u < n) × (s u ≡ d)

-- a numbering is at most another one in the same order
no_greater : (n k : ℕ) (s t : ℕ → ℕ) → IsOnto n k s → ((u v : ℕ) → u < n → v < n → s u < s v → t u < t v)
    → (m u : ℕ) → u < n → s u ≡ m → m ≤ t u
no_greater n k s t onto order zero u l e = omega arith
no_greater n k s t onto order (suc m) u l e =
    let below = onto.each m (omega (arith, e, onto.within u l)) in
    let less = order below.0 u below.1 l (omega (arith, e, below.2)) in
    let so_far = no_greater n k s t onto order m below.0 below.1 below.2 in
    omega (arith, less, so_far)

-- of two equal numberings without gaps, the first bound is at most the second
as_many : (n k m : ℕ) (s t : ℕ → ℕ) → IsOnto n k s → IsOnto n m t → ((u : ℕ) → u < n → s u ≡ t u) → (j : ℕ) → k ≡ j → j ≤ m
as_many n k m s t a b same zero e = omega arith
as_many n k m s t a b same (suc j) e =
    let some = a.each j (omega (arith, e)) in
    let within = b.within some.0 some.1 in
    omega (arith, within, some.2, same some.0 some.1)

module _ (n k m : ℕ) (s t : ℕ → ℕ) (a : IsOnto n k s) (b : IsOnto n m t)
    (there : (u v : ℕ) → u < n → v < n → s u < s v → t u < t v) (back : (u v : ℕ) → u < n → v < n → t u < t v → s u < s v) where
  pub same_numbers : (u : ℕ) → u < n → s u ≡ t u
  same_numbers u l =
      let up = no_greater n k s t a there (s u) u l refl in
      let down = no_greater n m t s b back (t u) u l refl in
      omega (arith, up, down)

  pub same_bound : k ≡ m
  same_bound =
      let more = as_many n k m s t a b same_numbers k refl in
      let less = as_many n m k t s b a (λ u l. sym (same_numbers u l)) m refl in
      omega (arith, more, less)
