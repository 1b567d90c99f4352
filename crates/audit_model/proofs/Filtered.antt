-- The numbers below a bound that pass a test.
use Rattle.std.proofs.Common.{◌≡◌, refl, sym, subst, ℕ, zero, suc, ◌<◌, Bool, true, false, cond, [], ◌∷◌, ◌++◌, All, AllPairs, arith}
use Rattle.std.proofs.lemmas.List.{append-nil}
use Rattle.std.proofs.lemmas.List.Elements.{All-append}
use Rattle.std.proofs.lemmas.List.Quantifiers.{all_pairs_push}
use Rattle.audit_model.specs.Below.{filter_below}

-- each kept number is below the bound and passes
pub each_passes : (n : ℕ) (test : ℕ → Bool) → All (λ id. (id < n) × (test id ≡ true)) (filter_below n test)
each_passes zero test = λ k d inside. absurd (omega arith)
each_passes (suc n) test = All-append (λ id. (id < suc n) × (test id ≡ true)) (filter_below n test) (cond (test n) (n ∷ []) [])
    (λ k d inside. let was = each_passes n test k d inside in let lower = was.0 in (omega arith, was.1))
    (last (test n) refl)
  where
    last : (b : Bool) → test n ≡ b → All (λ id. (id < suc n) × (test id ≡ true)) (cond b (n ∷ []) [])
    last true e zero d inside = (omega arith, e)
    last true e (suc k) d inside = absurd (omega arith)
    last false e k d inside = absurd (omega arith)

-- the kept numbers rise
pub each_rises : (n : ℕ) (test : ℕ → Bool) → AllPairs (λ a b. a < b) (filter_below n test)
each_rises zero test = λ i j d before inside. absurd (omega arith)
each_rises (suc n) test = last (test n) (each_rises n test)
  where
    last : (b : Bool) → AllPairs (λ x y. x < y) (filter_below n test) → AllPairs (λ x y. x < y) (filter_below n test ++ cond b (n ∷ []) [])
    last true rising = all_pairs_push (λ x y. x < y) (filter_below n test) n rising (λ k d inside. (each_passes n test k d inside).0)
    last false rising = subst (AllPairs (λ x y. x < y)) (sym (append-nil (filter_below n test))) rising
