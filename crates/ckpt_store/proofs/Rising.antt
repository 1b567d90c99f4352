-- Outcomes by rising id.
use Rattle.std.proofs.Common.{ℕ, suc, ◌<◌, List, [], ◌∷◌, All, map, arith}
use Rattle.std.proofs.lemmas.List.Elements.{All-cons}
use Rattle.std.proofs.lemmas.List.Kept.{AllPairs-cons}
use Rattle.audit_model.specs.declared.outcome.Outcome.{Outcome}
use Rattle.audit_statement.specs.Checkpoint.{AreRising}
use Rattle.outcome_book.specs.Union.{AreById}

-- with rising ids, all others are above the first
above : (x : ℕ) (os : List Outcome) → AreRising (x ∷ map (λ o. o.id) os) → All (λ o. x < o.id) os
above x [] r = λ k d l. absurd (omega (arith, l))
above x (o ∷ os) r = All-cons (λ (p : Outcome). x < p.id) o os r.0 (λ k d l. omega (arith, r.0, above o.id os r.1 k d l))

-- rising ids still rise after the first is removed
rest : (x : ℕ) (os : List Outcome) → AreRising (x ∷ map (λ o. o.id) os) → AreRising (map (λ o. o.id) os)
rest x [] r = tt
rest x (o ∷ os) r = r.1

-- where the ids rise, each outcome stands before those with greater ids
pub by_rising_id : (os : List Outcome) → AreRising (map (λ o. o.id) os) → AreById os
by_rising_id [] r = λ i j d lt within. absurd (omega (arith, within))
by_rising_id (o ∷ os) r = AllPairs-cons (λ (a b : Outcome). a.id < b.id) o os (above o.id os r) (by_rising_id os (rest o.id os r))

-- outcomes in the order of their ids have rising ids
pub ids_rise : (os : List Outcome) → AreById os → AreRising (map (λ o. o.id) os)
ids_rise [] r = tt
ids_rise (o ∷ []) r = tt
ids_rise (o ∷ p ∷ os) r = (r 0 1 o (omega arith) (omega arith), ids_rise (p ∷ os) (λ i j d lt within. r (suc i) (suc j) d (omega arith) (omega arith)))
