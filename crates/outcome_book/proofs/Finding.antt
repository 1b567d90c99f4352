-- Lookup of an id, outcome by outcome.
use Rattle.std.proofs.Common.{◌≡◌, ℕ, zero, suc, ◌+◌, ◌<◌, Bool, true, false, cond, List, [], ◌∷◌, length, take, get_or, Some, None, sym, ap, ◌∙◌, arith}
use Rattle.std.specs.Prelude.{◌==◌}
use Rattle.std.specs.Option.{option_or}
use Rattle.std.proofs.lemmas.List.Folds.{find-append}
use Rattle.std.proofs.lemmas.Bool.{eq-eqb, ne_eqb}
use Rattle.std.proofs.lemmas.Option.{none-some}
use Rattle.audit_model.specs.declared.outcome.Outcome.{Outcome}
use Rattle.audit_model.specs.Run.{with_id}
use Rattle.outcome_book.proofs.Adding.{take_next}

-- the first outcome with the id is the one found
pub found_here : (xs : List Outcome) (id k : ℕ) (d : Outcome) → k < length xs → with_id (take k xs) id ≡ None → (get_or xs k d).id ≡ id
    → with_id xs id ≡ Some (get_or xs k d)
found_here [] id k d l none same = absurd (omega (arith, l))
found_here (x ∷ xs) id zero d l none same = ap (λ b. cond b (Some x) (with_id xs id)) (eq-eqb x.id id same)
found_here (x ∷ xs) id (suc k) d l none same = by (x.id == id) none (λ e. found_here xs id k d (omega (arith, l)) e same)
  where
    by : (b : Bool) → cond b (Some x) (with_id (take k xs) id) ≡ None → (with_id (take k xs) id ≡ None → with_id xs id ≡ Some (get_or xs k d))
        → cond b (Some x) (with_id xs id) ≡ Some (get_or xs k d)
    by true e rest = absurd (none-some x (sym e))
    by false e rest = rest e

-- an outcome with another id keeps the lookup empty
pub none_more : (xs : List Outcome) (id k next : ℕ) (d : Outcome) → k < length xs → next ≡ k + 1 → with_id (take k xs) id ≡ None → ((get_or xs k d).id ≡ id → ⊥)
    → with_id (take next xs) id ≡ None
none_more xs id k next d l is none other =
    ap (λ ys. with_id ys id) (take_next xs k next d l is)
    ∙ find-append (λ (o : Outcome). o.id == id) (take k xs) (get_or xs k d ∷ [])
    ∙ ap (λ r. option_or r (with_id (get_or xs k d ∷ []) id)) none
    ∙ ap (λ b. cond b (Some (get_or xs k d)) None) (ne_eqb (get_or xs k d).id id other)
