-- Equality of outcomes, field by field.
use Rattle.std.proofs.Common.{◌≡◌, ◌&&◌, ◌∙◌, ℕ, List, refl, ap}
use Rattle.std.specs.Prelude.{◌==◌, ℤ, nat_eq}
use Rattle.std.specs.Cmp.Lexicographic.{pointwise}
use Rattle.std.specs.Bool.{Decides}
use Rattle.std.specs.Ordering.{int_eq}
use Rattle.std.proofs.lemmas.Bool.Decides.{Decides-and, Decides-eqb, Decides-int_eq}
use Rattle.std.proofs.lemmas.Slice.Eq.{slice_eq-Decides}
use Rattle.audit_model.specs.declared.outcome.Outcome.{Outcome}

-- the outcome with these four fields
with_parts : ℕ → ℕ → List ℤ → List ℕ → Outcome
with_parts id moved values bins = record { id = id; moved = moved; values = values; bins = bins }

-- outcomes are equal exactly if their four fields are
pub same_decides : (a b : Outcome) → Decides ((a.id == b.id) && ((a.moved == b.moved) && (pointwise int_eq a.values b.values && pointwise nat_eq a.bins b.bins))) (a ≡ b)
unfolding with_parts
same_decides a b = (λ e. together (all.0 e), λ e. all.1 (parts e))
  where
    all : Decides ((a.id == b.id) && ((a.moved == b.moved) && (pointwise int_eq a.values b.values && pointwise nat_eq a.bins b.bins)))
        ((a.id ≡ b.id) × ((a.moved ≡ b.moved) × ((a.values ≡ b.values) × (a.bins ≡ b.bins))))
    all = Decides-and (a.id == b.id) _ (Decides-eqb a.id b.id)
        (Decides-and (a.moved == b.moved) _ (Decides-eqb a.moved b.moved)
        (Decides-and (pointwise int_eq a.values b.values) _ (slice_eq-Decides Decides-int_eq a.values b.values _ refl)
        (slice_eq-Decides Decides-eqb a.bins b.bins _ refl)))

    together : (a.id ≡ b.id) × ((a.moved ≡ b.moved) × ((a.values ≡ b.values) × (a.bins ≡ b.bins))) → a ≡ b
    together h =
        ap (λ x. with_parts x a.moved a.values a.bins) h.0
        ∙ ap (λ x. with_parts b.id x a.values a.bins) h.1.0
        ∙ ap (λ x. with_parts b.id b.moved x a.bins) h.1.1.0
        ∙ ap (λ x. with_parts b.id b.moved b.values x) h.1.1.1

    parts : a ≡ b → (a.id ≡ b.id) × ((a.moved ≡ b.moved) × ((a.values ≡ b.values) × (a.bins ≡ b.bins)))
    parts e = (ap (λ (o : Outcome). o.id) e, (ap (λ (o : Outcome). o.moved) e, (ap (λ (o : Outcome). o.values) e, ap (λ (o : Outcome). o.bins) e)))
