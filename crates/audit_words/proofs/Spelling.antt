-- Words that are none of the known spellings.
use Rattle.std.proofs.Common.{◌≡◌, ℕ, List, None, refl, sym}
use Rattle.std.specs.Prelude.{codes}
use Rattle.audit_model.proofs.ListFacts.{bytes_other}
use Rattle.audit_statement.specs.Words.{ask_of}

-- a word that is none of the ten spellings is no ask
pub ask_of-other : (word : List ℕ) → (word ≡ codes "seats:low" → ⊥) → (word ≡ codes "seats:high" → ⊥)
    → (word ≡ codes "mean-median:low" → ⊥) → (word ≡ codes "mean-median:high" → ⊥) → (word ≡ codes "gap:low" → ⊥) → (word ≡ codes "gap:high" → ⊥)
    → (word ≡ codes "cut-edges:low" → ⊥) → (word ≡ codes "cut-edges:high" → ⊥) → (word ≡ codes "cut-length:low" → ⊥) → (word ≡ codes "cut-length:high" → ⊥)
    → ask_of word ≡ None
ask_of-other word seats_low seats_high median_low median_high gap_low gap_high cut_low cut_high length_low length_high = rw (
  bytes_other (codes "seats:low") word (λ e. seats_low (sym e)),
  bytes_other (codes "seats:high") word (λ e. seats_high (sym e)),
  bytes_other (codes "mean-median:low") word (λ e. median_low (sym e)),
  bytes_other (codes "mean-median:high") word (λ e. median_high (sym e)),
  bytes_other (codes "gap:low") word (λ e. gap_low (sym e)),
  bytes_other (codes "gap:high") word (λ e. gap_high (sym e)),
  bytes_other (codes "cut-edges:low") word (λ e. cut_low (sym e)),
  bytes_other (codes "cut-edges:high") word (λ e. cut_high (sym e)),
  bytes_other (codes "cut-length:low") word (λ e. length_low (sym e)),
  bytes_other (codes "cut-length:high") word (λ e. length_high (sym e)),
) refl
