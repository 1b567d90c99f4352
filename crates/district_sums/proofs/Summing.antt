-- Sums of a column over the districts, unit by unit.
use Rattle.std.proofs.Common.{◌≡◌, ℕ, ◌<◌, List, length, get_or, sym, ap, ◌∙◌}
use Rattle.std.proofs.lemmas.List.{ext_get_or}
use Rattle.audit_model.specs.Below.{map_below}
use Rattle.audit_model.specs.District.{district_sum}
use Rattle.audit_model.proofs.Below.{length-map_below, get_or-map_below}
use Rattle.audit_model.proofs.ColumnFacts.{part_of}

-- each sum covers the units before this one
pub record IsAdded (column plan : List ℕ) (unit : ℕ) (sums : List ℕ) : Type 0 where
  pub each : (d : ℕ) → d < length sums → get_or sums d 0 ≡ part_of column plan unit d

-- once every unit is covered, the sums are the districts' sums
pub all_added : (column plan sums : List ℕ) (unit : ℕ) → unit ≡ length plan → IsAdded column plan unit sums
    → sums ≡ map_below (length sums) (district_sum column plan)
all_added column plan sums unit all added =
    ext_get_or 0 sums (map_below (length sums) (district_sum column plan)) (sym (length-map_below (length sums) (district_sum column plan)))
    (λ d l. added.each d l ∙ ap (λ (n : ℕ). part_of column plan n d) all ∙ sym (get_or-map_below (length sums) (district_sum column plan) d 0 l))
