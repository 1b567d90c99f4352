-- Faults of the header record.
use Rattle.std.proofs.Common.{◌≡◌, ◌≤◌, ◌<◌, ◌-◌, ◌∷◌, ℕ, List, [], length, Some, None, false, not, nat_lt, ap, ◌∙◌}
use Rattle.std.specs.Option.{option_map, option_or}
use Rattle.std.proofs.lemmas.Bool.{cond-false, le-ltb}
use Rattle.audit_model.specs.First.{first_below, first_some}
use Rattle.audit_model.specs.declared.fault.TableFault.TheVariants as fault
use Rattle.audit_model.proofs.First.{first_below_here}
use Rattle.audit_statement.specs.Table.{is_plan_name, plan_name, misses_header, too_many, bad_name}

module _ (header : List (List ℕ)) where
  pub enough : 2 ≤ length header → misses_header [] header [] ≡ None
  enough l = cond-false (nat_lt (length header) 2) (Some fault.NoHeader) None (le-ltb (length header) 2 l)

  pub few : length header - 1 ≤ 4096 → too_many [] header [] ≡ None
  few l = cond-false (nat_lt 4096 (length header - 1)) (Some (fault.TooManyPlans (length header - 1))) None (le-ltb 4096 (length header - 1) l)

  pub bad_here : (plan : ℕ) → 2 ≤ length header → length header - 1 ≤ 4096 → plan < length header - 1 → first_below plan (λ p. not (is_plan_name (plan_name [] header [] p))) ≡ None
      → is_plan_name (plan_name [] header [] plan) ≡ false
      → first_some (misses_header [] header [] ∷ too_many [] header [] ∷ bad_name [] header [] ∷ []) ≡ Some (fault.BadName plan)
  bad_here plan two most under none bad =
      let found : bad_name [] header [] ≡ Some (fault.BadName plan) =
      ap (option_map fault.BadName) (first_below_here (length header - 1) plan (λ p. not (is_plan_name (plan_name [] header [] p))) none under (ap not bad)) in
      ap (λ o. option_or o (option_or (too_many [] header []) (option_or (bad_name [] header []) None))) (enough two)
      ∙ ap (λ o. option_or o (option_or (bad_name [] header []) None)) (few most)
      ∙ ap (λ o. option_or o None) found
