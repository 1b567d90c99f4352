-- Facts about records, from the units they name.
use Rattle.std.proofs.Common.{◌≡◌, ◌<◌, ℕ, suc, List, [], length, bytes_eq, not, Option, Some, None, sym, ap, ◌∙◌, inl, inr, arith, eq-eqb}
use Rattle.std.specs.List.{slice_index_or}
use Rattle.std.specs.Option.{option_map, unwrap_or, is_none}
use Rattle.std.specs.Cmp.Lexicographic.{bytes_decides}
use Rattle.std.proofs.lemmas.Bool.{cases_lt, eqb-true, eqb-false, both_ways, true_from_ne_false}
use Rattle.std.proofs.lemmas.Option.{same_Some}
use Rattle.audit_model.specs.Below.{any_below}
use Rattle.audit_model.specs.First.{first_below}
use Rattle.audit_model.specs.declared.fault.TableFault.TheVariants as fault
use Rattle.audit_model.specs.declared.setting.Label.{Label}
use Rattle.audit_model.proofs.Bools.{same_bool}
use Rattle.audit_model.proofs.Options.{option_map_none}
use Rattle.audit_model.proofs.Below.{any_below_from}
use Rattle.audit_model.proofs.First.{first_below_same, any_below_same, first_below_none, first_passes, none_or_any}
use Rattle.audit_statement.specs.Table.{unit_text, names_unit, is_shared, shared_id, repeated_unit, missing_unit, entry_of}
use Rattle.plan_csv.specs.Stages.{AreUnits, AreFirstRecords, AreThere, is_of, unit_repeated, unnamed}

abbrev id_at : List (List (List ℕ)) → ℕ → List ℕ
id_at rows e = slice_index_or (slice_index_or rows e []) 0 []

module _ (ids : List Label) (rows : List (List (List ℕ))) (units : List ℕ) (are : AreUnits ids rows units) where
  module _ (e : ℕ) (l : e < length rows) where
    unit : ℕ
    unit = slice_index_or units e 0

    pub unit_under : slice_index_or units e 0 < length ids
    unit_under = (first_passes (length ids) (names_unit ids [] rows e) (slice_index_or units e 0) (are.each e l)).0

    text_at : id_at rows e ≡ unit_text ids [] [] (slice_index_or units e 0)
    text_at =
        (bytes_decides (id_at rows e) (unit_text ids [] [] (slice_index_or units e 0))).0
        (first_passes (length ids) (names_unit ids [] rows e) (slice_index_or units e 0) (are.each e l)).1

  -- two records name one unit exactly if their ids are equal texts
  same_unit : (b e : ℕ) → b < length rows → e < length rows → bytes_eq (id_at rows b) (id_at rows e) ≡ is_of units (slice_index_or units e 0) b
  same_unit b e lb le =
      same_bool (bytes_eq (id_at rows b) (id_at rows e)) (is_of units (slice_index_or units e 0) b)
      (λ same.
      let text = (bytes_decides (id_at rows b) (id_at rows e)).0 same in
      eq-eqb (slice_index_or units b 0) (slice_index_or units e 0)
      (same_Some (slice_index_or units b 0) (slice_index_or units e 0)
      (sym (are.each b lb) ∙ ap (λ t. first_below (length ids) (λ u. bytes_eq t (unit_text ids [] [] u))) text ∙ are.each e le)))
      (λ same.
      let unit = eqb-true (slice_index_or units b 0) (slice_index_or units e 0) same in
      (bytes_decides (id_at rows b) (id_at rows e)).1 (text_at b lb ∙ ap (unit_text ids [] []) unit ∙ sym (text_at e le)))

  pub repeated_is : repeated_unit ids [] rows ≡ unit_repeated units
  repeated_is =
      ap (option_map (λ e. fault.Twice (suc e)))
      (first_below_same (length rows) (λ e. any_below e (λ b. bytes_eq (id_at rows b) (id_at rows e))) (λ e. any_below e (is_of units (slice_index_or units e 0)))
      (λ e le. any_below_same e (λ b. bytes_eq (id_at rows b) (id_at rows e)) (is_of units (slice_index_or units e 0)) (λ b lb. same_unit b e (omega (arith, lb, le)) le))
      ∙ ap (λ n. first_below n (λ e. any_below e (is_of units (slice_index_or units e 0)))) (sym are.count))

  module _ (apart : shared_id ids [] [] ≡ None) where
    -- a record names its own unit only
    names_own : (e u : ℕ) → e < length rows → u < length ids → names_unit ids [] rows e u ≡ is_of units u e
    names_own e u le lu =
        same_bool (names_unit ids [] rows e u) (is_of units u e)
        (λ named. true_from_ne_false (is_of units u e) (λ off.
        let ne = eqb-false (slice_index_or units e 0) u off in
        let first = first_passes (length ids) (names_unit ids [] rows e) (slice_index_or units e 0) (are.each e le) in
        let text = (bytes_decides (id_at rows e) (unit_text ids [] [] u)).0 named in
        elim (cases_lt u (slice_index_or units e 0)) [
          | inl below ↦ both_ways (names_unit ids [] rows e u) (first.2 u below) named
          | inr from ↦
              let above : slice_index_or units e 0 < u = omega (arith, from, ne) in
              both_ways (any_below u (is_shared ids [] [] u))
              (first_below_none (length ids) (λ other. any_below other (is_shared ids [] [] other)) u (option_map_none _ _ apart) lu)
              (any_below_from u (is_shared ids [] [] u) (slice_index_or units e 0) above
              ((bytes_decides (unit_text ids [] [] (slice_index_or units e 0)) (unit_text ids [] [] u)).1 (sym (text_at e le) ∙ text)))
        ]))
        (λ same.
        let unit = eqb-true (slice_index_or units e 0) u same in
        (bytes_decides (id_at rows e) (unit_text ids [] [] u)).1 (text_at e le ∙ ap (unit_text ids [] []) unit))

    module _ (places : List (Option ℕ)) (placed : AreFirstRecords units (length ids) places) where
      first_of : (u : ℕ) → u < length ids → first_below (length rows) (λ e. names_unit ids [] rows e u) ≡ slice_index_or places u None
      first_of u lu =
          first_below_same (length rows) (λ e. names_unit ids [] rows e u) (is_of units u) (λ e le. names_own e u le lu)
          ∙ ap (λ n. first_below n (is_of units u)) (sym are.count) ∙ sym (placed.each u lu)

      pub missing_is : missing_unit ids [] rows ≡ unnamed places
      missing_is =
          ap (option_map fault.MissingUnit)
          (first_below_same (length ids) (λ u. not (any_below (length rows) (λ e. names_unit ids [] rows e u))) (λ u. is_none (slice_index_or places u None))
          (λ u lu. none_or_any (length rows) (λ e. names_unit ids [] rows e u) (slice_index_or places u None) (first_of u lu))
          ∙ ap (λ n. first_below n (λ u. is_none (slice_index_or places u None))) (sym placed.size))

      module _ (records : List ℕ) (have : AreThere places records) (u : ℕ) (lu : u < length ids) where
        here : first_below (length rows) (λ e. names_unit ids [] rows e u) ≡ Some (slice_index_or records u 0)
        here = first_of u lu ∙ have.each u (omega (arith, lu, placed.size))

        pub entry_is : entry_of ids [] rows u ≡ slice_index_or records u 0
        entry_is = ap (λ o. unwrap_or o 0) here

        pub entry_under : slice_index_or records u 0 < length rows
        entry_under = (first_passes (length rows) (λ e. names_unit ids [] rows e u) (slice_index_or records u 0) here).0
