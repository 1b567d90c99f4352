-- The plans of a table one by one, and the whole reading.
use Rattle.std.proofs.Common.{◌≡◌, ℕ, ◌+◌, ◌-◌, ◌<◌, ◌++◌, true, false, List, [], ◌∷◌, length, map, get_or, Some, None, Ok, Err, refl, sym, ap, ◌∙◌, subst, arith}
use Rattle.std.specs.List.{All}
use Rattle.std.specs.Option.{option_map}
use Rattle.std.proofs.lemmas.List.Elements.{All-push}
use Rattle.csv.specs.Reading.{default_config, records, strip_bom}
use Rattle.csv.specs.Records.{Row, fields_of}
use Rattle.audit_model.specs.declared.fault.TableFault.{TableFault}
use Rattle.audit_model.specs.declared.fault.TableFault.TheVariants as fault
use Rattle.audit_model.specs.declared.plans.Assigned.{Assigned}
use Rattle.audit_model.specs.declared.setting.Label.{Label}
use Rattle.audit_model.specs.Below.{map_below}
use Rattle.audit_model.specs.First.{first_below}
use Rattle.audit_model.proofs.Below.{map_below_same, map_below_more}
use Rattle.audit_model.proofs.First.{first_below_more, first_below_here}
use Rattle.audit_statement.specs.Table.{plans_or, assigned, district_in, entry_of, is_miscounted, label_count, of_rows, plan_count, refused_count, table_reading}
use Rattle.plan_csv.specs.Fit.{IsPlanOf}
use Rattle.plan_csv.specs.Stages.{assigned_by, refused, AreRecords}

-- the first plans, all without a fault
pub record AreListed (header : List (List ℕ)) (rows : List (List (List ℕ))) (records : List ℕ) (j : ℕ) (list : List Assigned) : Type 0 where
  pub none : first_below j (is_miscounted [] [] rows) ≡ None
  pub made : list ≡ map_below j (assigned_by header rows records)
  pub fit : All (IsPlanOf (length records)) list

module _ (header : List (List ℕ)) (rows : List (List (List ℕ))) (records : List ℕ) (j : ℕ) (list : List Assigned) (before : AreListed header rows records j list) where
  pub listed_more : (new : List Assigned) (a : Assigned) → new ≡ list ++ a ∷ [] → is_miscounted [] [] rows j ≡ false → a ≡ assigned_by header rows records j → IsPlanOf (length records) a
      → AreListed header rows records (j + 1) new
  listed_more new a made good is fit = record {
    none = first_below_more j (is_miscounted [] [] rows) before.none good;
    made = map_below_more j (assigned_by header rows records) list new a before.made is made;
    fit = subst (λ (xs : List Assigned). All (IsPlanOf (length records)) xs) (sym made) (All-push (IsPlanOf (length records)) list a before.fit fit);
  }

  pub refused_here : j < length header - 1 → is_miscounted [] [] rows j ≡ true → refused_count [] header rows ≡ Some (fault.DistrictCount j (label_count [] [] rows j))
  refused_here l bad = ap (option_map (λ p. fault.DistrictCount p (label_count [] [] rows p))) (first_below_here (length header - 1) j (is_miscounted [] [] rows) before.none l bad)

  pub listed_all : (plans : ℕ) → j ≡ plans → plans ≡ length header - 1 → (refused_count [] header rows ≡ None) × (list ≡ map_below plans (assigned_by header rows records))
  listed_all plans all count = (
    ap (option_map (λ p. fault.DistrictCount p (label_count [] [] rows p))) (subst (λ n. first_below n (is_miscounted [] [] rows) ≡ None) (all ∙ count) before.none),
    before.made ∙ ap (λ n. map_below n (assigned_by header rows records)) all,
  )

-- given the record of each unit, these are the plans of the definition
pub plans_are : (ids : List Label) (header : List (List ℕ)) (rows : List (List (List ℕ))) (records : List ℕ) (plans : ℕ) → AreRecords ids rows records → plans ≡ length header - 1
    → map_below plans (assigned_by header rows records) ≡ map_below (plan_count ids header rows) (assigned ids header rows)
plans_are ids header rows records plans are count =
    map_below_same plans (assigned_by header rows records) (assigned ids header rows)
    (λ p l. ap (started p) (ap (λ n. map_below n (λ u. district_in [] [] rows p (get_or records u 0))) are.size
    ∙ map_below_same (length ids) (λ u. district_in [] [] rows p (get_or records u 0)) (λ u. district_in ids header rows p (entry_of ids header rows u))
    (λ u under. ap (district_in [] [] rows p) (sym (are.each u under)))))
    ∙ ap (λ n. map_below n (assigned ids header rows)) count
  where
    started : ℕ → List ℕ → Assigned
    started p start = record (assigned ids header rows p) { start = start }

-- ---- the whole reading

module _ (bytes : List ℕ) (ids : List Label) where
  by_rows : (rows : List (List (List ℕ))) → records default_config (strip_bom bytes) ≡ rows → table_reading bytes ids ≡ of_rows ids rows
  unfolding table_reading
  by_rows rows is = ap (of_rows ids) is

  refused_rows : (rows : List (List (List ℕ))) (f : TableFault) → refused ids rows ≡ Some f → of_rows ids rows ≡ Err f
  refused_rows [] f e = ap Err (cc e)
  refused_rows (header ∷ entries) f e = ap (plans_or (map_below (plan_count ids header entries) (assigned ids header entries))) e

  pub read_refused : (f : TableFault) → refused ids (records default_config (strip_bom bytes)) ≡ Some f → table_reading bytes ids ≡ Err f
  read_refused f e = by_rows (records default_config (strip_bom bytes)) refl ∙ refused_rows (records default_config (strip_bom bytes)) f e

  pub read_accepted : (header : List (List ℕ)) (entries : List (List (List ℕ))) (plans : List Assigned) → header ∷ entries ≡ records default_config (strip_bom bytes)
      → refused ids (records default_config (strip_bom bytes)) ≡ None → plans ≡ map_below (plan_count ids header entries) (assigned ids header entries) → table_reading bytes ids ≡ Ok plans
  read_accepted header entries plans split none is =
      by_rows (header ∷ entries) (sym split)
      ∙ ap (plans_or (map_below (plan_count ids header entries) (assigned ids header entries))) (subst (λ (rs : List (List (List ℕ))). refused ids rs ≡ None) (sym split) none)
      ∙ ap Ok (sym is)

  pub nothing_read : (texts : List Row) → map fields_of texts ≡ records default_config (strip_bom bytes) → length texts < 1 → table_reading bytes ids ≡ Err fault.NoHeader
  nothing_read [] is l = read_refused fault.NoHeader (subst (λ (rs : List (List (List ℕ))). refused ids rs ≡ Some fault.NoHeader) is refl)
  nothing_read (x ∷ xs) is l = absurd (omega (arith, l))
