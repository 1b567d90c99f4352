-- The labels of a plan, the distinct ones, and the district of each record.
use Rattle.std.proofs.Common.{◌≡◌, ℕ, ◌+◌, ◌<◌, ◌≤◌, ◌++◌, ◌&&◌, not, List, [], ◌∷◌, length, get_or, Option, Some, None, refl, sym, ap, ◌∙◌, subst, inl, inr, arith, length-append}
use Rattle.std.specs.Prelude.{◌==◌}
use Rattle.std.specs.List.{Contains}
use Rattle.std.specs.Option.{option_map, unwrap_or}
use Rattle.std.proofs.lemmas.Bool.{both_ways, cases_eq}
use Rattle.std.proofs.lemmas.List.{length-map}
use Rattle.std.proofs.lemmas.List.Elements.{Contains-get_or}
use Rattle.audit_model.specs.declared.plans.Assigned.{Assigned}
use Rattle.audit_model.specs.declared.setting.Label.{Label}
use Rattle.audit_model.specs.declared.setting.Label.TheVariants.{Word}
use Rattle.audit_model.specs.Below.{count_below, map_below}
use Rattle.audit_model.specs.First.{first_below}
use Rattle.audit_model.specs.Label.{same_label, label_before}
use Rattle.audit_model.proofs.Below.{count_below_same, length-map_below, get_or-map_below, map_below_same}
use Rattle.audit_model.proofs.First.{any_below_same, first_below_none, first_passes}
use Rattle.audit_model.proofs.Labels.{same_equal, equal_same}
use Rattle.dual_json.specs.Districts.{AreDifferent, AreDistricts, is_new}
use Rattle.dual_json.specs.Names.{label_from}
use Rattle.dual_json.specs.Places.{nth, labels_from}
use Rattle.dual_json.specs.declared.names.NodeName.{NodeName}
use Rattle.dual_json.proofs.Counted.{label_count_is, district_is, labels_are}
use Rattle.dual_json.proofs.Named.{nth_get, nth-push_same, nth-push_other}
use Rattle.dual_json.proofs.Started.{started_all}
use Rattle.audit_statement.specs.Table.{plan_name, is_new_label, label_count, label_in, label_of_district, district_in}
use Rattle.plan_csv.specs.Fit.{IsPlanOf}
use Rattle.plan_csv.specs.Stages.{assigned_by, AreLabelsOf, IsAssigned}

-- ---- labels of the first records

pub record AreNamed (rows : List (List (List ℕ))) (plan j : ℕ) (names : List NodeName) : Type 0 where
  pub count : length names ≡ j
  pub each : (e : ℕ) → e < j → nth (labels_from names) e ≡ label_in [] [] rows plan e

-- one more record's label is appended
pub named_more : (rows : List (List (List ℕ))) (plan j : ℕ) (names new : List NodeName) (name : NodeName) → AreNamed rows plan j names → new ≡ names ++ name ∷ []
    → label_from name ≡ label_in [] [] rows plan j → AreNamed rows plan (j + 1) new
named_more rows plan j names new name before made is = record {
  count = omega (arith, ap length made, length-append names (name ∷ []), before.count);
  each = λ e l. elim (cases_eq e j) [
    | inl same ↦
        ap (λ (ns : List NodeName). nth (labels_from ns) e) made ∙ ap (nth (labels_from (names ++ name ∷ []))) (same ∙ sym before.count)
        ∙ nth-push_same names name ∙ is ∙ ap (label_in [] [] rows plan) (sym same)
    | inr off ↦
        ap (λ (ns : List NodeName). nth (labels_from ns) e) made ∙ nth-push_other names name e (omega (arith, l, off, before.count))
        ∙ before.each e (omega (arith, l, off))
  ];
}

-- once all records are read, the labels are those of the plan
pub named_all : (rows : List (List (List ℕ))) (plan j : ℕ) (names : List NodeName) → j ≡ length rows → AreNamed rows plan j names → AreLabelsOf rows plan (labels_from names)
named_all rows plan j names all is = record {
  count = length-map names label_from ∙ is.count ∙ all;
  each = λ e l. is.each e (omega (arith, l, all));
}

-- ---- the position of each label

-- the label at each position is that of one of the names
at_place : (names : List NodeName) (i : ℕ) → i < length names → (x : NodeName) × (nth (labels_from names) i ≡ label_from x) × Contains names x
at_place [] i l = absurd (omega (arith, l))
at_place (y ∷ ys) i l = (get_or (y ∷ ys) i y, nth_get (y ∷ ys) i y l, Contains-get_or (y ∷ ys) i y l)

module _ (names found : List NodeName) (are : AreDifferent names found) where
  place : ℕ → ℕ
  place i = unwrap_or (first_below (length found) (λ k. same_label (nth (labels_from found) k) (nth (labels_from names) i))) 0

  place_by : (i : ℕ) → i < length names → (o : Option ℕ) → first_below (length found) (λ k. same_label (nth (labels_from found) k) (nth (labels_from names) i)) ≡ o
      → (unwrap_or o 0 < length found) × (nth (labels_from found) (unwrap_or o 0) ≡ nth (labels_from names) i)
  place_by i l (Some k) is =
      let first = first_passes (length found) (λ m. same_label (nth (labels_from found) m) (nth (labels_from names) i)) k is in
      (first.0, same_equal (nth (labels_from found) k) (nth (labels_from names) i) first.1)
  place_by i l None is =
      let here = at_place names i l in
      let there = are.to here.0 here.2 in
      let same : nth (labels_from found) there.0 ≡ nth (labels_from names) i =
      nth_get found there.0 there.1 there.2 ∙ ap label_from there.3 ∙ sym (same_equal (label_from here.0) (label_from there.1) there.4) ∙ sym here.1 in
      absurd (both_ways (same_label (nth (labels_from found) there.0) (nth (labels_from names) i))
      (first_below_none (length found) (λ m. same_label (nth (labels_from found) m) (nth (labels_from names) i)) there.0 is there.2)
      (equal_same (nth (labels_from found) there.0) (nth (labels_from names) i) same))

  place_is : (i : ℕ) → i < length names → (place i < length found) × (nth (labels_from found) (place i) ≡ nth (labels_from names) i)
  unfolding place
  place_is i l = place_by i l (first_below (length found) (λ k. same_label (nth (labels_from found) k) (nth (labels_from names) i))) refl

  pub districts_are : (districts : List ℕ) × AreDistricts (labels_from names) (labels_from found) districts
  districts_are = (
    map_below (length names) place,
    started_all names found (length names) (map_below (length names) place) are refl (record {
      count = length-map_below (length names) place;
      inside = λ k l. subst (λ (m : ℕ). m < length found) (sym (get_or-map_below (length names) place k 0 l)) (place_is k l).0;
      place = λ k l. ap (nth (labels_from found)) (get_or-map_below (length names) place k 0 l) ∙ (place_is k l).1;
    }),
  )

-- ---- the definitions in terms of labels

module _ (rows : List (List (List ℕ))) (plan : ℕ) (labels found : List Label) (districts : List ℕ) (of : AreLabelsOf rows plan labels) (are : AreDistricts labels found districts) where
  new_same : (e : ℕ) → e < length rows → is_new_label [] [] rows plan e ≡ is_new labels e
  new_same e l =
      ap not (any_below_same e (λ b. same_label (label_in [] [] rows plan b) (label_in [] [] rows plan e)) (λ b. same_label (nth labels b) (nth labels e))
      (λ b under. ap (λ a. same_label a (label_in [] [] rows plan e)) (sym (of.each b (omega (arith, under, l)))) ∙ ap (same_label (nth labels b)) (sym (of.each e l))))

  pub counted : label_count [] [] rows plan ≡ length found
  counted =
      count_below_same (length rows) (is_new_label [] [] rows plan) (is_new labels) new_same
      ∙ ap (λ n. count_below n (is_new labels)) (sym of.count) ∙ label_count_is labels found districts are

  pub district_same : (e : ℕ) → e < length rows → district_in [] [] rows plan e ≡ get_or districts e 0
  district_same e l =
      count_below_same (length rows) (λ o. is_new_label [] [] rows plan o && label_before (label_in [] [] rows plan o) (label_in [] [] rows plan e))
      (λ j. is_new labels j && label_before (nth labels j) (nth labels e))
      (λ j under. ap (λ b. b && label_before (label_in [] [] rows plan j) (label_in [] [] rows plan e)) (new_same j under)
      ∙ ap (λ a. is_new labels j && label_before a (label_in [] [] rows plan e)) (sym (of.each j under))
      ∙ ap (λ a. is_new labels j && label_before (nth labels j) a) (sym (of.each e l)))
      ∙ ap (λ n. count_below n (λ j. is_new labels j && label_before (nth labels j) (nth labels e))) (sym of.count)
      ∙ district_is labels found districts are e (omega (arith, l, of.count))

  label_of_first : (o : Option ℕ) (k : ℕ) → first_below (length rows) (λ e. district_in [] [] rows plan e == k) ≡ o
      → unwrap_or (option_map (label_in [] [] rows plan) o) (Word []) ≡ unwrap_or (option_map (nth labels) o) (Word [])
  label_of_first None k e = refl
  label_of_first (Some a) k e = sym (of.each a (first_passes (length rows) (λ i. district_in [] [] rows plan i == k) a e).0)

  pub labels_same : map_below (label_count [] [] rows plan) (label_of_district [] [] rows plan) ≡ found
  labels_same =
      map_below_same (label_count [] [] rows plan) (label_of_district [] [] rows plan)
      (λ k. unwrap_or (option_map (nth labels) (first_below (length labels) (λ i. district_in [] [] rows plan i == k))) (Word []))
      (λ k l. label_of_first (first_below (length rows) (λ e. district_in [] [] rows plan e == k)) k refl
      ∙ ap (λ n. unwrap_or (option_map (nth labels) (first_below n (λ i. district_in [] [] rows plan i == k))) (Word [])) (sym of.count))
      ∙ ap (λ n. map_below n (λ k. unwrap_or (option_map (nth labels) (first_below (length labels) (λ i. district_in [] [] rows plan i == k))) (Word []))) counted
      ∙ labels_are labels found districts are (district_in [] [] rows plan) (λ i l. district_same i (omega (arith, l, of.count)))

-- ---- the whole plan

module _ (header : List (List ℕ)) (rows : List (List (List ℕ))) (plan : ℕ) (labels found : List Label) (records : List ℕ) (a : Assigned) (of : AreLabelsOf rows plan labels)
    (is : IsAssigned (plan_name [] header [] plan) labels found records a) (under : (u : ℕ) → u < length records → get_or records u 0 < length rows) where
  pub assigned_is : a ≡ assigned_by header rows records plan
  assigned_is =
      let starts = is.start ∙ map_below_same (length records) (λ u. get_or is.districts (get_or records u 0) 0) (λ u. district_in [] [] rows plan (get_or records u 0))
      (λ u l. sym (district_same rows plan labels found is.districts of is.are (get_or records u 0) (under u l))) in
      let have = is.labelled ∙ sym (labels_same rows plan labels found is.districts of is.are) in
      ap (λ (n : List ℕ). made n a.start a.labels) is.named
      ∙ ap (λ (s : List ℕ). made (plan_name [] header [] plan) s a.labels) starts
      ∙ ap (λ (ls : List Label). made (plan_name [] header [] plan) (assigned_by header rows records plan).start ls) have
    where
      made : List ℕ → List ℕ → List Label → Assigned
      made name start labels = record { name = name; start = start; labels = labels }

  pub fits : 2 ≤ length found → length found ≤ 200 → IsPlanOf (length records) a
  fits two few =
      let count = ap length is.labelled in
      let f = λ (u : ℕ). get_or is.districts (get_or records u 0) 0 in
      record {
        complete = ap length is.start ∙ length-map_below (length records) f;
        in_range = λ u l.
            let at : get_or a.start u 0 ≡ f u = ap (λ (s : List ℕ). get_or s u 0) is.start ∙ get_or-map_below (length records) f u 0 l in
            let inside : f u < length found = is.are.inside (get_or records u 0) (omega (arith, under u l, of.count)) in
            omega (arith, at, inside, count);
        two = omega (arith, two, count);
        few = omega (arith, few, count);
      }
