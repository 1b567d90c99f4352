-- The number of distinct labels, and the index of each among them.
use Rattle.std.proofs.Common.{◌≡◌, ℕ, zero, suc, ◌<◌, ◌≤◌, Bool, true, false, cond, ◌&&◌, List, [], length, get_or, Option, Some, None, refl, sym, ap, ◌∙◌, inl, inr, arith}
use Rattle.std.specs.Prelude.{◌==◌}
use Rattle.std.specs.Option.{option_map, unwrap_or}
use Rattle.std.specs.Ordering.{is_eq, is_lt, ordering_reverse}
use Rattle.std.proofs.lemmas.Bool.{and_parts, and_from, cases_eq, cases_order, cond-true, cond-false, eq-eqb, eqb-true, both_ways, true≢false, not_from_false, not-true, false_from_ne_true}
use Rattle.std.proofs.lemmas.Cmp.{tied_itself}
use Rattle.std.proofs.lemmas.List.{ext_get_or}
use Rattle.audit_model.specs.declared.setting.Label.{Label}
use Rattle.audit_model.specs.declared.setting.Label.TheVariants.{Word}
use Rattle.audit_model.specs.Below.{any_below, count_below, map_below}
use Rattle.audit_model.specs.First.{first_below}
use Rattle.audit_model.specs.Label.{same_label, label_before}
use Rattle.audit_model.proofs.Below.{count_below_same, count_below_into, any_below_some, any_below_from, length-map_below, get_or-map_below}
use Rattle.audit_model.proofs.First.{first_below_none, first_passes}
use Rattle.audit_model.proofs.Labels.{same_equal, equal_same}
use Rattle.dual_json.specs.Districts.{AreDistricts, is_new}
use Rattle.dual_json.specs.Names.{label_total}
use Rattle.dual_json.specs.Places.{nth}

-- ---- counts

-- the count is p if exactly the numbers below p pass
pub count_below_front : (n p : ℕ) (test : ℕ → Bool) → p ≤ n → ((k : ℕ) → k < p → test k ≡ true) → ((k : ℕ) → p ≤ k → k < n → test k ≡ false) → count_below n test ≡ p
unfolding count_below
count_below_front zero p test l front back = omega (arith, l)
count_below_front (suc n) p test l front back = elim (cases_eq p (suc n)) [
  | inl e ↦
      let last : cond {A = ℕ} (test n) 1 0 ≡ 1 = cond-true {A = ℕ} (test n) 1 0 (front n (omega (arith, e))) in
      let before = count_below_front n n test (omega arith) (λ k under. front k (omega (arith, under, e))) (λ k from upto. absurd (omega (arith, from, upto))) in
      omega (arith, last, before, e)
  | inr off ↦
      let last : cond {A = ℕ} (test n) 1 0 ≡ 0 = cond-false {A = ℕ} (test n) 1 0 (back n (omega (arith, l, off)) (omega arith)) in
      let before = count_below_front n p test (omega (arith, l, off)) front (λ k from upto. back k from (omega (arith, upto))) in
      omega (arith, last, before)
]

-- a new label differs from all earlier ones
new_one : (labels : List Label) (i j : ℕ) → is_new labels j ≡ true → i < j → nth labels i ≡ nth labels j → ⊥
new_one labels i j new l same =
    both_ways (any_below j (λ k. same_label (nth labels k) (nth labels j))) (not-true (any_below j (λ k. same_label (nth labels k) (nth labels j))) new)
    (any_below_from j (λ k. same_label (nth labels k) (nth labels j)) i l (equal_same (nth labels i) (nth labels j) same))

-- equal new labels stand at one place
new_apart : (labels : List Label) (i j : ℕ) → is_new labels i ≡ true → is_new labels j ≡ true → nth labels i ≡ nth labels j → i ≡ j
new_apart labels i j a b same = elim (cases_order i j) [
  | inl e ↦ e
  | inr off ↦ elim off [
    | inl under ↦ absurd (new_one labels i j b under same)
    | inr over ↦ absurd (new_one labels j i a over (sym same))
  ]
]

module _ (labels found : List Label) (start : List ℕ) (are : AreDistricts labels found start) where
  -- equal distinct labels stand at one place
  found_apart : (i j : ℕ) → i < length found → j < length found → nth found i ≡ nth found j → i ≡ j
  found_apart i j li lj same = elim (cases_order i j) [
    | inl e ↦ e
    | inr off ↦ elim off [
      | inl under ↦ absurd (true≢false (sym (equal_same (nth found i) (nth found j) same) ∙ ap is_eq (are.rising i j under lj)))
      | inr over ↦ absurd (true≢false (sym (equal_same (nth found j) (nth found i) (sym same)) ∙ ap is_eq (are.rising j i over li)))
    ]
  ]

  -- the first place of a label in the list
  abbrev first_of : ℕ → ℕ
  first_of k = unwrap_or (first_below (length labels) (λ i. same_label (nth labels i) (nth found k))) 0

  first_by : (k : ℕ) → k < length found → (o : Option ℕ) → first_below (length labels) (λ i. same_label (nth labels i) (nth found k)) ≡ o
      → (unwrap_or o 0 < length labels) × (nth labels (unwrap_or o 0) ≡ nth found k) × (is_new labels (unwrap_or o 0) ≡ true)
  first_by k l None is =
      let one = are.from k l in
      absurd (both_ways (same_label (nth labels one.0) (nth found k)) (first_below_none (length labels) (λ i. same_label (nth labels i) (nth found k)) one.0 is one.1)
      (equal_same (nth labels one.0) (nth found k) (sym one.2)))
  first_by k l (Some a) is =
      let first = first_passes (length labels) (λ i. same_label (nth labels i) (nth found k)) a is in
      let same = same_equal (nth labels a) (nth found k) first.1 in (
        first.0,
        same,
        not_from_false (any_below a (λ j. same_label (nth labels j) (nth labels a))) (false_from_ne_true (any_below a (λ j. same_label (nth labels j) (nth labels a))) (λ some.
            let one = any_below_some a (λ j. same_label (nth labels j) (nth labels a)) some in
            both_ways (same_label (nth labels one.0) (nth found k)) (first.2 one.0 one.1) (ap (same_label (nth labels one.0)) (sym same) ∙ one.2))),
      )

  first_is : (k : ℕ) → k < length found → (first_of k < length labels) × (nth labels (first_of k) ≡ nth found k) × (is_new labels (first_of k) ≡ true)
  first_is k l = first_by k l (first_below (length labels) (λ i. same_label (nth labels i) (nth found k))) refl

  -- counting new labels that pass a test is counting distinct ones
  pub count_different : (p : Label → Bool) → count_below (length labels) (λ j. is_new labels j && p (nth labels j)) ≡ count_below (length found) (λ k. p (nth found k))
  count_different p =
      let up = count_below_into (length labels) (length found) (λ j. is_new labels j && p (nth labels j)) (λ k. p (nth found k)) (λ j. get_or start j 0)
      (λ j l h. let parts = and_parts (is_new labels j) (p (nth labels j)) h in (are.inside j l, ap p (are.place j l) ∙ parts.1))
      (λ i j li lj hi hj same.
      new_apart labels i j (and_parts (is_new labels i) (p (nth labels i)) hi).0 (and_parts (is_new labels j) (p (nth labels j)) hj).0
      (sym (are.place i li) ∙ ap (nth found) same ∙ are.place j lj)) in
      let down = count_below_into (length found) (length labels) (λ k. p (nth found k)) (λ j. is_new labels j && p (nth labels j)) first_of
      (λ k l h. let one = first_is k l in (one.0, and_from (is_new labels (first_of k)) (p (nth labels (first_of k))) one.2 (ap p one.1 ∙ h)))
      (λ i j li lj hi hj same. found_apart i j li lj (sym (first_is i li).1 ∙ ap (nth labels) same ∙ (first_is j lj).1)) in
      omega (arith, up, down)

  pub label_count_is : count_below (length labels) (is_new labels) ≡ length found
  label_count_is =
      count_below_same (length labels) (is_new labels) (λ j. is_new labels j && true) (λ j l. sym (with_true (is_new labels j)))
      ∙ count_different (λ l. true) ∙ count_below_front (length found) (length found) (λ k. true) (omega arith) (λ k l. refl) (λ k from upto. absurd (omega (arith, from, upto)))
    where
      with_true : (b : Bool) → (b && true) ≡ b
      with_true true = refl
      with_true false = refl

  pub district_is : (i : ℕ) → i < length labels → count_below (length labels) (λ j. is_new labels j && label_before (nth labels j) (nth labels i)) ≡ get_or start i 0
  district_is i l =
      let d = get_or start i 0 in
      let inside = are.inside i l in
      let at : nth found d ≡ nth labels i = are.place i l in
      count_different (λ x. label_before x (nth labels i))
      ∙ count_below_front (length found) d (λ k. label_before (nth found k) (nth labels i)) (omega (arith, inside))
      (λ k under. ap (λ x. label_before (nth found k) x) (sym at) ∙ ap is_lt (are.rising k d under inside))
      (λ k from upto. elim (cases_eq k d) [
        | inl e ↦ ap (λ x. label_before x (nth labels i)) (ap (nth found) e ∙ at) ∙ ap is_lt (tied_itself label_total (nth labels i))
        | inr off ↦ ap (λ x. label_before (nth found k) x) (sym at)
            ∙ ap is_lt (label_total.antisymm (nth found k) (nth found d) ∙ ap ordering_reverse (are.rising d k (omega (arith, from, off)) upto))
      ])

  -- the label of a district
  pub label_is : (district : ℕ → ℕ) → ((i : ℕ) → i < length labels → district i ≡ get_or start i 0) → (d : ℕ) → d < length found
      → unwrap_or (option_map (nth labels) (first_below (length labels) (λ i. district i == d))) (Word []) ≡ nth found d
  label_is district is d l = by (first_below (length labels) (λ i. district i == d)) refl
    where
      by : (o : Option ℕ) → first_below (length labels) (λ i. district i == d) ≡ o → unwrap_or (option_map (nth labels) o) (Word []) ≡ nth found d
      by None none =
          let one = are.from d l in
          let at : get_or start one.0 0 ≡ d = found_apart (get_or start one.0 0) d (are.inside one.0 one.1) l (are.place one.0 one.1 ∙ sym one.2) in
          absurd (both_ways (district one.0 == d) (first_below_none (length labels) (λ i. district i == d) one.0 none one.1) (eq-eqb (district one.0) d (is one.0 one.1 ∙ at)))
      by (Some a) first =
          let passes = first_passes (length labels) (λ i. district i == d) a first in
          let at : get_or start a 0 ≡ d = sym (is a passes.0) ∙ eqb-true (district a) d passes.1 in
          sym (are.place a passes.0) ∙ ap (nth found) at

  pub labels_are : (district : ℕ → ℕ) → ((i : ℕ) → i < length labels → district i ≡ get_or start i 0)
      → map_below (length found) (λ d. unwrap_or (option_map (nth labels) (first_below (length labels) (λ i. district i == d))) (Word [])) ≡ found
  labels_are district is =
      let f = λ (d : ℕ). unwrap_or (option_map (nth labels) (first_below (length labels) (λ i. district i == d))) (Word []) in
      ext_get_or (Word []) (map_below (length found) f) found (length-map_below (length found) f)
      (λ d l.
      let inside : d < length found = omega (arith, l, length-map_below (length found) f) in
      get_or-map_below (length found) f d (Word []) inside ∙ label_is district is d inside)

  pub start_is : (district : ℕ → ℕ) → ((i : ℕ) → i < length labels → district i ≡ get_or start i 0) → map_below (length labels) district ≡ start
  start_is district is =
      ext_get_or 0 (map_below (length labels) district) start (length-map_below (length labels) district ∙ sym are.count)
      (λ i l.
      let inside : i < length labels = omega (arith, l, length-map_below (length labels) district) in
      get_or-map_below (length labels) district i 0 inside ∙ is i inside)
