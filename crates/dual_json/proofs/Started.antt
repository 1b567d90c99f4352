-- The index of each name among the distinct ones.
use Rattle.std.proofs.Common.{◌≡◌, ℕ, ◌+◌, ◌<◌, List, [], ◌∷◌, ◌++◌, length, get_or, Less, Equal, Greater, sym, ap, ◌∙◌, inl, inr, arith, length-append}
use Rattle.std.specs.Cmp.{Equal-is}
use Rattle.std.specs.List.{Contains}
use Rattle.std.specs.List.Sorted.{IsStrictlySortedBy, IsNonDecreasingBy, IsPartitionPoint, IsSortedBy}
use Rattle.std.specs.Ordering.{is_eq, is_lt, ordering_index, ordering_reverse}
use Rattle.std.proofs.lemmas.Bool.{cases_eq, cases_lt}
use Rattle.std.proofs.lemmas.Cmp.{tied_back}
use Rattle.std.proofs.lemmas.List.{length-map, get_or_append_left, get_or_push}
use Rattle.std.proofs.lemmas.List.Elements.{Contains-get_or}
use Rattle.std.proofs.lemmas.List.Sorted.{searchable_from_sorted}
use Rattle.std.proofs.lemmas.Map.Keys.{Less-from_sorted}
use Rattle.audit_model.specs.Label.{label_cmp}
use Rattle.audit_model.proofs.Labels.{same_equal}
use Rattle.dual_json.specs.Districts.{AreDifferent, AreDistricts}
use Rattle.dual_json.specs.Names.{label_from, name_cmp, name_total}
use Rattle.dual_json.specs.Places.{nth, labels_from}
use Rattle.dual_json.specs.declared.names.NodeName.{NodeName}
use Rattle.dual_json.proofs.Named.{nth_get}

-- the indices of the first names
pub record AreStarted (names found : List NodeName) (i : ℕ) (start : List ℕ) : Type 0 where
  pub count : length start ≡ i
  pub inside : (k : ℕ) → k < i → get_or start k 0 < length found
  pub place : (k : ℕ) → k < i → nth (labels_from found) (get_or start k 0) ≡ nth (labels_from names) k

-- the name at an equal one's index has the same label
pub place_is : (names found : List NodeName) (i place : ℕ) (x : NodeName) → i < length names → place < length found
    → name_cmp (get_or found place x) (get_or names i x) ≡ Equal → nth (labels_from found) place ≡ nth (labels_from names) i
place_is names found i place x under l tied =
    nth_get found place x l ∙ same_equal (label_from (get_or found place x)) (label_from (get_or names i x)) (ap is_eq tied) ∙ sym (nth_get names i x under)

-- one more name's index is appended
pub started_more : (names found : List NodeName) (i : ℕ) (start new : List ℕ) (place : ℕ) → AreStarted names found i start → place < length found
    → nth (labels_from found) place ≡ nth (labels_from names) i → new ≡ start ++ place ∷ [] → AreStarted names found (i + 1) new
started_more names found i start new place before l at is = record {
  count = omega (arith, ap length is, length-append start (place ∷ []), before.count);
  inside = λ k under. elim (cases_eq k i) [
    | inl e ↦ let v = here k e in omega (arith, v, l)
    | inr off ↦ let v = there k (omega (arith, under, off)) in omega (arith, v, before.inside k (omega (arith, under, off)))
  ];
  place = λ k under. elim (cases_eq k i) [
    | inl e ↦ ap (nth (labels_from found)) (here k e) ∙ at ∙ ap (nth (labels_from names)) (sym e)
    | inr off ↦ ap (nth (labels_from found)) (there k (omega (arith, under, off))) ∙ before.place k (omega (arith, under, off))
  ];
}
  where
    here : (k : ℕ) → k ≡ i → get_or new k 0 ≡ place
    here k e = ap (λ (t : List ℕ). get_or t k 0) is ∙ get_or_push start place 0 k (before.count ∙ sym e)

    there : (k : ℕ) → k < i → get_or new k 0 ≡ get_or start k 0
    there k under = ap (λ (t : List ℕ). get_or t k 0) is ∙ get_or_append_left start (place ∷ []) 0 k (omega (arith, under, before.count))

-- each name of the list is found
pub never_missing : (names found : List NodeName) (i p : ℕ) (d : NodeName) → AreDifferent names found → i < length names
    → (IsNonDecreasingBy (λ y. ordering_index (name_cmp y (get_or names i d))) found → IsPartitionPoint (λ y. name_cmp y (get_or names i d) ≡ Less) (λ y. name_cmp y (get_or names i d) ≡ Greater) found p) → ⊥
never_missing names found i p d are l search_says =
    let x : NodeName = get_or names i d in
    let there = are.to x (Contains-get_or names i d l) in
    let tied : name_cmp (get_or found there.0 there.1) x ≡ Equal =
    ap (λ (y : NodeName). name_cmp y x) there.3 ∙ tied_back name_total x there.1 ((Equal-is (name_cmp x there.1)).0 there.4) in
    let sorted : IsSortedBy (λ a b. is_lt (name_cmp a b)) found =
    λ k e low high. ap is_lt (name_total.antisymm (get_or found (k + 1) e) (get_or found k e) ∙ ap ordering_reverse (Less-from_sorted name_cmp found k (k + 1) e are.rising (omega arith) high)) in
    let point = search_says (searchable_from_sorted name_total (λ y. y) found x sorted) in
    elim (cases_lt there.0 p) [
      | inl under ↦ let e : Less ≡ Equal = sym (point.0 there.0 there.1 (omega arith) under) ∙ tied in cc e
      | inr over ↦ let e : Greater ≡ Equal = sym (point.1 there.0 there.1 over there.2) ∙ tied in cc e
    ]

-- the labels of rising names rise
rising_labels : (found : List NodeName) → IsStrictlySortedBy name_cmp found → (i j : ℕ) → i < j → j < length (labels_from found) → label_cmp (nth (labels_from found) i) (nth (labels_from found) j) ≡ Less
rising_labels [] rising i j up l = absurd (omega (arith, l))
rising_labels (y ∷ ys) rising i j up l =
    let inside : j < length (y ∷ ys) = omega (arith, l, length-map (y ∷ ys) label_from) in
    ap (λ a. label_cmp a (nth (labels_from (y ∷ ys)) j)) (nth_get (y ∷ ys) i y (omega (arith, up, inside)))
    ∙ ap (label_cmp (label_from (get_or (y ∷ ys) i y))) (nth_get (y ∷ ys) j y inside)
    ∙ Less-from_sorted name_cmp (y ∷ ys) i j y rising up inside

-- each distinct label is that of a name
from_names : (names found : List NodeName) → ((x : NodeName) → Contains found x → Contains names x) → (k : ℕ) → k < length (labels_from found)
    → (i : ℕ) × (i < length (labels_from names)) × (nth (labels_from found) k ≡ nth (labels_from names) i)
from_names names [] from k l = absurd (omega (arith, l))
from_names names (y ∷ ys) from k l =
    let inside : k < length (y ∷ ys) = omega (arith, l, length-map (y ∷ ys) label_from) in
    let x : NodeName = get_or (y ∷ ys) k y in
    let there = from x (Contains-get_or (y ∷ ys) k y inside) in
    let under = there.1 in (
      there.0,
      omega (arith, under, length-map names label_from),
      nth_get (y ∷ ys) k y inside ∙ sym (nth_get names there.0 x under ∙ ap label_from there.2),
    )

-- once all names have an index, labels and indices form districts
pub started_all : (names found : List NodeName) (i : ℕ) (start : List ℕ) → AreDifferent names found → i ≡ length names → AreStarted names found i start
    → AreDistricts (labels_from names) (labels_from found) start
started_all names found i start are all is = record {
  rising = rising_labels found are.rising;
  from = from_names names found are.from;
  count = is.count ∙ all ∙ sym (length-map names label_from);
  inside = λ k l. let under : k < i = omega (arith, l, all, length-map names label_from) in omega (arith, is.inside k under, length-map found label_from);
  place = λ k l. is.place k (omega (arith, l, all, length-map names label_from));
}
