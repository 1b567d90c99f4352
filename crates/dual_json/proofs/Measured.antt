-- The lengths of edges that are read against their definition.
use Rattle.std.proofs.Common.{◌≡◌, ℕ, zero, suc, ◌+◌, ◌^◌, ◌<◌, ◌≤◌, Bool, true, false, cond, not, ◌==◌, List, [], ◌++◌, length, get_or, map, Option, Some, None, refl, sym, ap, ◌∙◌, subst, inl, inr, arith}
use Rattle.std.specs.Prelude.{codes, nat_le, nat_lt}
use Rattle.std.specs.List.{All, slice_index_or}
use Rattle.std.specs.Option.{option_and_then, option_map, option_or, unwrap_or}
use Rattle.std.proofs.lemmas.Bool.{cases_Bool, cases_lt, cond-true, cond-false, leb-true, lt-ltb, le-ltb}
use Rattle.std.proofs.lemmas.List.{ext_get_or, get_or_append_left, get_or-append-add, get_or-map, length-append, length-map}
use Rattle.std.proofs.lemmas.List.Elements.{All-append}
use Rattle.serde_json.specs.Data.{Data}
use Rattle.serde_json.specs.Find.{as_number, as_u64, get as member}
use Rattle.audit_model.specs.declared.fault.GraphFault.{GraphFault}
use Rattle.audit_model.specs.declared.fault.GraphFault.TheVariants as fault
use Rattle.audit_model.specs.declared.setting.Columns.{Columns}
use Rattle.audit_model.specs.declared.setting.Label.{Label}
use Rattle.audit_model.specs.Below.{filter_below, join_below, sum_below}
use Rattle.audit_model.specs.First.{first_below, first_some_below}
use Rattle.audit_model.specs.Graph.{Graph, IsGraph, adjacent, has}
use Rattle.audit_model.specs.Label.{same_label}
use Rattle.audit_model.specs.Length.{AreLengths, arc_at, degree, edge_length}
use Rattle.audit_model.proofs.Below.{get_or-map_below}
use Rattle.audit_model.proofs.Connected.{has-filter_below}
use Rattle.audit_model.proofs.First.{first_below_same, first_passes, first_some_below_same, none_first_below}
use Rattle.audit_model.proofs.Lengths.{arc_to, none_lengths}
use Rattle.audit_model.proofs.ListFacts.{at_has, has_at}
use Rattle.audit_statement.specs.Reading.{Document, graph, id_of, joined, node_named, same_id}
use Rattle.audit_statement.specs.Reading as reading
use Rattle.dual_json.specs.Edges.{entries_at, first_entry_in, first_in}
use Rattle.dual_json.specs.Lengths.{all_lengths, fault_if_named, is_labelled, is_unequal, has_no_length, has_no_value, length_between, length_of_pair, length_or_zero, lengths_if_named, listed_length, row_lengths, unequal_fault}
use Rattle.dual_json.specs.Places.{AreLabels, nth, object_at, place_of_label}
use Rattle.dual_json.proofs.Bridge.{entry_same, option_map_same}

-- ---- one list of several

-- the items of the lists up to a place come before those of the list there
module _ (f : ℕ → List ℕ) where
  joined_length : (n : ℕ) → length (join_below n f) ≡ sum_below n (λ u. length (f u))
  joined_length zero = refl
  joined_length (suc n) = let rest = joined_length n in omega (arith, rest, length-append (join_below n f) (f n))

  joined_at : (n u k : ℕ) → u < n → k < length (f u) → get_or (join_below n f) (sum_below u (λ w. length (f w)) + k) 0 ≡ get_or (f u) k 0
  joined_at zero u k l lk = absurd (omega arith)
  joined_at (suc n) u k l lk = elim (cases_lt u n) [
    | inl under ↦
        get_or_append_left (join_below n f) (f n) 0 (sum_below u (λ w. length (f w)) + k) (before under)
        ∙ joined_at n u k under lk
    | inr past ↦
        let e : u ≡ n = omega (arith, l, past) in
        ap (λ (v : ℕ). get_or (join_below n f ++ f n) (sum_below v (λ w. length (f w)) + k) 0) e
        ∙ ap (λ (m : ℕ). get_or (join_below n f ++ f n) (m + k) 0) (sym (joined_length n))
        ∙ get_or-append-add (join_below n f) (f n) k 0
        ∙ ap (λ (v : ℕ). get_or (f v) k 0) (sym e)
  ]
    where
      within : (m v : ℕ) → v < m → sum_below v (λ w. length (f w)) + length (f v) ≤ sum_below m (λ w. length (f w))
      within zero v lv = absurd (omega arith)
      within (suc m) v lv = elim (cases_lt v m) [
        | inl under ↦ let rest = within m v under in omega (arith, rest)
        | inr past ↦
            let e : v ≡ m = omega (arith, lv, past) in
            let same : sum_below v (λ w. length (f w)) ≡ sum_below m (λ w. length (f w)) = ap (λ (j : ℕ). sum_below j (λ w. length (f w))) e in
            let last : length (f v) ≡ length (f m) = ap (λ (j : ℕ). length (f j)) e in
            omega (arith, same, last)
      ]

      before : u < n → sum_below u (λ w. length (f w)) + k < length (join_below n f)
      before under = let all = within n u under in omega (arith, all, lk, joined_length n)

  joined_all : (P : ℕ → Type 0) (n : ℕ) → ((u : ℕ) → All P (f u)) → All P (join_below n f)
  joined_all P zero each = λ k d l. absurd (omega (arith, l))
  joined_all P (suc n) each = All-append P (join_below n f) (f n) (joined_all P n each) (each n)

-- lists that are equal below a bound make equal lists
joined_same : (n : ℕ) (f h : ℕ → List ℕ) → ((u : ℕ) → u < n → f u ≡ h u) → join_below n f ≡ join_below n h
joined_same zero f h same = refl
joined_same (suc n) f h same = ap (λ (xs : List ℕ). xs ++ f n) (joined_same n f h (λ u l. same u (omega arith))) ∙ ap (λ (xs : List ℕ). join_below n h ++ xs) (same n (omega arith))

-- ---- the lengths of a graph

-- a length is at most 2 ^ 32 - 1
small_number : (o : Option ℕ) → unwrap_or (option_and_then (λ n. cond (nat_le n 4294967295) (Some n) None) o) 0 ≤ 4294967295
small_number None = omega arith
small_number (Some n) = by (nat_le n 4294967295) refl
  where
    by : (b : Bool) → nat_le n 4294967295 ≡ b → unwrap_or (cond {A = Option ℕ} b (Some n) None) 0 ≤ 4294967295
    by true e = leb-true n 4294967295 e
    by false e = omega arith

module _ (key : List ℕ) (ids : List Label) (lists : List (List Data)) where
  small_value : (o : Option Data) → unwrap_or (option_and_then (λ d. option_and_then (λ n. cond (nat_le n 4294967295) (Some n) None) (option_and_then as_u64 (as_number d))) o) 0 ≤ 4294967295
  small_value None = omega arith
  small_value (Some v) = small_number (option_and_then as_u64 (as_number v))

  small_entry : (d : Data) → length_or_zero key d ≤ 4294967295
  small_entry d = small_value (member key d)

  small_listed : (label : Label) (entries : List Data) (o : Option ℕ) → unwrap_or (option_map (λ place. length_or_zero key (object_at entries place)) o) 0 ≤ 4294967295
  small_listed label entries None = omega arith
  small_listed label entries (Some place) = small_entry (object_at entries place)

  small_or : (a b : Option ℕ) → unwrap_or a 0 ≤ 4294967295 → unwrap_or b 0 ≤ 4294967295 → unwrap_or (option_or a b) 0 ≤ 4294967295
  small_or None b la lb = lb
  small_or (Some x) b la lb = la

  small_pair : (i j : ℕ) → length_of_pair key ids lists i j ≤ 4294967295
  small_pair i j = small_or (listed_length key (nth ids j) (entries_at lists i)) (listed_length key (nth ids i) (entries_at lists j))
      (small_listed (nth ids j) (entries_at lists i) (first_in (is_labelled (nth ids j)) (entries_at lists i)))
      (small_listed (nth ids i) (entries_at lists j) (first_in (is_labelled (nth ids i)) (entries_at lists j)))

  small_between : (i j : ℕ) → length_between key ids lists i j ≤ 4294967295
  small_between i j = elim (cases_Bool (nat_lt i j)) [
    | inl e ↦ let is = cond-true {A = ℕ} (nat_lt i j) (length_of_pair key ids lists i j) (length_of_pair key ids lists j i) e in omega (arith, is, small_pair i j)
    | inr e ↦ let is = cond-false {A = ℕ} (nat_lt i j) (length_of_pair key ids lists i j) (length_of_pair key ids lists j i) e in omega (arith, is, small_pair j i)
  ]

  -- the length between two nodes is the same in both directions
  between_turned : (i j : ℕ) → length_between key ids lists i j ≡ length_between key ids lists j i
  between_turned i j = elim (cases_lt i j) [
    | inl l ↦
        cond-true {A = ℕ} (nat_lt i j) (length_of_pair key ids lists i j) (length_of_pair key ids lists j i) (lt-ltb i j l)
        ∙ sym (cond-false {A = ℕ} (nat_lt j i) (length_of_pair key ids lists j i) (length_of_pair key ids lists i j) (le-ltb j i (omega (arith, l))))
    | inr past ↦ elim (cases_lt j i) [
      | inl l ↦
          cond-false {A = ℕ} (nat_lt i j) (length_of_pair key ids lists i j) (length_of_pair key ids lists j i) (le-ltb i j past)
          ∙ sym (cond-true {A = ℕ} (nat_lt j i) (length_of_pair key ids lists j i) (length_of_pair key ids lists i j) (lt-ltb j i l))
      | inr other ↦
          let e : i ≡ j = omega (arith, past, other) in
          ap (λ (k : ℕ). length_between key ids lists k j) e ∙ ap (λ (k : ℕ). length_between key ids lists j k) (sym e)
    ]
  ]

  module _ (g : Graph) (sound : IsGraph g) where
    row_length : (u : ℕ) → length (row_lengths key ids lists g u) ≡ degree g u
    row_length u = length-map (slice_index_or g.neighbours u []) (length_between key ids lists u)

    sums_same : (n : ℕ) → sum_below n (λ u. length (row_lengths key ids lists g u)) ≡ sum_below n (degree g)
    sums_same zero = refl
    sums_same (suc n) = let rest = sums_same n in omega (arith, rest, row_length n)

    -- the length of an edge is that between its two nodes
    length_is : (u v : ℕ) → adjacent g u v ≡ true → edge_length g (all_lengths key ids lists g) u v ≡ length_between key ids lists u v
    length_is u v near =
        let row : List ℕ = slice_index_or g.neighbours u [] in
        let inside : u < g.units = sound.below v u (sound.symmetric v u ∙ near) in
        let at = has_at row v near in
        let arc : arc_at g u v ≡ sum_below u (λ w. length (row_lengths key ids lists g w)) + at.0 =
        ap (arc_at g u) (sym at.2) ∙ arc_to g u at.0 sound at.1 ∙ ap (λ (m : ℕ). m + at.0) (sym (sums_same u)) in
        ap (λ (k : ℕ). get_or (all_lengths key ids lists g) k 0) arc
        ∙ joined_at (row_lengths key ids lists g) g.units u at.0 inside (subst (λ (m : ℕ). at.0 < m) (sym (row_length u)) at.1)
        ∙ get_or-map (length_between key ids lists u) row at.0 0 0 at.1
        ∙ ap (length_between key ids lists u) at.2

    small_row : (u : ℕ) (row : List ℕ) → All (λ l. l < 2 ^ 32) (map (length_between key ids lists u) row)
    small_row u row k d l =
        let inside : k < length row = subst (λ (m : ℕ). k < m) (length-map row (length_between key ids lists u)) l in
        let is : get_or (map (length_between key ids lists u) row) k d ≡ length_between key ids lists u (get_or row k 0) =
        get_or-map (length_between key ids lists u) row k 0 d inside in
        let small = small_between u (get_or row k 0) in
        omega (arith, is, small)

    pub are_lengths : AreLengths g (all_lengths key ids lists g)
    are_lengths = record {
      width = inr (joined_length (row_lengths key ids lists g) g.units ∙ sums_same g.units);
      small = joined_all (row_lengths key ids lists g) (λ l. l < 2 ^ 32) g.units (λ u. small_row u (slice_index_or g.neighbours u []));
      symmetric = λ u v near. length_is u v near ∙ between_turned u v ∙ sym (length_is v u (sound.symmetric v u ∙ near));
    }

    -- the lengths that are read, or none, are lengths of the graph
    pub lengths_are : (lengths : List ℕ) → lengths ≡ lengths_if_named key ids lists g → AreLengths g lengths
    lengths_are lengths is = by (not (length key == 0)) is
      where
        by : (b : Bool) → lengths ≡ cond b (all_lengths key ids lists g) [] → AreLengths g lengths
        by true all = subst (AreLengths g) (sym all) are_lengths
        by false none = none_lengths g lengths none

-- ---- the definition

-- the last of several options
or_none : {A : Type 0} → (o : Option A) → option_or o None ≡ o
or_none None = refl
or_none (Some a) = refl

module _ (d : Document) (columns : Columns) (ids : List Label) (are : AreLabels (codes "id") d.nodes ids) (long : length d.nodes ≡ length d.adjacency) where
  -- the entry that names a node has its id
  listed_same : (i j : ℕ) → j < length d.nodes → reading.listed_length d columns i j ≡ listed_length columns.length (nth ids j) (entries_at d.adjacency i)
  listed_same i j l =
      ap (λ o. option_map (λ place. length_or_zero columns.length (object_at (entries_at d.adjacency i) place))
      (first_below (length (entries_at d.adjacency i)) (λ place. same_id (id_of (object_at (entries_at d.adjacency i) place)) o))) (are.each j l)

  pair_same : (i j : ℕ) → i < length d.nodes → j < length d.nodes → reading.length_from d columns i j ≡ length_of_pair columns.length ids d.adjacency i j
  pair_same i j li lj =
      ap (λ o. unwrap_or (option_or o (reading.listed_length d columns j i)) 0) (listed_same i j lj)
      ∙ ap (λ o. unwrap_or (option_or (listed_length columns.length (nth ids j) (entries_at d.adjacency i)) o) 0) (listed_same j i li)

  between_same : (i j : ℕ) → i < length d.nodes → j < length d.nodes → reading.length_between d columns i j ≡ length_between columns.length ids d.adjacency i j
  between_same i j li lj =
      ap (λ (n : ℕ). cond (nat_lt i j) n (reading.length_from d columns j i)) (pair_same i j li lj)
      ∙ ap (λ (n : ℕ). cond (nat_lt i j) (length_of_pair columns.length ids d.adjacency i j) n) (pair_same j i lj li)

  -- an entry names the node with its id
  named_by : (o : Option Label) → first_below (length d.nodes) (λ j. same_id o (id_of (object_at d.nodes j))) ≡ option_and_then (place_of_label ids) o
  named_by None = none_first_below (length d.nodes) (λ j. same_id None (id_of (object_at d.nodes j))) (λ j l. refl)
  named_by (Some l) =
      first_below_same (length d.nodes) (λ j. same_id (Some l) (id_of (object_at d.nodes j))) (λ j. same_label l (nth ids j)) (λ j inside. ap (same_id (Some l)) (are.each j inside))
      ∙ ap (λ m. first_below m (λ j. same_label l (nth ids j))) (sym are.count)

  unequal_same : (i : ℕ) (e : Data) → i < length d.nodes → reading.is_unequal d columns i e ≡ is_unequal columns.length ids d.adjacency i e
  unequal_same i e l =
      ap (λ o. unwrap_or o false) (option_map_same (node_named d columns e) (λ j. not (length_or_zero columns.length e == reading.length_between d columns i j))
      (λ j. not (length_or_zero columns.length e == length_between columns.length ids d.adjacency i j))
      (λ j is. ap (λ (n : ℕ). not (length_or_zero columns.length e == n))
      (between_same i j l (first_passes (length d.nodes) (λ k. same_id (id_of e) (id_of (object_at d.nodes k))) j is).0)))
      ∙ ap (λ o. unwrap_or (option_map (λ j. not (length_or_zero columns.length e == length_between columns.length ids d.adjacency i j)) o) false) (named_by (id_of e))

  unequals_same : first_some_below (length d.nodes)
      (λ i. option_map (fault.UnequalLengths i) (first_below (length (entries_at d.adjacency i)) (λ place. reading.is_unequal d columns i (object_at (entries_at d.adjacency i) place))))
      ≡ unequal_fault columns.length ids d.adjacency
  unequals_same =
      first_some_below_same (length d.nodes)
      (λ i. option_map (fault.UnequalLengths i) (first_below (length (entries_at d.adjacency i)) (λ place. reading.is_unequal d columns i (object_at (entries_at d.adjacency i) place))))
      (λ i. option_map (fault.UnequalLengths i) (first_in (is_unequal columns.length ids d.adjacency i) (entries_at d.adjacency i)))
      (λ i l. ap (option_map (fault.UnequalLengths i)) (first_below_same (length (entries_at d.adjacency i))
      (λ place. reading.is_unequal d columns i (object_at (entries_at d.adjacency i) place)) (λ place. is_unequal columns.length ids d.adjacency i (object_at (entries_at d.adjacency i) place))
      (λ place lp. unequal_same i (object_at (entries_at d.adjacency i) place) l)))
      ∙ ap (λ m. first_some_below m (λ i. option_map (fault.UnequalLengths i) (first_in (is_unequal columns.length ids d.adjacency i) (entries_at d.adjacency i)))) long

  -- the fault of the lengths is the definition's
  pub length_fault_same : reading.length_fault d columns ≡ fault_if_named columns.length ids d.adjacency
  length_fault_same = ap (λ o. cond (not (length columns.length == 0)) o None) (
      ap (λ o. option_or o (option_or (first_entry_of (has_no_length columns.length) fault.BadLength) (option_or unequals None)))
      (entry_same d ids are (has_no_value columns.length) (has_no_value columns.length) fault.MissingLength long (λ x. refl))
      ∙ ap (λ o. option_or missing (option_or o (option_or unequals None)))
      (entry_same d ids are (has_no_length columns.length) (has_no_length columns.length) fault.BadLength long (λ x. refl))
      ∙ ap (λ o. option_or missing (option_or bad o)) (or_none unequals ∙ unequals_same))
    where
      first_entry_of : (Data → Bool) → (ℕ → ℕ → GraphFault) → Option GraphFault
      first_entry_of test f = first_some_below (length d.nodes) (λ i. option_map (f i) (first_in test (entries_at d.adjacency i)))

      unequals : Option GraphFault
      unequals = first_some_below (length d.nodes)
          (λ i. option_map (fault.UnequalLengths i) (first_below (length (entries_at d.adjacency i)) (λ place. reading.is_unequal d columns i (object_at (entries_at d.adjacency i) place))))

      missing : Option GraphFault
      missing = first_entry_in (has_no_value columns.length) fault.MissingLength d.adjacency

      bad : Option GraphFault
      bad = first_entry_in (has_no_length columns.length) fault.BadLength d.adjacency

  -- functions that agree on a list's items map it alike
  map_same : (xs : List ℕ) (f h : ℕ → ℕ) → ((v : ℕ) → has xs v ≡ true → f v ≡ h v) → map f xs ≡ map h xs
  map_same xs f h same = ext_get_or 0 (map f xs) (map h xs) (length-map xs f ∙ sym (length-map xs h))
      (λ k l.
      let inside : k < length xs = subst (λ (m : ℕ). k < m) (length-map xs f) l in
      get_or-map f xs k 0 0 inside ∙ same (get_or xs k 0) (at_has xs k inside) ∙ sym (get_or-map h xs k 0 0 inside))

  row_same : (i : ℕ) → i < length d.nodes → reading.lengths_at d columns i ≡ row_lengths columns.length ids d.adjacency (graph d) i
  row_same i l =
      map_same (filter_below (length d.nodes) (joined d i)) (reading.length_between d columns i) (length_between columns.length ids d.adjacency i)
      (λ v h. between_same i v l (has-filter_below (length d.nodes) (joined d i) v h).0)
      ∙ ap (map (length_between columns.length ids d.adjacency i))
      (sym (get_or-map_below (length d.nodes) (λ k. filter_below (length d.nodes) (joined d k)) i [] l))

  -- the lengths are the definition's
  pub lengths_same : cond (not (length columns.length == 0)) (join_below (length d.nodes) (reading.lengths_at d columns)) []
      ≡ lengths_if_named columns.length ids d.adjacency (graph d)
  lengths_same = ap (λ (xs : List ℕ). cond (not (length columns.length == 0)) xs [])
      (joined_same (length d.nodes) (reading.lengths_at d columns) (row_lengths columns.length ids d.adjacency (graph d)) row_same)
