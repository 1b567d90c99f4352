-- JSON gives one graph.
use Rattle.std.proofs.Common.{◌≡◌, ◌≢◌, ◌⊎◌, ℕ, ◌<◌, Bool, true, List, [], ◌∷◌, length, map, Option, Some, refl, sym, ap, ◌∙◌, subst, arith}
use Rattle.std.specs.Prelude.{slice_index, codes, option_and_then, unwrap_or}
use Rattle.std.specs.List.{slice_index_or}
use Rattle.std.proofs.lemmas.Bool.{eqb-true}
use Rattle.std.proofs.lemmas.List.{ext_get_or}
use Rattle.serde_json.specs.Data.{Data}
use Rattle.serde_json.specs.Find.{as_number, as_u64, get}
use Rattle.audit_model.specs.declared.setting.Label.{Label}
use Rattle.audit_model.specs.declared.setting.Label.TheVariants.{Word}
use Rattle.audit_model.specs.Graph.{adjacent}
use Rattle.audit_model.specs.Job.{Job}
use Rattle.audit_model.specs.Label.{label_before}
use Rattle.audit_statement.specs.Reading.{list_of}
use Rattle.audit_model.proofs.Bools.{same_bool}
use Rattle.dual_json.proofs.Listed.{elements-items_of}
use Rattle.audit_laws.proofs.Numbering.{IsOnto, same_bound, same_numbers}
use Rattle.audit_laws.specs.Determined.{AreOfOneGraph, GivenJobsAreOfOneGraph, ReadAlike}
use Rattle.audit_statement.specs.Given.{IsGiven, Names, count, label_under, list}
use Rattle.audit_statement.specs.Valid.{IsValid}

-- mapping a function and then its inverse gives the list back
pub undone : {X Y : Type 0} (f : X → Y) (g : Y → X) → ((x : X) → g (f x) ≡ x) → (xs : List X) → map g (map f xs) ≡ xs
undone f g back [] = refl
undone {X} f g back (x ∷ xs) = ap (λ (y : X). y ∷ map g (map f xs)) (back x) ∙ ap (λ (ys : List X). x ∷ ys) (undone f g back xs)

-- lists that a function with an inverse maps to the same list are equal
pub same_lists : {X Y : Type 0} (f : X → Y) (g : Y → X) → ((x : X) → g (f x) ≡ x) → (xs ys : List X) → map f xs ≡ map f ys → xs ≡ ys
same_lists f g back xs ys e = sym (undone f g back xs) ∙ ap (map g) e ∙ undone f g back ys

-- a value read as two lists has equal lists
pub same_arrays : (o : Option Data) (xs ys : List Data) → o ≡ Some (list xs) → o ≡ Some (list ys) → xs ≡ ys
same_arrays o xs ys p q =
    let both : Some (list xs) ≡ Some (list ys) = sym p ∙ q in
    sym (elements-items_of xs) ∙ ap (λ (t : Option Data). unwrap_or (option_and_then list_of t) []) both ∙ elements-items_of ys

-- a numbering of the districts without gaps
pub record IsNumbered (a : Job) : Type 0 where
  pub complete : length a.start ≡ a.graph.units
  pub onto : IsOnto a.graph.units a.districts (slice_index a.start)

-- the districts of a valid plan are numbered without gaps
pub valid_is_numbered : (a : Job) → IsValid a a.start → IsNumbered a
valid_is_numbered a valid = record {
  complete = valid.complete;
  onto = record {
    within = valid.in_range;
    each = λ d l.
        let some = (valid.connected d l).inhabited in
        (some.0, some.1.0, eqb-true (slice_index a.start some.0) d some.1.1);
  };
}

module _ (root : Data) (a b : Job) (columns : ReadAlike a.setting.columns b.setting.columns) (g : IsGiven root a) (h : IsGiven root b)
    (valid : IsNumbered a) (other : IsNumbered b) where
  nodes : g.nodes ≡ h.nodes
  nodes = same_arrays (get (codes "nodes") root) g.nodes h.nodes g.nodes_are h.nodes_are

  lists : g.lists ≡ h.lists
  lists = same_lists list (λ d. unwrap_or (list_of d) []) elements-items_of g.lists h.lists
      (same_arrays (get (codes "adjacency") root) (map list g.lists) (map list h.lists) g.lists_are h.lists_are)

  ids : g.ids ≡ h.ids
  ids = same_lists Some (λ (o : Option Label). unwrap_or o (Word [])) (λ x. refl) g.ids h.ids
      (sym g.ids_are ∙ ap (map (label_under (codes "id"))) nodes ∙ h.ids_are)

  labels : g.labels ≡ h.labels
  labels = same_lists Some (λ (o : Option Label). unwrap_or o (Word [])) (λ x. refl) g.labels h.labels
      (sym g.labels_are ∙ ap (λ (key : List ℕ). map (label_under key) g.nodes) columns.district ∙ ap (map (label_under b.setting.columns.district)) nodes ∙ h.labels_are)

  units : a.graph.units ≡ b.graph.units
  units = sym g.units.0 ∙ ap length nodes ∙ h.units.0

  numbers : (key other : List ℕ) (xs ys : List ℕ) → key ≡ other → map (get key) g.nodes ≡ map count xs → map (get other) h.nodes ≡ map count ys → xs ≡ ys
  numbers key other xs ys same p q = same_lists count (λ (o : Option Data). unwrap_or (option_and_then as_u64 (option_and_then as_number o)) 0) (λ n. refl) xs ys
      (sym p ∙ ap (λ (k : List ℕ). map (get k) g.nodes) same ∙ ap (map (get other)) nodes ∙ q)

  abbrev Joins : List Label → List (List Data) → ℕ → ℕ → Type 0
  Joins names entries u v = (u ≢ v) × (Names names (slice_index_or entries u []) v ⊎ Names names (slice_index_or entries v []) u)

  joins : (u v : ℕ) → Joins g.ids g.lists u v ≡ Joins h.ids h.lists u v
  joins u v = ap (λ (names : List Label). Joins names g.lists u v) ids ∙ ap (λ (entries : List (List Data)). Joins h.ids entries u v) lists

  edges : (u v : ℕ) → u < a.graph.units → v < a.graph.units → adjacent a.graph u v ≡ adjacent b.graph u v
  edges u v l m =
      let in_a = g.edges u v l m in
      let in_b = h.edges u v (omega (arith, l, units)) (omega (arith, m, units)) in
      same_bool (adjacent a.graph u v) (adjacent b.graph u v)
      (λ yes-a. in_b.1 (subst (λ (T : Type 0). T) (joins u v) (in_a.0 yes-a)))
      (λ yes-b. in_a.1 (subst (λ (T : Type 0). T) (sym (joins u v)) (in_b.0 yes-b)))

  abbrev before : List Label → ℕ → ℕ → Bool
  before names u v = label_before (slice_index_or names u (Word [])) (slice_index_or names v (Word []))

  there : (u v : ℕ) → u < a.graph.units → v < a.graph.units → slice_index a.start u < slice_index a.start v → slice_index b.start u < slice_index b.start v
  there u v p q less = (h.order u v (omega (arith, p, units)) (omega (arith, q, units))).1
      (subst (λ (names : List Label). before names u v ≡ true) labels ((g.order u v p q).0 less))

  back : (u v : ℕ) → u < a.graph.units → v < a.graph.units → slice_index b.start u < slice_index b.start v → slice_index a.start u < slice_index a.start v
  back u v p q less = (g.order u v p q).1
      (subst (λ (names : List Label). before names u v ≡ true) (sym labels) ((h.order u v (omega (arith, p, units)) (omega (arith, q, units))).0 less))

  second_onto : IsOnto a.graph.units b.districts (slice_index b.start)
  second_onto = subst (λ (n : ℕ). IsOnto n b.districts (slice_index b.start)) (sym units) other.onto

  at : (u : ℕ) → u < a.graph.units → slice_index a.start u ≡ slice_index b.start u
  at = same_numbers a.graph.units a.districts b.districts (slice_index a.start) (slice_index b.start) valid.onto second_onto there back

  pub one_graph : AreOfOneGraph a b
  one_graph =
      let people = numbers _ _ a.counts.population b.counts.population columns.population g.population h.population in
      let firsts = numbers _ _ a.counts.first b.counts.first columns.first g.first h.first in
      let seconds = numbers _ _ a.counts.second b.counts.second columns.second g.second h.second in
      let none : a.counts.lengths ≡ b.counts.lengths = g.no_lengths columns.no_lengths.0 ∙ sym (h.no_lengths columns.no_lengths.1) in
      record {
        units = units;
        edges = edges;
        counts = ap (λ (xs : List ℕ). record { population = xs; first = a.counts.first; second = a.counts.second; lengths = a.counts.lengths }) people
            ∙ ap (λ (xs : List ℕ). record { population = b.counts.population; first = xs; second = a.counts.second; lengths = a.counts.lengths }) firsts
            ∙ ap (λ (xs : List ℕ). record { population = b.counts.population; first = b.counts.first; second = xs; lengths = a.counts.lengths }) seconds
            ∙ ap (λ (xs : List ℕ). record { population = b.counts.population; first = b.counts.first; second = b.counts.second; lengths = xs }) none;
        districts = same_bound a.graph.units a.districts b.districts (slice_index a.start) (slice_index b.start) valid.onto second_onto there back;
        start = ext_get_or 0 a.start b.start (omega (arith, valid.complete, other.complete, units))
            (λ u l. at u (omega (arith, l, valid.complete)));
      }

-- two jobs with valid start plans that one JSON gives have one graph
pub given_jobs_are_of_one_graph : GivenJobsAreOfOneGraph
given_jobs_are_of_one_graph root a b columns g h valid other = one_graph root a b columns g h (valid_is_numbered a valid) (valid_is_numbered b other)
