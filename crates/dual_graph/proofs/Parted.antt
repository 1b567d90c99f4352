-- The two units that show that a set is not connected, from the result of the search.
use Rattle.std.proofs.Common.{◌≡◌, ℕ, Bool, true, false, not, ◌&&◌, List, Option, Some, None, refl, sym, ap, ◌∙◌, subst}
use Rattle.std.specs.Option.{is_some}
use Rattle.std.specs.Prelude.{◌↔◌, unwrap_or}
use Rattle.std.proofs.lemmas.Bool.{and_parts, and_from, cond-true, cond-false, both_ways, not_from_true, not_from_false, false_from_ne_true, true_from_ne_false, and_left}
use Rattle.audit_model.specs.First.{first_below}
use Rattle.audit_model.specs.Graph.{Graph, IsGraph, has, IsIn}
use Rattle.audit_model.specs.Path.{HasPath, IsConnected, is_connected, reached}
use Rattle.audit_model.proofs.Connected.{connected_passes, passes_connected, reached_has_path, path_is_reached}
use Rattle.audit_model.proofs.Bools.{same_bool}
use Rattle.audit_model.proofs.First.{first_below_none, none_first_below, first_below_some, first_below_same}
use Rattle.audit_model.proofs.Searching.{whole}
use Rattle.dual_graph.specs.DisconnectedPair.{least_in, disconnected_unit_in, disconnected_pair_of}

-- a conjunction depends on its second part only if the first holds
and_same : (a b c : Bool) → (a ≡ true → b ≡ c) → (a && not b) ≡ (a && not c)
and_same true b c h = ap not (h refl)
and_same false b c h = refl

module _ (g : Graph) (inside : ℕ → Bool) where
  -- the result for an empty set
  pub parting_of_none : first_below g.units inside ≡ None → disconnected_pair_of g inside ≡ Some (0, 0)
  parting_of_none none =
      let off : is_connected g inside ≡ false = false_from_ne_true (is_connected g inside) (λ h.
      let some = (passes_connected g inside h).inhabited in
      both_ways (inside some.0) (first_below_none g.units inside some.0 none some.1.0) some.1.1) in
      let least : least_in g inside ≡ 0 = ap (λ o. unwrap_or o 0) none in
      let parted : disconnected_unit_in g inside ≡ 0 = ap (λ o. unwrap_or o 0)
      (none_first_below g.units (λ u. inside u && not (has (reached g inside (least_in g inside)) u))
      (λ k l. and_left (inside k) (not (has (reached g inside (least_in g inside)) k)) (first_below_none g.units inside k none l))) in
      cond-false (is_connected g inside) None (Some (least_in g inside, disconnected_unit_in g inside)) off
      ∙ ap (λ (n : ℕ). Some (n, disconnected_unit_in g inside)) least ∙ ap (λ (n : ℕ). Some (0, n)) parted

  module _ (graph : IsGraph g) (one : ℕ) (found : List ℕ) (first : first_below g.units inside ≡ Some one)
      (search : (v : ℕ) → (has found v ≡ true) ↔ HasPath g inside one v) where
    is_in : IsIn g inside one
    is_in = first_below_some g.units inside one first

    missed : ℕ → Bool
    missed u = inside u && not (has found u)

    -- the result if the search reached the whole set
    pub parting_of_whole : first_below g.units (λ u. inside u && not (has found u)) ≡ None → disconnected_pair_of g inside ≡ None
    parting_of_whole none =
        let all : (v : ℕ) → IsIn g inside v → has found v ≡ true = λ v i. true_from_ne_false (has found v) (λ h.
        both_ways (inside v && not (has found v)) (first_below_none g.units (λ u. inside u && not (has found u)) v none i.0)
        (and_from (inside v) (not (has found v)) i.1 (not_from_false (has found v) h))) in
        cond-true (is_connected g inside) None (Some (least_in g inside, disconnected_unit_in g inside))
        (connected_passes g inside ((whole g inside graph one found is_in search).0 all))

    -- the result if the search missed some unit
    pub parting_of_parted : (other : ℕ) → first_below g.units (λ u. inside u && not (has found u)) ≡ Some other → disconnected_pair_of g inside ≡ Some (one, other)
    parting_of_parted other some =
        let at = first_below_some g.units (λ u. inside u && not (has found u)) other some in
        let both = and_parts (inside other) (not (has found other)) at.1 in
        let off : is_connected g inside ≡ false = false_from_ne_true (is_connected g inside) (λ h.
        both_ways (not (has found other)) (not_from_true (has found other) ((whole g inside graph one found is_in search).1 (passes_connected g inside h) other (at.0, both.0))) both.1) in
        let least : least_in g inside ≡ one = ap (λ o. unwrap_or o 0) first in
        let same : (v : ℕ) → has (reached g inside (least_in g inside)) v ≡ has found v = λ v.
        subst (λ (n : ℕ). has (reached g inside n) v ≡ has found v) (sym least)
        (same_bool (has (reached g inside one) v) (has found v) (λ h. (search v).1 (reached_has_path g inside one v h)) (λ h. path_is_reached g inside one v is_in ((search v).0 h))) in
        let parted : disconnected_unit_in g inside ≡ other =
        ap (λ o. unwrap_or o 0) (first_below_same g.units (λ u. inside u && not (has (reached g inside (least_in g inside)) u)) (λ u. inside u && not (has found u))
        (λ k l. and_same (inside k) (has (reached g inside (least_in g inside)) k) (has found k) (λ _. same k)) ∙ some) in
        cond-false (is_connected g inside) None (Some (least_in g inside, disconnected_unit_in g inside)) off
        ∙ ap (λ (n : ℕ). Some (n, disconnected_unit_in g inside)) least ∙ ap (λ (n : ℕ). Some (one, n)) parted

-- no such units exist exactly if the set is connected
pub none_is_whole : (g : Graph) (inside : ℕ → Bool) (parted : Option (ℕ × ℕ)) (none : Bool) → parted ≡ disconnected_pair_of g inside → is_some parted ≡ not none
    → (none ≡ true) ↔ IsConnected g inside
none_is_whole g inside parted none is observed =
    let units : Option (ℕ × ℕ) = Some (least_in g inside, disconnected_unit_in g inside) in
    let on : is_connected g inside ≡ true → not none ≡ false = λ h. sym observed ∙ ap is_some (is ∙ cond-true (is_connected g inside) None units h) in
    let off : is_connected g inside ≡ false → not none ≡ true = λ h. sym observed ∙ ap is_some (is ∙ cond-false (is_connected g inside) None units h) in (
      λ h. passes_connected g inside (true_from_ne_false (is_connected g inside) (λ not_so. both_ways (not none) (not_from_true none h) (off not_so))),
      λ connected. true_from_ne_false none (λ h. both_ways (not none) (on (connected_passes g inside connected)) (not_from_false none h)),
    )
