-- Mates in two parts: a unit may leave exactly if a path joins the parts.
use Rattle.std.proofs.Common.{◌≡◌, ℕ, ◌+◌, ◌-◌, ◌<◌, ◌≤◌, List, length, get_or, sym, ap, subst, ◌∙◌, inl, inr, arith}
use Rattle.std.specs.Prelude.{◌↔◌, slice_index}
use Rattle.audit_model.specs.Graph.{Graph, IsGraph, IsIn}
use Rattle.audit_model.specs.Path.{HasPath, IsConnected}
use Rattle.audit_model.specs.District.{in_district}
use Rattle.audit_model.specs.Local.{is_mate, stays_behind, MayLeave}
use Rattle.audit_model.proofs.ListFacts.{has_at}
use Rattle.audit_model.proofs.Paths.{path_joined}
use Rattle.audit_model.proofs.Searching.{path_turned}
use Rattle.dual_graph.specs.Marked.{Marked}
use Rattle.contig.specs.Parts.{IsJoined, IsSeeded, AreTwo}
use Rattle.contig.proofs.Growing.{mate_stays}
use Rattle.contig.proofs.Leaving.{leaves}

module _ (g : Graph) (plan : List ℕ) (u last : ℕ) (m : Marked) (s : IsSeeded g plan u last m) where
  -- the mates stand in the order of their labels
  pub mate_at : (l : ℕ) → 0 < l → l ≤ last → (l - 1 < length m.items) × (get_or m.labels (get_or m.items (l - 1) 0) 0 ≡ l)
  mate_at l p b =
      let seed = s.seeds l p b in
      let place = has_at m.items seed.0 (s.marked.listed seed.0 (subst (λ t. 0 < t) (sym seed.1) p)) in
      let is : place.0 + 1 ≡ l = sym (s.order place.0 place.1) ∙ ap (λ t. get_or m.labels t 0) place.2 ∙ seed.1 in
      let at : place.0 ≡ l - 1 = omega (arith, is) in
      subst (λ k. (k < length m.items) × (get_or m.labels (get_or m.items k 0) 0 ≡ l)) at (place.1, ap (λ t. get_or m.labels t 0) place.2 ∙ seed.1)

  module _ (graph : IsGraph g) (label one other : ℕ) (some : 0 < label) (within : label ≤ last) (first : one ≡ get_or m.items 0 0) (at : other ≡ get_or m.items (label - 1) 0) where
    is_one : get_or m.labels one 0 ≡ 1
    is_one = ap (λ t. get_or m.labels t 0) first ∙ (mate_at 1 (omega arith) (omega (arith, some, within))).1

    is_other : get_or m.labels other 0 ≡ label
    is_other = ap (λ t. get_or m.labels t 0) at ∙ (mate_at label some within).1

    labelled_one : 0 < get_or m.labels one 0
    labelled_one = omega (arith, is_one)

    labelled_other : 0 < get_or m.labels other 0
    labelled_other = omega (arith, is_other, some)

    pub one_stays : IsIn g (stays_behind plan u) one
    one_stays = mate_stays g plan u one graph (s.mates one labelled_one)

    pub other_stays : IsIn g (stays_behind plan u) other
    other_stays = mate_stays g plan u other graph (s.mates other labelled_other)

    -- mates of two parts are two units
    pub two_units : (roots : List ℕ) → (get_or roots label 0 ≡ get_or roots 1 0 → ⊥) → one ≡ other → ⊥
    two_units roots parted e = parted (ap (λ t. get_or roots t 0) (sym is_other ∙ ap (λ t. get_or m.labels t 0) (sym e) ∙ is_one))

    module _ (lt : u < g.units) (connected : IsConnected g (in_district plan (slice_index plan u)))
        (roots : List ℕ) (joined : IsJoined g (stays_behind plan u) m.labels roots) (two : AreTwo roots last label) where
      -- if a path joins the parts, it joins each mate with the first one
      to_one : HasPath g (stays_behind plan u) one other → (v : ℕ) → IsIn g (is_mate g plan u) v → HasPath g (stays_behind plan u) v one
      to_one path v i =
          let labelled = s.complete v i in
          elim (two (get_or m.labels v 0) labelled (s.small v)) [
            | inl e ↦ joined.path v one labelled labelled_one (e ∙ ap (λ t. get_or roots t 0) (sym is_one))
            | inr e ↦ path_joined g (stays_behind plan u) v other one
                (joined.path v other labelled labelled_other (e ∙ ap (λ t. get_or roots t 0) (sym is_other)))
                (path_turned g (stays_behind plan u) graph one other path)
          ]

      pub two_leave : HasPath g (stays_behind plan u) one other ↔ MayLeave g plan u
      two_leave = (
        λ path. leaves g plan u graph lt connected one one_stays
            (λ a b ia ib. path_joined g (stays_behind plan u) a one b (to_one path a ia) (path_turned g (stays_behind plan u) graph b one (to_one path b ib))),
        λ may. may.joined one other one_stays other_stays,
      )
