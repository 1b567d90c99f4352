-- Joining adjacent mates.
use Rattle.std.proofs.Common.{◌≡◌, ℕ, ◌<◌, ◌≤◌, true, List, length, get_or, sym, ap, ◌∙◌, subst, inl, inr, arith}
use Rattle.std.proofs.lemmas.Bool.{cases_lt}
use Rattle.audit_model.specs.Graph.{Graph, adjacent, IsIn, IsGraph}
use Rattle.audit_model.specs.Local.{is_mate, stays_behind, IsLocal}
use Rattle.audit_model.proofs.ListFacts.{has_at}
use Rattle.audit_model.proofs.Paths.{path_stays, path_within}
use Rattle.dual_graph.specs.Marked.{Marked}
use Rattle.contig.specs.Parts.{part, IsJoined, AllOne, NotOne, IsSeeded}
use Rattle.contig.proofs.Between.{IsLinking}
use Rattle.contig.proofs.Growing.{joined_all, mate_stays}

module _ (g : Graph) (plan : List ℕ) (u last : ℕ) (m : Marked) (s : IsSeeded g plan u last m) where
  pub linking_begins : (roots : List ℕ) → IsJoined g (is_mate g plan u) m.labels roots → length roots ≡ 17 → IsLinking g plan u m roots 1
  linking_begins roots joined long = record { joined = joined; closed = λ k p l. absurd (omega (arith, p, l)); width = long }

  module _ (roots : List ℕ) (place : ℕ) (l : IsLinking g plan u m roots place) where
    pub linked_stays : IsGraph g → IsJoined g (stays_behind plan u) m.labels roots
    linked_stays graph = record { path = λ v w pv pw e. path_within g (is_mate g plan u) (stays_behind plan u) (λ t i. mate_stays g plan u t graph i) v w (l.joined.path v w pv pw e) }

    pub linked_one : 0 < last → AllOne roots last → IsLocal g plan u
    linked_one some one =
        let seed = s.seeds 1 (omega arith) (omega (arith, some)) in
        record {
          inhabited = (seed.0, s.mates seed.0 (omega (arith, seed.1)));
          joined = λ x y ix iy. joined_all g (is_mate g plan u) m.labels roots last l.joined one s.small x y (s.complete x ix) (s.complete y iy);
        }

    pub linked_parted : IsGraph g → length m.items ≤ place → 0 < last → NotOne roots last → IsLocal g plan u → ⊥
    linked_parted graph all some parted local =
        let one = s.seeds 1 (omega arith) (omega (arith, some)) in
        let other = s.seeds parted.0 parted.1 parted.2 in
        let p1 : 0 < get_or m.labels one.0 0 = omega (arith, one.1) in
        let p2 : 0 < get_or m.labels other.0 0 = subst (λ t. 0 < t) (sym other.1) parted.1 in
        let path = local.joined one.0 other.0 (s.mates one.0 p1) (s.mates other.0 p2) in
        let here = path_stays g (is_mate g plan u) (IsHere) step one.0 other.0 path (p1, ap (λ t. get_or roots t 0) one.1) in
        parted.3 (ap (λ t. get_or roots t 0) (sym other.1) ∙ here.1)
      where
        IsHere : ℕ → Type 0
        IsHere v = (0 < get_or m.labels v 0) × (part m.labels roots v ≡ get_or roots 1 0)

        -- the edges of each mate but the first
        joins : (k v w : ℕ) → k < length m.items → get_or m.items k 0 ≡ v → 0 < k → IsIn g (is_mate g plan u) w → adjacent g v w ≡ true → part m.labels roots w ≡ part m.labels roots v
        joins k v w lt is pos i a =
            l.closed k pos (omega (arith, lt, all)) w i (subst (λ t. adjacent g t w ≡ true) (sym is) a) ∙ ap (λ t. part m.labels roots t) is

        step : (v w : ℕ) → IsHere v → IsIn g (is_mate g plan u) w → adjacent g v w ≡ true → IsHere w
        step v w here i a =
            let there : 0 < get_or m.labels w 0 = s.complete w i in
            let at = has_at m.items v (s.marked.listed v here.0) in
            let at_w = has_at m.items w (s.marked.listed w there) in (
              there,
              elim (cases_lt 0 at.0) [
                | inl pos ↦ joins at.0 v w at.1 at.2 pos i a
                | inr first ↦ elim (cases_lt 0 at_w.0) [
                  | inl pos ↦ sym (joins at_w.0 w v at_w.1 at_w.2 pos (s.mates v here.0) (graph.symmetric w v ∙ a))
                  | inr also ↦ ap (λ t. part m.labels roots t) (sym at_w.2 ∙ ap (λ t. get_or m.items t 0) (omega (arith, first, also)) ∙ at.2)
                ]
              ] ∙ here.1,
            )
