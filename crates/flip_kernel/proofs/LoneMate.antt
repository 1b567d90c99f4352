-- Units with a neighbor in their district that has no other neighbor there.
use Rattle.std.proofs.Common.{◌≡◌, ℕ, ◌<◌, ◌≤◌, Bool, true, not, ◌&&◌, ◌==◌, List, get_or, refl, ◌∙◌, subst, inl, inr, arith}
use Rattle.std.proofs.lemmas.Bool.{cases_eq, eq-eqb, both_ways, not-true, and_from, and_parts}
use Rattle.audit_model.specs.District.{in_district}
use Rattle.audit_model.specs.Graph.{Graph, IsGraph, IsIn, adjacent}
use Rattle.audit_model.specs.Local.{is_mate, stays_behind, MayLeave}
use Rattle.audit_model.proofs.Below.{count_below_without}
use Rattle.audit_model.proofs.Paths.{path_stays}
use Rattle.contig.proofs.Growing.{mate_stays}
use Rattle.district_sums.specs.Following.{count_near}
use Rattle.flip_kernel.specs.Nearby.{entry, HasLoneMate, IsLoneMate}
use Rattle.flip_kernel.proofs.NearPairs.{entry_own, entry_other}
use Rattle.flip_kernel.proofs.OneMate.{some_counted, one_counted}

-- the entry 129 shows that a neighbor is a lone mate
pub lone_from : (g : Graph) (plan : List ℕ) (u v n : ℕ) → IsGraph g → count_near g plan v (get_or plan u 0) ≤ 127 → adjacent g u v ≡ true
    → n ≡ entry g plan v (get_or plan u 0) → n ≡ 129 → IsLoneMate g plan u v
lone_from g plan u v n sound few near is marked = elim (cases_eq (get_or plan v 0) (get_or plan u 0)) [
  | inl here ↦ record {
    mate = and_from (adjacent g u v) (in_district plan (get_or plan u 0) v) near (eq-eqb (get_or plan v 0) (get_or plan u 0) here);
    lone = omega (arith, entry_own g plan v (get_or plan u 0) here, is, marked);
  }
  | inr off ↦ absurd (omega (arith, entry_other g plan v (get_or plan u 0) off, is, marked, few))
]

module _ (g : Graph) (plan : List ℕ) (u v : ℕ) (graph : IsGraph g) (lt : u < g.units) (lone : IsLoneMate g plan u v) where
  -- a lone mate is a neighbor, and in the district
  parts : (adjacent g u v ≡ true) × (in_district plan (get_or plan u 0) v ≡ true)
  parts = and_parts (adjacent g u v) (in_district plan (get_or plan u 0) v) lone.mate

  -- the only neighbor of a lone mate in the district does not stay behind
  not_behind : (w : ℕ) → IsIn g (stays_behind plan u) w → adjacent g v w ≡ true → ⊥
  not_behind w i near =
      let home : ℕ → Bool = in_district plan (get_or plan u 0) in
      let test : ℕ → Bool = λ x. adjacent g v x && home x in
      let behind = and_parts (home w) (not (w == u)) i.1 in
      let here : test w ≡ true = and_from (adjacent g v w) (home w) near behind.0 in
      let own : test u ≡ true = and_from (adjacent g v u) (home u) (graph.symmetric v u ∙ parts.0) (eq-eqb (get_or plan u 0) (get_or plan u 0) refl) in
      both_ways (w == u) (not-true (w == u) behind.1) (eq-eqb w u (one_counted g.units test w u lone.lone i.0 lt here own))

  -- a path that avoids u does not leave a lone mate
  stuck : (w : ℕ) → MayLeave g plan u → IsIn g (is_mate g plan u) w → w ≡ v
  stuck w may i =
      let mate : IsIn g (is_mate g plan u) v = (graph.below u v parts.0, lone.mate) in
      path_stays g (stays_behind plan u) (λ x. x ≡ v)
      (λ x y at iy near. absurd (not_behind y iy (subst (λ t. adjacent g t y ≡ true) at near))) v w
      (may.joined v w (mate_stays g plan u v graph mate) (mate_stays g plan u w graph i)) refl

-- a unit with several mates, one of them lone, may not leave its district
pub lone_stays : (g : Graph) (plan : List ℕ) (u : ℕ) → IsGraph g → u < g.units → HasLoneMate g plan u → MayLeave g plan u → ⊥
lone_stays g plan u graph lt found may =
    let v = found.some.0 in
    let lone = found.some.1 in
    let test : ℕ → Bool = is_mate g plan u in
    let without = count_below_without g.units test v (graph.below u v (parts g plan u v graph lt lone).0) lone.mate in
    let other = some_counted g.units (λ k. test k && not (k == v)) (omega (arith, without, found.several)) in
    let both = and_parts (test other.0) (not (other.0 == v)) other.2 in
    both_ways (other.0 == v) (not-true (other.0 == v) both.1) (eq-eqb other.0 v (stuck g plan u v graph lt lone other.0 may (other.1, both.0)))
