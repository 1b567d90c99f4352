-- The change of a district's missing faces with a unit that joins.
use Rattle.std.proofs.Common.{◌≡◌, ℕ, ◌+◌, ◌-◌, ◌<◌, ◌≤◌, Bool, true, false, List, length, get_or, set, refl, sym, ◌∙◌, subst, arith}
use Rattle.std.specs.Prelude.{count_by}
use Rattle.std.proofs.lemmas.Bool.{ne_eqb}
use Rattle.audit_model.specs.Graph.{Graph, IsGraph, count_edges}
use Rattle.audit_model.specs.Limits.{most_edges, most_units}
use Rattle.audit_model.specs.District.{in_district}
use Rattle.contig.specs.Faces.{SparedFace, AreFaces, AreRings, own_rings, count_inner_edges, count_mates, count_active}
use Rattle.contig.specs.Corners.{is_filled, is_ending, is_starting, corners_at, spares_at}
use Rattle.contig.specs.Counts.{AreCounts, Counted, filled_by, filled_of, is_before, missing_faces}
use Rattle.contig.proofs.Changing.{edges_more, filled_more, edges_few, filled_few}
use Rattle.contig.proofs.Choosing.{own_are_rings, own_length, chosen_counted}
use Rattle.contig.proofs.Raising.{before_all, put_in, put_there, tests_between}
use Rattle.contig.proofs.Shifting.{active_few}
use Rattle.contig.proofs.Sparing.{spares_change}

-- the numbers of a counted district
pub missing_counted : (g : Graph) (faces : List SparedFace) (plan : List ℕ) (n d : ℕ) (counted : Counted) → AreCounts g faces n plan counted → d < n
    → missing_faces g faces (in_district plan d) ≡ get_or counted.edges d 0 + 1 - (get_or counted.filled d 0 + get_or counted.spared d 0)
missing_counted g faces plan n d counted s l = omega (arith, s.edges d l, s.filled d l, s.spared d l, chosen_counted (in_district plan d) faces)

-- a unit u outside the district d joins it
module _ (g : Graph) (sound : IsGraph g) (faces : List SparedFace) (are : AreFaces g faces) (plan : List ℕ) (u d end mates corners coming going missing : ℕ) (lu : u < g.units)
    (wide : length plan ≡ g.units) (all : end ≡ g.units) (elsewhere : get_or plan u 0 ≡ d → ⊥) (are_mates : mates ≡ count_mates g (is_before plan end d) u)
    (are_corners : corners ≡ count_by (is_filled (in_district plan d)) (corners_at u (own_rings faces)))
    (are_coming : coming ≡ count_by (is_ending (is_before plan end d) u) (spares_at u faces)) (are_going : going ≡ count_by (is_starting (is_before plan end d) u) (spares_at u faces))
    (is_missing : missing ≡ missing_faces g faces (in_district plan d)) where
  large : ℕ → Bool
  large = in_district (set plan u d) d

  within : u < length plan
  within = subst (λ t. u < t) (sym wide) lu

  more : (v : ℕ) → v < g.units → (v ≡ u → ⊥) → large v ≡ in_district plan d v
  unfolding large
  more v l off = put_in plan u d d v within (λ e f. off f) ∙ sym (tests_between plan u d v off)

  tests : (v : ℕ) → v < g.units → (v ≡ u → ⊥) → is_before plan end d v ≡ in_district plan d v
  tests v l off = before_all plan end d v (omega (arith, l, all))

  there : large u ≡ true
  unfolding large
  there = put_there plan u d within

  absent : in_district plan d u ≡ false
  absent = ne_eqb (get_or plan u 0) d elsewhere

  rings : AreRings g (own_rings faces)
  rings = own_are_rings g faces are

  edges_large : count_inner_edges g large ≡ count_inner_edges g (in_district plan d) + mates
  edges_large =
      let law = edges_more g sound (own_rings faces) rings (in_district plan d) large (is_before plan end d) u lu there absent more tests in
      omega (arith, law, are_mates)

  rings_large : filled_by g (own_rings faces) large ≡ filled_by g (own_rings faces) (in_district plan d) + 1 + corners
  rings_large =
      let law = filled_more g sound (own_rings faces) rings (in_district plan d) large (in_district plan d) u lu there absent more (λ v l off. refl) in
      omega (arith, law, are_corners)

  spares_large : (both : ℕ) × (count_active large faces ≡ both + coming) × (count_active (in_district plan d) faces ≡ both + going)
  spares_large =
      let change = spares_change g large (in_district plan d) (is_before plan end d) u there absent more tests faces are in
      (change.0, omega (arith, change.1, are_coming), omega (arith, change.2, are_going))

  filled_large : filled_of g faces large + going ≡ filled_of g faces (in_district plan d) + 1 + corners + coming
  filled_large = omega (arith, rings_large, spares_large.1, spares_large.2, chosen_counted large faces, chosen_counted (in_district plan d) faces)

  -- if a face is missing, the number of missing faces changes by the edges, units and faces that come
  pub joined_missing : 0 < missing → missing + mates + going - (1 + corners + coming) ≡ missing_faces g faces (in_district (set plan u d) d)
  unfolding large
  joined_missing some = omega (arith, some, is_missing, edges_large, filled_large)

  -- a bound on the numbers that come and go
  pub joined_few : count_edges g (λ v w. true) ≤ most_edges → length faces ≤ 4000000 → g.units ≤ most_units
      → (missing + mates + going ≤ 5000000) × (1 + corners + coming ≤ 9000000)
  joined_few few_edges few few_units = (
    omega (arith, is_missing, edges_large, edges_few g large, edges_few g (in_district plan d), few_edges, few, spares_large.2, active_few (in_district plan d) faces),
    omega (arith, rings_large, filled_few g large (own_rings faces), own_length faces, few, few_units, spares_large.1, active_few large faces),
  )
