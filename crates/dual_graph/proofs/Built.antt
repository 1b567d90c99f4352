-- The graph that is built from pairs.
use Rattle.std.proofs.Common.{◌≡◌, ℕ, ◌+◌, ◌≤◌, true, List, length, get_or, sym, ◌∙◌, arith}
use Rattle.std.specs.Prelude.{◌↔◌}
use Rattle.audit_model.specs.Below.{sum_below}
use Rattle.audit_model.specs.Graph.{IsGraph, adjacent}
use Rattle.dual_graph.specs.Flat.{graph_of, HasRows, HasEdges}
use Rattle.audit_model.proofs.Below.{sum_below_longer}
use Rattle.dual_graph.specs.Pairs.{ArePairs, Joins}
use Rattle.dual_graph.specs.Placed.{arcs_of, starts, AreBegins, AreDegrees, HoldArcs}
use Rattle.dual_graph.proofs.Building.{built_graph, arcs_sound, arc_joins, joins_arc, adjacent_from, adjacent_to}
use Rattle.dual_graph.proofs.Counting.{edges_counted, sum_below_same}
use Rattle.dual_graph.proofs.Placing.{arc_below, arcs_long, starts_all}

pub record IsBuilt (n : ℕ) (pairs : List (ℕ × ℕ)) (begins near : List ℕ) : Type 0 where
  pub rows : HasRows n begins near
  pub sound : IsGraph (graph_of n begins near)
  pub joins : (u v : ℕ) → (adjacent (graph_of n begins near) u v ≡ true) ↔ Joins pairs u v
  pub edges : HasEdges (graph_of n begins near) (length pairs)

-- rows that hold the arcs of the pairs represent the graph of these pairs
pub built_from_pairs : (n : ℕ) (pairs : List (ℕ × ℕ)) (begins near : List ℕ) → length pairs ≤ 400000 → ArePairs n pairs
    → HoldArcs n (arcs_of pairs) begins near → IsBuilt n pairs begins near
built_from_pairs n pairs begins near short are hold =
    let sound = arcs_sound n pairs are in
    let joins : (u v : ℕ) → (adjacent (graph_of n begins near) u v ≡ true) ↔ Joins pairs u v = λ u v. (
      λ h. arc_joins pairs u v (adjacent_from n begins near (arcs_of pairs) hold sound u v h).2,
      λ h.
          let arc = joins_arc pairs u v h in
          adjacent_to n begins near (arcs_of pairs) hold sound u v (sound u v arc).one_below arc,
    ) in
    record {
      rows = hold.rows;
      sound = built_graph n begins near (arcs_of pairs) hold sound;
      joins = joins;
      edges = record { counted = sym (edges_counted (graph_of n begins near) pairs are joins); few = short };
    }

-- the sums of the degrees are where the rows begin
pub begins_are_sums : (n : ℕ) (pairs : List (ℕ × ℕ)) (degrees begins : List ℕ) → AreDegrees n (arcs_of pairs) (length (arcs_of pairs)) degrees
    → length begins ≡ length degrees + 1 → ((u : ℕ) → u ≤ length degrees → get_or begins u 0 ≡ sum_below u (λ v. get_or degrees v 0)) → AreBegins n (arcs_of pairs) begins
begins_are_sums n pairs degrees begins are long sums = record {
  places = let width = are.width in omega (arith, long, width);
  sums = λ u l.
      let width = are.width in
      sums u (omega (arith, l, width)) ∙ sum_below_same u (λ v. get_or degrees v 0) (starts (arcs_of pairs) (length (arcs_of pairs))) (λ k lk. are.each k (omega (arith, lk, l)));
}

-- the sums of the degrees are at most the number of arcs
pub sums_few : (n : ℕ) (pairs : List (ℕ × ℕ)) (degrees : List ℕ) → length pairs ≤ 400000 → ArePairs n pairs
    → AreDegrees n (arcs_of pairs) (length (arcs_of pairs)) degrees → (u : ℕ) → u ≤ length degrees → sum_below u (λ v. get_or degrees v 0) ≤ 800000
sums_few n pairs degrees short are counted u l =
    let width = counted.width in
    let same = sum_below_same u (λ v. get_or degrees v 0) (starts (arcs_of pairs) (length (arcs_of pairs))) (λ k lk. counted.each k (omega (arith, lk, l, width))) in
    let up = sum_below_longer u n (starts (arcs_of pairs) (length (arcs_of pairs))) (omega (arith, l, width)) in
    let all = starts_all n (arcs_of pairs) (length (arcs_of pairs)) (λ j lj. (arc_below n pairs are j lj).0) in
    let long = arcs_long pairs in
    omega (arith, same, up, all, long, short)
