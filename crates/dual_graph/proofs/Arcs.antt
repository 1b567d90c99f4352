-- The places where rows begin, as numbers of directed edges.
use Rattle.std.proofs.Common.{◌≡◌, ℕ, zero, suc, ◌+◌, ◌-◌, ◌<◌, ◌≤◌, List, [], length, get_or, drop, ap, add-one, arith}
use Rattle.std.proofs.lemmas.List.{length-take, length-drop}
use Rattle.audit_model.specs.Below.{sum_below}
use Rattle.audit_model.specs.Length.{degree}
use Rattle.audit_model.proofs.Below.{get_or-map_below}
use Rattle.dual_graph.specs.Flat.{row, graph_of, HasRows}

module _ (n : ℕ) (begins near : List ℕ) (rows : HasRows n begins near) where
  -- a unit has as many neighbors as its row has places
  degree_is : (u : ℕ) → u < n → degree (graph_of n begins near) u ≡ get_or begins (suc u) 0 - get_or begins u 0
  degree_is u l =
      let long : degree (graph_of n begins near) u ≡ length (row begins near u) = ap length (get_or-map_below n (row begins near) u [] l) in
      let next : get_or begins (u + 1) 0 ≡ get_or begins (suc u) 0 = ap (λ (k : ℕ). get_or begins k 0) (add-one u) in
      let up = rows.rising u l in
      let upto = rows.within (u + 1) (omega arith) in
      omega (arith, long, next, up, upto, length-take (get_or begins (u + 1) 0 - get_or begins u 0) (drop (get_or begins u 0) near), length-drop (get_or begins u 0) near)

  -- a row begins after the directed edges of the units below
  pub begins_are : (u : ℕ) → u ≤ n → sum_below u (degree (graph_of n begins near)) ≡ get_or begins u 0
  begins_are zero l = let first = rows.first in omega (arith, first)
  begins_are (suc u) l =
      let before = begins_are u (omega arith) in
      let next : get_or begins (u + 1) 0 ≡ get_or begins (suc u) 0 = ap (λ (k : ℕ). get_or begins k 0) (add-one u) in
      let up = rows.rising u (omega arith) in
      omega (arith, before, degree_is u (omega arith), next, up)
