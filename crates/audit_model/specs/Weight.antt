-- A weight on cut edges: each cut edge multiplies the weight of a plan by a factor, q / 256 on average, where q is the
-- setting's cut_weight. All factors are in units of 1 / 64.
-- A proposed plan with more cut edges is taken with the ratio of the weights as its chance, any other one always, as by
-- Metropolis and others 1953. The draw that proposed the plan decides: the quotient of the draw by the number of pairs,
-- written in base 64, has one digit for each cut edge that is added.
use Rattle.std.specs.Prelude.{ℕ, zero, suc, ◌+◌, ◌-◌, ◌*◌, ◌/◌, ◌%◌, ◌^◌, ◌==◌, ◌&&◌, ◌||◌, Bool, true, nat_le, nat_lt, List}
use Rattle.audit_model.specs.Below.{count_below}
use Rattle.audit_model.specs.Graph.{count_edges}
use Rattle.audit_model.specs.Job.{Job}
use Rattle.audit_model.specs.Plan.{cut_edges}

-- the factor of the n-th cut edge, counted from 0: a quarter of q, rounded so that four factors in a row add up to q
abbrev pub factor : ℕ → ℕ → ℕ
factor q n = (q + 3 - n % 4) / 4

-- the product of the factors of the next cut edges after a number of cut edges
unfoldable pub factors : ℕ → ℕ → ℕ → ℕ
factors q cut zero = 1
factors q cut (suc added) = factors q cut added * factor q (cut + added)

-- the weight of a plan: the factors of its cut edges, times 64 ^ (all edges) to be a whole number
abbrev pub weight : Job → List ℕ → ℕ
weight job plan =
    let cut = cut_edges job.graph plan in
    factors job.setting.cut_weight 0 cut * 64 ^ (count_edges job.graph (λ u v. true) - cut)

-- the largest change of cut edges in one step: the greatest m with pairs * 64 ^ (m + 1) <= 2 ^ 64
abbrev pub largest_change : ℕ → ℕ
largest_change pairs = count_below 9 (λ m. nat_le (pairs * 64 ^ (m + 2)) (2 ^ 64))

-- draws below the greatest multiple of pairs * 64 ^ m count, so that each pair has each last m digits equally often
abbrev pub weighed_draws : ℕ → ℕ → ℕ
weighed_draws pairs m = 2 ^ 64 / (pairs * 64 ^ m) * (pairs * 64 ^ m)

-- the draw counts, the change is not too large, and the number of the last digits, one for each cut edge that is added,
-- is below the limit
abbrev pub passes : ℕ → ℕ → ℕ → ℕ → ℕ → ℕ → Bool
passes limit pairs m draw added removed =
    nat_lt draw (weighed_draws pairs m) && (nat_le added m && nat_le removed m && nat_lt (draw / pairs % 64 ^ added) limit)

-- the draw takes the change from one plan to the other; with a weight of 256, every draw takes every change
unfoldable pub is_taken : Job → List ℕ → List ℕ → ℕ → Bool
is_taken job from to draw =
    let q = job.setting.cut_weight in
    let pairs = job.graph.units * job.districts in
    let before = cut_edges job.graph from in
    let after = cut_edges job.graph to in
    (q == 256)
    || passes (factors q before (after - before)) pairs (largest_change pairs) draw (after - before) (before - after)
