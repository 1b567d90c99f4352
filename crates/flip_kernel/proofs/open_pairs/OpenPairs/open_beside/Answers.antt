use Rattle.std.proofs.Common.{ℕ, ◌+◌, ◌*◌, ◌<◌, ◌≤◌, Bool, List, length, get_or, take, sym, subst, arith}
use Rattle.std.proofs.lemmas.List.Elements.{All-get_or}
use Rattle.flip_kernel.specs.OpenPairs.{HasOpenedPairs}
use Rattle.flip_kernel.proofs.Tables.{place_within, opens_more}
use Rattle.flip_kernel.proofs.open_pairs.OpenPairs.open_beside.Goals as goal

pub loop-other-preserved : goal.loop-other-preserved
loop-other-preserved c =
    let plan : List ℕ = c.args.plan.now in
    let row : List ℕ = c.neighbours-other-items.result.now in
    let i : ℕ = c.loop-other.other-index in
    let below : get_or row i 0 < c.args.graph.now.units = All-get_or (λ v. v < c.args.graph.now.units) row i 0 c.loop-other-test.true c.neighbours-other-items.ensures.below in
    let there : get_or plan (get_or row i 0) 0 < c.args.districts = c.requires.in_range (get_or row i 0) below in
    let wide : c.args.graph.now.units * c.args.districts ≤ length c.loop-other.self = omega (arith, c.requires.width, c.loop-other.invariant.width) in
    let inside = place_within c.args.graph.now.units c.args.districts c.args.unit (get_or plan (get_or row i 0) 0) (length c.loop-other.self) c.requires.unit there wide in
    subst (λ (t : List Bool). HasOpenedPairs plan c.args.districts c.args.unit (take (i + 1) row) c.args.self.now t) (sym c.put.ensures)
    (opens_more plan c.args.districts c.args.unit row i c.args.self.now c.loop-other.self c.loop-other-test.true there inside c.loop-other.invariant)
