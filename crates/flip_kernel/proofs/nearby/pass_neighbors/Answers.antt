use Rattle.std.proofs.Common.{◌≡◌, ℕ, ◌+◌, ◌*◌, ◌<◌, ◌≤◌, List, ◌++◌, ◌∷◌, [], length, get_or, take, ◌∙◌, sym, subst, arith, take_all}
use Rattle.std.proofs.lemmas.List.{take_more}
use Rattle.std.proofs.lemmas.List.Elements.{All-get_or}
use Rattle.flip_kernel.specs.Nearby.{HasMoved}
use Rattle.flip_kernel.proofs.NearPairs.{near_some, near_room, next_near, row_fresh, row_beside, moved_more}
use Rattle.flip_kernel.proofs.Tables.{place_within}
use Rattle.flip_kernel.proofs.nearby.pass_neighbors.Goals as goal

pub pass_amount-requires-clause-some : goal.pass_amount-requires-clause-some
pass_amount-requires-clause-some c =
    let g = c.args.leaving.graph.now in
    let plan : List ℕ = c.args.leaving.plan.now in
    let u : ℕ = c.args.leaving.unit in
    let row : List ℕ = c.neighbours-other-items.result.now in
    let i : ℕ = c.loop-other.other-index in
    let is = next_near g plan u c.args.district c.args.districts i (get_or plan u 0) row c.args.table.now c.loop-other.table c.args.leaving.sound c.neighbours-other-items.ensures.list
    c.loop-other-test.true c.requires.near c.loop-other.invariant (c.requires.in_range u c.args.leaving.within) in
    let some = near_some g plan u (get_or row i 0) c.args.leaving.sound c.args.leaving.within
    (row_beside g u i row c.neighbours-other-items.ensures.list c.loop-other-test.true) in
    omega (arith, is, some)

pub pass_amount-requires-clause-few : goal.pass_amount-requires-clause-few
pass_amount-requires-clause-few c =
    let g = c.args.leaving.graph.now in
    let plan : List ℕ = c.args.leaving.plan.now in
    let u : ℕ = c.args.leaving.unit in
    let row : List ℕ = c.neighbours-other-items.result.now in
    let i : ℕ = c.loop-other.other-index in
    let is = next_near g plan u c.args.district c.args.districts i c.args.district row c.args.table.now c.loop-other.table c.args.leaving.sound
    c.neighbours-other-items.ensures.list c.loop-other-test.true c.requires.near c.loop-other.invariant c.requires.district in
    let below : get_or row i 0 < g.units = All-get_or (λ v. v < g.units) row i 0 c.loop-other-test.true c.neighbours-other-items.ensures.below in
    let room = near_room g plan u (get_or row i 0) c.args.district c.args.leaving.sound c.args.leaving.complete c.args.leaving.within below c.requires.near.short
    (row_beside g u i row c.neighbours-other-items.ensures.list c.loop-other-test.true) c.requires.elsewhere in
    omega (arith, is, room)

pub loop-other-preserved : goal.loop-other-preserved
loop-other-preserved c =
    let g = c.args.leaving.graph.now in
    let plan : List ℕ = c.args.leaving.plan.now in
    let u : ℕ = c.args.leaving.unit in
    let n : ℕ = c.args.districts in
    let row : List ℕ = c.neighbours-other-items.result.now in
    let i : ℕ = c.loop-other.other-index in
    let more : take (i + 1) row ≡ take i row ++ get_or row i 0 ∷ [] = take_more row i 0 c.loop-other-test.true in
    subst (λ (xs : List ℕ). HasMoved n (get_or plan u 0) c.args.district xs c.args.table.now c.pass_amount.new.table) (sym more)
    (moved_more n (get_or plan u 0) c.args.district (get_or row i 0) (take i row) c.args.table.now c.loop-other.table c.pass_amount.new.table
    (c.requires.in_range u c.args.leaving.within) c.requires.district c.loop-other.invariant
    (row_fresh g u i row c.args.leaving.sound c.neighbours-other-items.ensures.list c.loop-other-test.true)
    c.pass_amount.ensures)

pub returns : goal.returns
returns c =
    let plan : List ℕ = c.args.leaving.plan.now in
    let row : List ℕ = c.neighbours-other-items.result.now in
    let all : take c.loop-other.other-index row ≡ row = take_all c.loop-other.other-index row c.loop-other-test.false in
    subst (λ (xs : List ℕ). HasMoved c.args.districts (get_or plan c.args.leaving.unit 0) c.args.district xs c.args.table.now c.loop-other.table)
    (all ∙ c.neighbours-other-items.ensures.list) c.loop-other.invariant

pub pass_amount-requires-clause-places : goal.pass_amount-requires-clause-places
pass_amount-requires-clause-places c =
    let units : ℕ = c.args.leaving.graph.now.units in
    let u : ℕ = c.args.leaving.unit in
    let n : ℕ = c.args.districts in
    let row : List ℕ = c.neighbours-other-items.result.now in
    let i : ℕ = c.loop-other.other-index in
    let below : get_or row i 0 < units = All-get_or (λ v. v < units) row i 0 c.loop-other-test.true c.neighbours-other-items.ensures.below in
    let wide : units * n ≤ length c.loop-other.table = omega (arith, c.requires.near.width, c.loop-other.invariant.width) in (
      place_within units n (get_or row i 0) (get_or c.args.leaving.plan.now u 0) (length c.loop-other.table) below (c.requires.in_range u c.args.leaving.within) wide,
      place_within units n (get_or row i 0) c.args.district (length c.loop-other.table) below c.requires.district wide,
    )
