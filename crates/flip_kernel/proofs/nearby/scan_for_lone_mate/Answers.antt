use Rattle.std.proofs.Common.{ℕ, ◌+◌, ◌*◌, ◌<◌, ◌==◌, List, get_or, inl, inr, arith}
use Rattle.std.proofs.lemmas.Bool.{or_cases, eqb-true}
use Rattle.std.proofs.lemmas.List.Elements.{All-get_or}
use Rattle.flip_kernel.proofs.LoneMate.{lone_from}
use Rattle.flip_kernel.proofs.NearPairs.{near_few, row_beside}
use Rattle.flip_kernel.proofs.nearby.scan_for_lone_mate.Goals as goal

pub loop-other-preserved : goal.loop-other-preserved
loop-other-preserved c = λ found.
    let g = c.args.member.graph.now in
    let plan : List ℕ = c.args.member.plan.now in
    let u : ℕ = c.args.member.unit in
    let row : List ℕ = c.neighbours-other-items.result.now in
    let v : ℕ = get_or row c.loop-other.other-index 0 in
    let place : ℕ = v * c.args.districts + get_or plan u 0 in
    let below : v < g.units = All-get_or (λ w. w < g.units) row c.loop-other.other-index 0 c.loop-other-test.true c.neighbours-other-items.ensures.below in
    elim (or_cases c.loop-other.found (get_or c.args.table.now place 0 == 129) found) [
      | inl before ↦ c.loop-other.invariant before
      | inr marked ↦ (
        v,
        lone_from g plan u v (get_or c.args.table.now place 0) c.args.member.sound
            (omega (arith, near_few g plan v (get_or plan u 0) c.args.member.sound, c.requires.near.short v below))
            (row_beside g u c.loop-other.other-index row c.neighbours-other-items.ensures.list c.loop-other-test.true)
            (c.requires.near.each v (get_or plan u 0) below c.requires.home)
            (eqb-true (get_or c.args.table.now place 0) 129 marked),
      )
    ]
