use Rattle.std.proofs.Common.{ℕ, ◌*◌, ◌≤◌, length, get_or, refl, arith}
use Rattle.flip_kernel.proofs.NearPairs.{own_marked, own_unmarked, moved_all}
use Rattle.flip_kernel.proofs.Tables.{place_within}
use Rattle.flip_kernel.proofs.nearby.pass_unit.Goals as goal

pub pass_amount-requires-clause-places : goal.pass_amount-requires-clause-places
pass_amount-requires-clause-places c =
    let units : ℕ = c.args.leaving.graph.now.units in
    let u : ℕ = c.args.leaving.unit in
    let n : ℕ = c.args.districts in
    let wide : units * n ≤ length c.pass_neighbors.new.table = omega (arith, c.requires.near.width, c.pass_neighbors.ensures.width) in (
      place_within units n u (get_or c.args.leaving.plan.now u 0) (length c.pass_neighbors.new.table) c.args.leaving.within (c.requires.in_range u c.args.leaving.within) wide,
      place_within units n u c.args.district (length c.pass_neighbors.new.table) c.args.leaving.within c.requires.district wide,
    )

pub pass_amount-requires-clause-some : goal.pass_amount-requires-clause-some
pass_amount-requires-clause-some c =
    let u : ℕ = c.args.leaving.unit in
    own_marked c.args.leaving.graph.now c.args.leaving.plan.now c.args.districts u c.args.district _ c.args.table.now c.pass_neighbors.new.table c.args.leaving.sound
    c.args.leaving.complete c.args.leaving.within refl c.requires.near c.pass_neighbors.ensures (c.requires.in_range u c.args.leaving.within) c.requires.district c.requires.elsewhere

pub pass_amount-requires-clause-few : goal.pass_amount-requires-clause-few
pass_amount-requires-clause-few c =
    let u : ℕ = c.args.leaving.unit in
    own_unmarked c.args.leaving.graph.now c.args.leaving.plan.now c.args.districts u c.args.district _ c.args.table.now c.pass_neighbors.new.table c.args.leaving.sound
    c.args.leaving.complete c.args.leaving.within refl c.requires.near c.pass_neighbors.ensures (c.requires.in_range u c.args.leaving.within) c.requires.district c.requires.elsewhere

pub returns-clause-counts : goal.returns-clause-counts
returns-clause-counts c =
    let u : ℕ = c.args.leaving.unit in
    moved_all c.args.leaving.graph.now c.args.leaving.plan.now c.args.districts u c.args.district _ c.args.table.now c.pass_neighbors.new.table c.args.leaving.sound
    c.args.leaving.complete c.args.leaving.within refl c.requires.near c.pass_neighbors.ensures (c.requires.in_range u c.args.leaving.within) c.requires.district c.requires.elsewhere
    c.pass_amount.new.table c.pass_amount.ensures
