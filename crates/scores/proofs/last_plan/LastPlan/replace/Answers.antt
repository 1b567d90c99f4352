use Rattle.std.proofs.Common.{arith}
use Rattle.scores.proofs.Replacing.{old_first, old_second, old_share, old_total, old_seats, old_seat, gap_add_fits, gap_sub_fits, first_after, second_after, seat_few, scored_after}
use Rattle.scores.proofs.Shares.{share_small}
use Rattle.scores.proofs.last_plan.LastPlan.replace.Goals as goal

pub overflow_add-self : goal.overflow_add-self
overflow_add-self c =
    let total = old_total c.self.inside c.args.self.now c.self.view_is c.self.invariant c.self.told.0 c.args.district c.args.first c.args.second c.requires.district c.requires.small_first c.requires.small_second in
    omega (arith, total, c.share-billionths.ensures, share_small c.args.first c.args.second)

pub overflow_sub-self : goal.overflow_sub-self
overflow_sub-self c =
    let old = old_share c.self.inside c.args.self.now c.self.view_is c.self.invariant c.self.told.0 c.args.district c.args.first c.args.second c.requires.district c.requires.small_first c.requires.small_second in
    omega (arith, old)

pub overflow_add-self-2 : goal.overflow_add-self-2
overflow_add-self-2 c =
    let old = old_seats c.self.inside c.args.self.now c.self.view_is c.self.invariant c.self.told.0 c.args.district c.args.first c.args.second c.requires.district c.requires.small_first c.requires.small_second in
    omega (arith, old, c.seat.ensures, seat_few c.args.first c.args.second)

pub overflow_sub-self-2 : goal.overflow_sub-self-2
overflow_sub-self-2 c =
    let old = old_seat c.self.inside c.args.self.now c.self.view_is c.self.invariant c.self.told.0 c.args.district c.args.first c.args.second c.requires.district c.requires.small_first c.requires.small_second in
    omega (arith, old, c.seat.ensures, c.seat-2.ensures)

pub overflow_add-self-3 : goal.overflow_add-self-3
overflow_add-self-3 c = gap_add_fits c.self.inside c.args.self.now c.self.view_is c.self.invariant c.self.told.0 c.args.district c.args.first c.args.second c.requires.district c.requires.small_first c.requires.small_second c.margin.result c.margin.ensures

pub margin-requires-2-clause-first : goal.margin-requires-2-clause-first
margin-requires-2-clause-first c = old_first c.self.inside c.args.self.now c.self.view_is c.self.invariant c.self.told.0 c.args.district c.args.first c.args.second c.requires.district c.requires.small_first c.requires.small_second

pub margin-requires-2-clause-second : goal.margin-requires-2-clause-second
margin-requires-2-clause-second c = old_second c.self.inside c.args.self.now c.self.view_is c.self.invariant c.self.told.0 c.args.district c.args.first c.args.second c.requires.district c.requires.small_first c.requires.small_second

pub overflow_sub-self-3 : goal.overflow_sub-self-3
overflow_sub-self-3 c = gap_sub_fits c.self.inside c.args.self.now c.self.view_is c.self.invariant c.self.told.0 c.args.district c.args.first c.args.second c.requires.district c.requires.small_first c.requires.small_second c.margin.result c.margin-2.result c.margin.ensures c.margin-2.ensures

pub returns-clause-first : goal.returns-clause-first
returns-clause-first c = first_after c.self.inside c.args.self.now c.self.view_is c.self.invariant c.self.told.0 c.args.district c.args.first c.args.second c.requires.district c.requires.small_first c.requires.small_second

pub returns-clause-second : goal.returns-clause-second
returns-clause-second c = second_after c.self.inside c.args.self.now c.self.view_is c.self.invariant c.self.told.0 c.args.district c.args.first c.args.second c.requires.district c.requires.small_first c.requires.small_second

pub invariant_of-self : goal.invariant_of-self
invariant_of-self c =
    scored_after c.self.inside c.args.self.now c.self.view_is c.self.invariant c.self.told.0 c.args.district c.args.first c.args.second c.requires.district c.requires.small_first c.requires.small_second
    c.share-billionths.result c.seat.result c.seat-2.result c.margin.result c.margin-2.result c.share-billionths.ensures c.seat.ensures c.seat-2.ensures c.margin.ensures c.margin-2.ensures
