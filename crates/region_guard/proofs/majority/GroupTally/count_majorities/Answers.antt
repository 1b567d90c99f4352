use Rattle.std.proofs.Common.{ℕ, ◌*◌, get_or, sym, arith}
use Rattle.std.specs.Prelude.{nat_lt}
use Rattle.region_guard.proofs.Cells.{one_small}
use Rattle.region_guard.proofs.Moves.{next_counted}
use Rattle.region_guard.proofs.majority.GroupTally.count_majorities.Goals as goal
use Rattle.audit_model.proofs.Below.{count_below_le, count_below_zero}

pub loop-district-init : goal.loop-district-init
loop-district-init c = sym (count_below_zero (λ d. nat_lt (c.args.self.now.share * get_or c.args.self.now.whole d 0) (10000 * get_or c.args.self.now.members d 0)))

pub overflow_add-majorities : goal.overflow_add-majorities
overflow_add-majorities c =
    let d : ℕ = c.loop-district.district in
    let few = count_below_le d (λ d. nat_lt (c.args.self.now.share * get_or c.args.self.now.whole d 0) (10000 * get_or c.args.self.now.members d 0)) in
    let one = one_small (nat_lt (c.args.self.now.share * get_or c.args.self.now.whole d 0) (10000 * get_or c.args.self.now.members d 0)) in
    omega (arith, few, one, c.loop-district.invariant, c.loop-district-test.true, c.requires.few, c.majority_in-majorities.ensures)

pub loop-district-preserved : goal.loop-district-preserved
loop-district-preserved c =
    let next = next_counted c.loop-district.district (λ d. nat_lt (c.args.self.now.share * get_or c.args.self.now.whole d 0) (10000 * get_or c.args.self.now.members d 0)) in
    omega (arith, next, c.loop-district.invariant, c.majority_in-majorities.ensures)
