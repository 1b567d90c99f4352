use Rattle.std.proofs.Common.{◌≡◌, ◌==◌, ◌&&◌, not, take, get_or}
use Rattle.std.specs.Prelude.{nat_lt, count_by}
use Rattle.district_sums.proofs.scratch.others_below.Given as goal

abbrev pub invariant-loop-other : goal.invariant-loop-other
invariant-loop-other l = l.others ≡ count_by (λ v. nat_lt v l.bound && not (get_or l.plan v 0 == l.home)) (take l.other-index l.other-items)
