use Rattle.std.proofs.Common.{◌≡◌, ◌*◌, get_or}
use Rattle.std.specs.Prelude.{nat_lt}
use Rattle.audit_model.specs.Below.{count_below}
use Rattle.region_guard.proofs.majority.GroupTally.count_majorities.Given as goal

abbrev pub invariant-loop-district : goal.invariant-loop-district
invariant-loop-district l = l.majorities ≡ count_below l.district (λ d. nat_lt (l.self.share * get_or l.self.whole d 0) (10000 * get_or l.self.members d 0))
