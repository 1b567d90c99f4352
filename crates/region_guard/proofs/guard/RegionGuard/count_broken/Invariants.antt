use Rattle.std.proofs.Common.{◌≡◌, not, get_or}
use Rattle.std.specs.Prelude.{nat_le}
use Rattle.audit_model.specs.Below.{count_below}
use Rattle.region_guard.proofs.guard.RegionGuard.count_broken.Given as goal

abbrev pub invariant-loop-region : goal.invariant-loop-region
invariant-loop-region g l = l.broken ≡ count_below l.region (λ q. not (nat_le (get_or l.widths q 0) l.self.rules.max_split))
