use Rattle.std.proofs.Common.{rules}
use Rattle.claim_counter.proofs.Steps.{joins, looks}
use Rattle.claim_counter.proofs.claims.Claims.join.Goals as goal

pub join_seat-requires : goal.join_seat-requires
join_seat-requires c = (search rules, search rules, search rules, search rules, joins _ _ _ _ _ c.requires.first.1 c.args.first.live c.args.second.live)

pub load-requires : goal.load-requires
load-requires c = (search rules, search rules, looks _ _ _ _ (search rules) (search rules))
