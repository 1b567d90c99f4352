use Rattle.std.proofs.Common.{◌+◌, arith}
use Rattle.audit_model.proofs.Below.{map_below_more}
use Rattle.audit_statement.specs.Slots.{outcome_in}
use Rattle.ckpt_format.proofs.Sizes.{starts_within}
use Rattle.ckpt_format.proofs.decode.outcomes_in.Goals as goal

pub outcome_in-requires : goal.outcome_in-requires
outcome_in-requires c = starts_within c.args.bytes.now (c.loop-place.place + 1) c.args.count (omega arith) c.requires

pub loop-place-preserved : goal.loop-place-preserved
loop-place-preserved c =
    map_below_more c.loop-place.place (outcome_in c.args.bytes.now) c.loop-place.outcomes.items c.push.new.self.items c.outcome_in.result c.loop-place.invariant c.outcome_in.ensures c.in_ok-push.ensures.ok
