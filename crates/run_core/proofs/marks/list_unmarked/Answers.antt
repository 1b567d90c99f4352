use Rattle.std.proofs.Common.{length, ap, false, not, get_or, arith}
use Rattle.run_core.proofs.marks.list_unmarked.Goals as goal
use Rattle.audit_model.proofs.Below.{length-filter_below}

pub push_reserved-requires : goal.push_reserved-requires
push_reserved-requires c =
    let few = length-filter_below c.loop-id.id (λ id. not (get_or c.args.marks.now id false)) in
    omega (arith, few, ap length c.loop-id.invariant.ids, c.loop-id.invariant.room, c.clear.ensures.capacity, c.requires.room, c.loop-id.ids.ok.0)
