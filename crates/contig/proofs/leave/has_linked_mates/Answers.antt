use Rattle.std.proofs.Common.{◌≤◌, arith}
use Rattle.contig.proofs.Growing.{seeds_joined}
use Rattle.contig.proofs.Places.{own_labels, own_at}
use Rattle.contig.proofs.leave.has_linked_mates.Goals as goal

pub are_linked-requires-clause-joined : goal.are_linked-requires-clause-joined
are_linked-requires-clause-joined c =
    let few : c.mark_mates-mates.result ≤ 16 = omega (arith, c.if-mates-gt-MOST.false) in
    seeds_joined c.args.leaving.graph.now c.args.leaving.plan.now c.args.leaving.unit c.mark_mates-mates.result c.mark_mates-mates.new.marks own_labels (c.mark_mates-mates.ensures.seeded few) few own_at
