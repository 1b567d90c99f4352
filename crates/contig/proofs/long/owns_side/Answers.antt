use Rattle.std.proofs.Common.{get_or, arith}
use Rattle.contig.specs.Faces.{has_side}
use Rattle.contig.proofs.LongLists.{none_of_all, owns_first}
use Rattle.contig.proofs.long.owns_side.Goals as goal

pub returns : goal.returns
returns c _ =
    let ring = c.args.ring.now in
    owns_first ring _ c.requires
    (none_of_all (λ face. has_side face (get_or ring 0 0) (get_or ring 1 0)) c.args.rings.now c.loop-place.place (omega (arith, c.loop-place-test.false)) c.loop-place.invariant)
