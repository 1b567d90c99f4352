use Rattle.std.proofs.Common.{ap, arith}
use Rattle.outcome_book.specs.Booked.{Booked}
use Rattle.tally_desk.proofs.run.run_over.Goals as goal

pub save_last-requires-clause-room : goal.save_last-requires-clause-room
save_last-requires-clause-room g c =
    let k = c.in-Ok.ensures.closed.1 in
    let total = ap (λ (b : Booked). b.total) k.kept.book_is in
    record {
      sorted_room = omega (arith, total, k.equipped.sorted_room);
      save_room = omega (arith, total, k.equipped.save_room);
    }

pub save_last-requires-clause-closed : goal.save_last-requires-clause-closed
save_last-requires-clause-closed g c =
    let closed = c.in-Ok.ensures.closed in
    (_, (closed.0, (closed.1, c.requires.lets)))

pub returns-in-Ok-clause-ran : goal.returns-in-Ok-clause-ran
returns-in-Ok-clause-ran g c =
    let closed = c.in-Ok.ensures.closed in
    c.save_last.ensures _ closed.0 closed.1
