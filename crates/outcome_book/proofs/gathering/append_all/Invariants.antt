use Rattle.std.proofs.Common.{◌≡◌, ◌+◌, ◌++◌, length, take}
use Rattle.outcome_book.specs.Placed.{those_there}
use Rattle.outcome_book.proofs.gathering.append_all.Given as goal

abbrev pub invariant-loop-place : goal.invariant-loop-place
invariant-loop-place l = record {
  items : l.out.items ≡ l.initial.out.items ++ those_there (take l.place-index l.places);
  room : length l.out.items + l.out.spare ≡ length l.initial.out.items + l.initial.out.spare;
}
