use Rattle.std.proofs.Common.{◌≡◌, vec_capacity, vec_len}
use Rattle.tally_desk.specs.Unposted.{AreRooms}
use Rattle.tally_desk.proofs.pool.make_rooms.Given as goal

abbrev pub invariant-loop-place : goal.invariant-loop-place
invariant-loop-place l = record {
  rooms : AreRooms l.setting l.workers l.buffered.items;
  len : vec_len l.buffered ≡ l.place;
  capacity : vec_capacity l.buffered ≡ l.workers;
}
