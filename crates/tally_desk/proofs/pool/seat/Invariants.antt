use Rattle.std.proofs.Common.{◌≡◌, ◌+◌, ◌≤◌, [], All, vec_capacity, vec_len, false}
use Rattle.tally_desk.specs.Passes.{Belongs, HasPostedAll, view_of}
use Rattle.claim_counter.specs.Walkers.{AreWalkers}
use Rattle.tally_desk.specs.Pools.{IsUnstartedAtDesk}
use Rattle.tally_desk.specs.Unposted.{IsRoomWithin, buffer_room}
use Rattle.tally_desk.proofs.pool.seat.Given as goal

abbrev pub invariant-loop-walker : goal.invariant-loop-walker
invariant-loop-walker g l = record {
  walkers : AreWalkers l.desk.parts.job l.walkers.items;
  unstarted : All (IsUnstartedAtDesk l.desk) l.workers.items;
  pass : Belongs l.desk l.pass;
  none : (view_of l.pass).own.claims ≡ [];
  going : (view_of l.pass).own.ended ≡ false;
  weight : (view_of l.pass).own.weight ≡ 1;
  spare : (view_of l.pass).own.spare ≡ vec_len l.walkers;
  whole : HasPostedAll l.desk.parts (view_of l.pass);
  count : vec_len l.workers + vec_len l.walkers + 1 ≡ vec_len l.fn.walkers;
  room : vec_len l.fn.walkers ≤ vec_capacity l.workers;
  lists : vec_len l.lists ≡ vec_len l.walkers + 1;
  rooms : All (IsRoomWithin (buffer_room l.desk.parts.job.setting l.desk.parts.seats)) l.lists.items;
}

abbrev pub decreases-loop-walker : goal.decreases-loop-walker
decreases-loop-walker g l = vec_len l.walkers
