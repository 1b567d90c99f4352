use Rattle.std.proofs.Common.{◌≡◌, ℕ, All, ap, arith, subst, sym, vec_len}
use Rattle.audit_model.specs.Job.{Job}
use Rattle.tally_desk.specs.Parts.{Parts}
use Rattle.claim_counter.specs.Walkers.{AreWalkers}
use Rattle.tally_desk.specs.Unposted.{IsRoomWithin, buffer_room}
use Rattle.tally_desk.proofs.Unposted.{rooms_within}
use Rattle.claim_counter.specs.Walks.{IsWithin}
use Rattle.tally_desk.proofs.run.walk_over.Goals as goal

pub work-requires-clause-pool : goal.work-requires-clause-pool
work-requires-clause-pool g c κs inside =
    let job = sym (ap (λ (p : Parts). p.job) c.in-Ok.ensures.parts) in
    let seats : c.in-Ok.desk.parts.seats ≡ vec_len c.args.pool.walkers = omega (arith, ap (λ (p : Parts). p.seats) c.in-Ok.ensures.parts, c.len-seats.ensures) in
    let pool = c.walk_hub.ensures.pool in
    record {
      seats_are = omega (arith, seats, pool.count_is);
      some = omega (arith, pool.count_is, c.requires.workers.0);
      walkers_are = subst (λ (j : Job). AreWalkers j c.walk_hub.new.pool.walkers.items) job pool.walkers_are;
      blank = pool.blank;
      room = omega (arith, pool.room, pool.count_is);
      buffer_count = omega (arith, pool.buffer_count, pool.count_is);
      buffer_rooms = subst (λ (j : Job). All (IsRoomWithin (buffer_room j.setting c.in-Ok.desk.parts.seats)) c.walk_hub.new.pool.buffered.items) job
          (subst (λ (n : ℕ). All (IsRoomWithin (buffer_room c.args.job.now.setting n)) c.walk_hub.new.pool.buffered.items) (sym seats)
          (rooms_within c.args.job.now.setting (vec_len c.args.pool.walkers) c.walk_hub.new.pool.buffered.items pool.buffer_rooms));
    }

pub work-requires-clause-shared : goal.work-requires-clause-shared
work-requires-clause-shared g c κs inside = record {
  same = sym (ap (λ (p : Parts). p.job) c.in-Ok.ensures.parts);
  within = subst (IsWithin c.args.job.now) (sym (ap (λ (p : Parts). p.todo) c.in-Ok.ensures.parts)) c.requires.within;
  hub = c.walk_hub.ensures.hub;
}
