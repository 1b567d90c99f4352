use Rattle.std.proofs.Common.{◌∙◌, ap, arith, length}
use Rattle.std.proofs.lemmas.List.{length-replicate}
use Rattle.claim_counter.proofs.batches.make_batch_workers.Goals as goal

pub returns-clause-batch_workers : goal.returns-clause-batch_workers
returns-clause-batch_workers g c = record {
  idle_workers = c.in_ok-idle_workers.ensures.idle_workers;
  count = c.in_ok-idle_workers.ensures.count ∙ c.in_ok-walkers.ensures.count;
  some = c.requires.workers;
  none = c.in_ok-workers.ensures.len;
  hands_room = omega (arith, c.in_ok-idle_workers.ensures.room, c.in_ok-walkers.ensures.count);
  room = omega (arith, c.in_ok-workers.ensures.capacity, c.len.ensures);
  hub = ap length c.in_ok-hub.ensures ∙ length-replicate c.units.result 0 ∙ c.units.ensures.units;
}
