use Rattle.std.proofs.Common.{sym, subst, All, arith}
use Rattle.std.proofs.lemmas.List.Elements.{All-push}
use Rattle.claim_counter.specs.Batches.{IsIdleWorker}
use Rattle.claim_counter.proofs.batches.rest.Goals as goal

pub returns-clause-idle_workers : goal.returns-clause-idle_workers
returns-clause-idle_workers g c =
    let P = IsIdleWorker c.args.job.now in
    subst (All P) (sym c.push_reserved.ensures.items) (All-push P c.args.idle_workers.now.items _ c.requires.idle_workers.hands_are (record {
      made = c.requires.idle_worker.made;
      empty = c.clear.ensures.items;
      room = omega (arith, c.requires.idle_worker.share_room, c.clear.ensures.spare);
    }))
