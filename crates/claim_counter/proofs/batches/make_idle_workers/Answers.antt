use Rattle.std.proofs.Common.{sym, subst, All, arith}
use Rattle.std.proofs.lemmas.List.Elements.{All-push}
use Rattle.claim_counter.specs.Batches.{IsIdleWorker}
use Rattle.claim_counter.specs.Walkers.{IsWalker}
use Rattle.claim_counter.proofs.batches.make_idle_workers.Goals as goal
use Rattle.audit_model.proofs.ListFacts.{popped_last, popped_rest}

pub make_idle_worker-requires : goal.make_idle_worker-requires
make_idle_worker-requires g c = record {
  walker = popped_last (IsWalker c.args.job.now) _ _ c.in-Some.walker c.loop-walker.invariant.walkers c.in-Some.ensures.items;
}

pub loop-walker-preserved : goal.loop-walker-preserved
loop-walker-preserved g c =
    let was = c.loop-walker.invariant in
    let P = IsIdleWorker c.args.job.now in
    let counted = was.count in
    let longer = c.push_reserved.ensures.len in
    let left = c.in-Some.ensures.len in
    record {
      walkers = popped_rest (IsWalker c.args.job.now) _ _ c.in-Some.walker was.walkers c.in-Some.ensures.items;
      idle_workers = subst (All P) (sym c.push_reserved.ensures.items) (All-push P c.loop-walker.idle_workers.items c.in_ok-make_idle_worker.field-0 was.idle_workers c.in_ok-make_idle_worker.ensures);
      count = omega (arith, counted, longer, left);
      room = omega (arith, was.room, c.push_reserved.ensures.capacity);
    }
