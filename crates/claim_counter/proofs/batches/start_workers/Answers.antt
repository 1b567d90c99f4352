use Rattle.std.proofs.Common.{◌≡◌, ◌∙◌, refl, sym, ap, subst, ◌-◌, All, arith, vec_len}
use Rattle.std.proofs.lemmas.List.Elements.{All-push}
use Rattle.claim_counter.specs.Records.{fresh, with_less_spare}
use Rattle.claim_counter.specs.Batches.{IsIdleWorker, IsStarted}
use Rattle.claim_counter.proofs.Gathering.{none_yet}
use Rattle.claim_counter.proofs.batches.start_workers.Goals as goal
use Rattle.audit_model.proofs.ListFacts.{popped_last, popped_rest}

pub start_worker-requires-clause-idle_worker : goal.start_worker-requires-clause-idle_worker
start_worker-requires-clause-idle_worker g c =
    popped_last (IsIdleWorker c.args.job.now) _ _ c.in-Some-pop.idle_worker c.loop-idle_worker.invariant.idle_workers c.in-Some-pop.ensures.items

pub loop-idle_worker-preserved : goal.loop-idle_worker-preserved
loop-idle_worker-preserved g c =
    let was = c.loop-idle_worker.invariant in
    let rest = c.split-batch.ensures.rest in
    let left = c.in-Some-pop.ensures.len in
    let counted = was.count in
    let longer = c.push_reserved.ensures.len in
    let P = IsStarted c.args.job.now c.args.claims.now in
    record {
      idle_workers = popped_rest (IsIdleWorker c.args.job.now) _ _ c.in-Some-pop.idle_worker was.idle_workers c.in-Some-pop.ensures.items;
      started = subst (All P) (sym c.push_reserved.ensures.items) (All-push P c.loop-idle_worker.workers.items c.start_worker.result was.started c.start_worker.ensures);
      pass = rest.0;
      fresh = rest.1 ∙ ap with_less_spare was.fresh ∙ ap fresh (let e : vec_len c.loop-idle_worker.idle_workers - 1 ≡ vec_len c.pop-in-loop-idle_worker.new.self = omega (arith, left) in e);
      count = omega (arith, counted, longer, left);
      hands_room = c.pop-in-loop-idle_worker.ensures.capacity ∙ was.hands_room;
      room = c.push_reserved.ensures.capacity ∙ was.room;
    }

pub start_worker-requires-2-clause-idle_worker : goal.start_worker-requires-2-clause-idle_worker
start_worker-requires-2-clause-idle_worker g c =
    popped_last (IsIdleWorker c.args.job.now) _ _ c.in-Some.last c.requires.idle.hands_are c.in-Some.ensures.items

pub returns-clause-started : goal.returns-clause-started
returns-clause-started g c =
    let P = IsStarted c.args.job.now c.args.claims.now in
    subst (All P) (sym c.push_reserved-2.ensures.items) (All-push P c.loop-idle_worker.workers.items c.start_worker-2.result c.loop-idle_worker.invariant.started c.start_worker-2.ensures)

pub loop-idle_worker-init : goal.loop-idle_worker-init
loop-idle_worker-init g c =
    let left = c.in-Some.ensures.len in
    record {
      idle_workers = popped_rest (IsIdleWorker c.args.job.now) _ _ c.in-Some.last c.requires.idle.hands_are c.in-Some.ensures.items;
      started = none_yet (IsStarted c.args.job.now c.args.claims.now) c.args.workers.now.items (omega (arith, c.requires.idle.none, c.args.workers.now.ok.0));
      pass = c.requires.pass.0;
      fresh = c.requires.pass.1 ∙ ap fresh (let e : vec_len c.args.idle_workers.now - 1 ≡ vec_len c.pop.new.self = omega (arith, left) in e);
      count = omega (arith, left, c.requires.idle.none);
      hands_room = c.pop.ensures.capacity;
      room = refl;
    }
