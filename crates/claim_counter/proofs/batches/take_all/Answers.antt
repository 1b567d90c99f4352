use Rattle.std.proofs.Common.{◌≡◌, ◌∙◌, sym, ap, subst, ◌&&◌, Bool, true, ◌++◌, List, map, arith}
use Rattle.audit_model.specs.declared.outcome.Outcome.{Outcome}
use Rattle.audit_model.proofs.ListFacts.{popped_last, popped_rest}
use Rattle.outcome_book.proofs.AddingUp.{found_has_few}
use Rattle.claim_counter.specs.declared.pass.Pass.{Pass}
use Rattle.claim_counter.specs.declared.record.PassRecord.{PassRecord}
use Rattle.claim_counter.specs.Records.{AreDifferentBelow}
use Rattle.claim_counter.specs.Passes.{own, size_of, BelongsTo}
use Rattle.claim_counter.specs.Batches.{IsBack, IsIdleWorker}
use Rattle.claim_counter.specs.Walks.{found_at}
use Rattle.claim_counter.proofs.Gathering.{first_share, more_share, holds_more, none_yet}
use Rattle.claim_counter.proofs.batches.take_all.Goals as goal

pub take_first-pass-requires-clause-share : goal.take_first-pass-requires-clause-share
take_first-pass-requires-clause-share g c =
    let back = popped_last (IsBack c.args.job.now c.args.todo.now c.args.claims.now) _ _ c.in-Some.first c.requires.back.workers_are c.in-Some.ensures.items in
    first_share _ _ _ _ back.done c.requires.limit c.args.book.now c.requires.todo (λ id. found_has_few c.args.job.now _ id c.units-units.ensures.sound)

pub take_first-pass-requires-clause-idle_worker : goal.take_first-pass-requires-clause-idle_worker
take_first-pass-requires-clause-idle_worker g c =
    let back = popped_last (IsBack c.args.job.now c.args.todo.now c.args.claims.now) _ _ c.in-Some.first c.requires.back.workers_are c.in-Some.ensures.items in
    record { made = back.made; share_room = back.room }

pub take_first-pass-requires-clause-idle_workers : goal.take_first-pass-requires-clause-idle_workers
take_first-pass-requires-clause-idle_workers g c = record {
  hands_are = none_yet (IsIdleWorker c.args.job.now) c.args.idle_workers.now.items (omega (arith, c.requires.back.none, c.args.idle_workers.now.ok.0));
  room = omega (arith, c.requires.back.none, c.requires.back.some, c.requires.back.room);
}

pub loop-worker-init : goal.loop-worker-init
loop-worker-init g c =
    let back = popped_last (IsBack c.args.job.now c.args.todo.now c.args.claims.now) _ _ c.in-Some.first c.requires.back.workers_are c.in-Some.ensures.items in
    let done = back.done in
    let same = sym c.take_first-pass.ensures.pass in
    record {
      workers = popped_rest (IsBack c.args.job.now c.args.todo.now c.args.claims.now) _ _ c.in-Some.first c.requires.back.workers_are c.in-Some.ensures.items;
      pass = subst (BelongsTo c.args.claims.now) same done.pass;
      ended = subst (λ (p : Pass). (own p).ended ≡ true) same done.ended;
      seats =
          let one : (own c.take_first-pass.result).weight ≡ 1 = subst (λ (p : Pass). (own p).weight ≡ 1) same done.weight in
          let none : (own c.take_first-pass.result).spare ≡ 0 = subst (λ (p : Pass). (own p).spare ≡ 0) same done.spare in
          let left = c.in-Some.ensures.len in
          omega arith;
      different = subst (λ (p : Pass). AreDifferentBelow (size_of c.args.claims.now).limit (own p).claims) same done.different;
      total = c.take_first-pass.ensures.total;
      outcomes = c.take_first-pass.ensures.outcomes
          ∙ ap (λ (os : List Outcome). c.args.book.now.outcomes ++ os) done.shared
          ∙ ap (λ (p : Pass). c.args.book.now.outcomes ++ map (found_at c.args.job.now c.args.todo.now) (own p).claims) same;
      sound = c.take_first-pass.ensures.sound;
      idle_workers = c.take_first-pass.ensures.idle_workers;
      count =
          let left = c.in-Some.ensures.len in
          let one = c.take_first-pass.ensures.count in
          omega (arith, left, one, c.requires.back.none);
      room = c.take_first-pass.ensures.room;
      workers_room = c.pop.ensures.capacity;
    }

pub take_next-pass-requires-clause-worker : goal.take_next-pass-requires-clause-worker
take_next-pass-requires-clause-worker g c =
    let back = popped_last (IsBack c.args.job.now c.args.todo.now c.args.claims.now) _ _ c.in-Some-pop.worker c.loop-worker.invariant.workers c.in-Some-pop.ensures.items in
    back.done.pass

pub take_next-pass-requires-clause-share : goal.take_next-pass-requires-clause-share
take_next-pass-requires-clause-share g c together =
    let was = c.loop-worker.invariant in
    let back = popped_last (IsBack c.args.job.now c.args.todo.now c.args.claims.now) _ _ c.in-Some-pop.worker was.workers c.in-Some-pop.ensures.items in
    more_share _ _ _ _ back.done c.requires.limit c.args.book.now c.loop-worker.book (own c.loop-worker.pass).claims c.requires.todo was.total was.different was.outcomes
    (λ id. found_has_few c.args.job.now _ id c.units-units.ensures.sound) together

pub take_next-pass-requires-clause-idle_worker : goal.take_next-pass-requires-clause-idle_worker
take_next-pass-requires-clause-idle_worker g c =
    let back = popped_last (IsBack c.args.job.now c.args.todo.now c.args.claims.now) _ _ c.in-Some-pop.worker c.loop-worker.invariant.workers c.in-Some-pop.ensures.items in
    record { made = back.made; share_room = back.room }

pub take_next-pass-requires-clause-idle_workers : goal.take_next-pass-requires-clause-idle_workers
take_next-pass-requires-clause-idle_workers g c =
    let was = c.loop-worker.invariant in
    let left = c.in-Some-pop.ensures.len in
    record {
      hands_are = was.idle_workers;
      room = omega (arith, was.count, was.room, left, c.requires.back.room);
    }

pub loop-worker-preserved : goal.loop-worker-preserved
loop-worker-preserved g c =
    let was = c.loop-worker.invariant in
    let back = popped_last (IsBack c.args.job.now c.args.todo.now c.args.claims.now) _ _ c.in-Some-pop.worker was.workers c.in-Some-pop.ensures.items in
    let done = back.done in
    let both = c.take_next-pass.ensures.both in
    record {
      workers = popped_rest (IsBack c.args.job.now c.args.todo.now c.args.claims.now) _ _ c.in-Some-pop.worker was.workers c.in-Some-pop.ensures.items;
      pass = c.take_next-pass.ensures.pass;
      ended = ap (λ (p : PassRecord). p.ended) both ∙ (ap (λ (b : Bool). b && (own c.in-Some-pop.worker.pass).ended) was.ended ∙ done.ended);
      seats =
          let weights = ap (λ (p : PassRecord). p.weight) both in
          let spares = ap (λ (p : PassRecord). p.spare) both in
          let one = done.weight in
          let none = done.spare in
          let counted = was.seats in
          let left = c.in-Some-pop.ensures.len in
          omega arith;
      different = c.take_next-pass.ensures.different;
      total = c.take_next-pass.ensures.total ∙ was.total;
      outcomes = holds_more _ _ _ _ done c.requires.limit c.args.book.now.outcomes c.loop-worker.book.outcomes _ (own c.loop-worker.pass).claims _
          was.outcomes c.take_next-pass.ensures.outcomes (ap (λ (p : PassRecord). p.claims) both);
      sound = c.take_next-pass.ensures.sound;
      idle_workers = c.take_next-pass.ensures.idle_workers;
      count =
          let left = c.in-Some-pop.ensures.len in
          let one = c.take_next-pass.ensures.count in
          let counted = was.count in
          omega (arith, left, one, counted);
      room = c.take_next-pass.ensures.room ∙ was.room;
      workers_room = c.pop-in-loop-worker.ensures.capacity ∙ was.workers_room;
    }
