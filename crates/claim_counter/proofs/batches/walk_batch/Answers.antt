use Rattle.std.proofs.Common.{◌≡◌, ◌∙◌, sym, subst, ◌++◌, All, List, length, map, arith, rules}
use Rattle.std.proofs.lemmas.List.{with_items_is}
use Rattle.std.specs.Prelude.{IsPermutation}
use Rattle.audit_model.specs.declared.outcome.Outcome.{Outcome}
use Rattle.claim_counter.specs.Passes.{own}
use Rattle.claim_counter.specs.Walks.{found, ServesEnds}
use Rattle.claim_counter.specs.Batches.{IsBack, IsStarted}
use Rattle.claim_counter.proofs.Fitting.{todo_fits}
use Rattle.claim_counter.proofs.Sharing.{all_found}
use Rattle.claim_counter.proofs.batches.walk_batch.Goals as goal

pub returns-clause-outcomes : goal.returns-clause-outcomes
returns-clause-outcomes g c =
    let all = c.take_all-all.ensures in
    let closed = c.close.ensures in
    subst (λ (os : List Outcome). IsPermutation os (c.args.book.now.outcomes ++ map (found c.args.job.now) c.args.todo.now)) (sym all.outcomes)
    (all_found c.args.job.now c.args.todo.now (own c.take_all-all.result).claims c.args.book.now.outcomes _ closed.drawn
    (closed.all all.ended ∙ c.requires.batch.limit))

pub start_workers-requires-clause-limit : goal.start_workers-requires-clause-limit
start_workers-requires-clause-limit g c =
    omega (arith, c.requires.batch.limit, todo_fits c.args.job.now c.args.book.now.outcomes c.args.todo.now c.requires.todo.ids)

pub run_all-requires-clause-started : goal.run_all-requires-clause-started
run_all-requires-clause-started g c κs within =
    subst (All (IsStarted c.args.job.now c.args.batch.claims)) (sym c.as_mut_slice.ensures.value) c.start_workers.ensures.started

pub run_all-requires-clause-shared : goal.run_all-requires-clause-shared
run_all-requires-clause-shared g c κs within = record {
  count = c.requires.batch.limit;
  within = c.requires.todo.ids.within;
  hub = subst (ServesEnds c.args.job.now c.args.todo.now) (sym c.as_slice.ensures) c.requires.hub;
}

pub take_all-all-requires-clause-back : goal.take_all-all-requires-clause-back
take_all-all-requires-clause-back g c = record {
  workers_are = let long : length c.run_all.new.workers ≡ c.start_workers.new.workers.len = search rules in
      subst (All (IsBack c.args.job.now c.args.todo.now c.args.batch.claims)) (sym (with_items_is c.start_workers.new.workers c.run_all.new.workers long))
      c.run_all.ensures;
  some = omega (arith, c.start_workers.ensures.count, c.requires.batch_workers.some);
  none = c.start_workers.ensures.none;
  room = omega (arith, c.start_workers.ensures.count, c.start_workers.ensures.hands_room, c.requires.batch_workers.hands_room);
}
