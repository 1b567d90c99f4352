use Rattle.std.proofs.Common.{◌∙◌, ℕ, ap, arith, subst, sym, vec_len}
use Rattle.claim_counter.specs.Batches.{IsFreshBatch}
use Rattle.outcome_book.specs.Booked.{AreApart}
use Rattle.audit_model.specs.Run.{by_id}
use Rattle.sequential_test.proofs.Slicing.{found_apart, found_more, found_sorted, may_walk}
use Rattle.outcome_book.proofs.ById.{by_id-mapped}
use Rattle.sequential_test.proofs.walking.walk_to.Goals as goal

pub walk_batch-requires-clause-batch : goal.walk_batch-requires-clause-batch
walk_batch-requires-clause-batch g c κs within =
    subst (λ (n : ℕ). IsFreshBatch n (vec_len c.args.batch_workers.now.idle_workers) c.args.id_range.batch) (omega (arith, c.requires.ids.count)) c.requires.batch

pub walk_batch-requires-clause-todo : goal.walk_batch-requires-clause-todo
walk_batch-requires-clause-todo g c κs within = record {
  ids = may_walk c.args.job.now c.args.id_range.from c.args.id_range.to c.args.id_range.ids.now c.args.book.now.outcomes c.requires.ids c.requires.few c.requires.walked.walked;
  whole = c.requires.walked.whole;
}

pub walk_batch-requires-clause-hub : goal.walk_batch-requires-clause-hub
walk_batch-requires-clause-hub g c κs within = λ k d inside above. c.requires.walked.hub_is

pub returns-clause-walked : goal.returns-clause-walked
returns-clause-walked g c = record {
  batch_workers = c.walk_batch.ensures.batch_workers;
  hub_is = c.walk_batch.ensures.hub ∙ c.requires.walked.hub_is;
  whole = c.walk_batch.ensures.total ∙ c.requires.walked.whole;
  walked = found_more c.args.job.now c.args.id_range.from c.args.id_range.to c.args.id_range.ids.now c.args.book.now.outcomes c.walk_batch.new.book.outcomes c.requires.ids c.requires.walked.walked c.walk_batch.ensures.outcomes;
  room = omega (arith, c.requires.walked.room, c.sorted_into.ensures.room);
}

pub returns-clause-sorted : goal.returns-clause-sorted
returns-clause-sorted g c =
    c.sorted_into.ensures.outcomes
    ∙ ap (λ n. by_id n c.walk_batch.new.book.outcomes) (c.walk_batch.ensures.total ∙ c.requires.walked.whole)
    ∙ found_sorted c.args.job.now by_id-mapped c.args.id_range.to c.walk_batch.new.book.outcomes c.requires.few
    (found_more c.args.job.now c.args.id_range.from c.args.id_range.to c.args.id_range.ids.now c.args.book.now.outcomes c.walk_batch.new.book.outcomes c.requires.ids c.requires.walked.walked c.walk_batch.ensures.outcomes)

pub returns-clause-rising : goal.returns-clause-rising
returns-clause-rising g c =
    subst AreApart
    (sym (c.sorted_into.ensures.outcomes
    ∙ ap (λ n. by_id n c.walk_batch.new.book.outcomes) (c.walk_batch.ensures.total ∙ c.requires.walked.whole)
    ∙ found_sorted c.args.job.now by_id-mapped c.args.id_range.to c.walk_batch.new.book.outcomes c.requires.few
    (found_more c.args.job.now c.args.id_range.from c.args.id_range.to c.args.id_range.ids.now c.args.book.now.outcomes c.walk_batch.new.book.outcomes c.requires.ids c.requires.walked.walked c.walk_batch.ensures.outcomes)))
    (found_apart c.args.job.now c.args.id_range.to)
