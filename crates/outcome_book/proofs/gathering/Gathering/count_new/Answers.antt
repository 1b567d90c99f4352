use Rattle.std.proofs.Common.{[], arith, ap, not, slice_index_or}
use Rattle.audit_model.specs.declared.outcome.Outcome.{Outcome}
use Rattle.audit_model.specs.Run.{has_id}
use Rattle.outcome_book.proofs.Adding.{count_more, one_at_most}
use Rattle.outcome_book.specs.Gathered.{Gathered}
use Rattle.outcome_book.proofs.Tables.{few_added}
use Rattle.outcome_book.proofs.gathering.Gathering.count_new.Goals as goal

pub loop-outcome-preserved : goal.loop-outcome-preserved
loop-outcome-preserved c =
    let first : Outcome = record { id = 0; moved = 0; values = []; bins = [] } in
    let more = count_more (λ o. not (has_id c.args.self.now.outcomes o.id)) c.args.found.now c.loop-outcome.outcome-index first (omega arith) in
    let few = one_at_most (not (has_id c.args.self.now.outcomes (slice_index_or c.args.found.now c.loop-outcome.outcome-index first).id)) in
    record {
      counted = omega (arith, c.count_with-count.ensures, c.loop-outcome.invariant.counted, more);
      few = omega (arith, c.count_with-count.ensures, c.loop-outcome.invariant.few, few);
    }

pub count_with-count-requires-clause-few : goal.count_with-count-requires-clause-few
count_with-count-requires-clause-few c =
    omega (
      arith,
      c.loop-outcome.invariant.few,
      few_added c.args.self.now.total c.args.found.now c.requires,
      ap (λ (g : Gathered). g.total) c.self.view_is,
      c.self.invariant.1,
    )
