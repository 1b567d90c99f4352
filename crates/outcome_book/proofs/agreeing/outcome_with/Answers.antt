use Rattle.std.proofs.Common.{◌+◌, refl, sym, arith}
use Rattle.outcome_book.proofs.Finding.{found_here, none_more}
use Rattle.outcome_book.proofs.agreeing.outcome_with.Goals as goal

pub returns-then-outcome-id : goal.returns-then-outcome-id
returns-then-outcome-id c =
    sym (found_here c.args.outcomes.now c.args.id c.loop-outcome.outcome-index _ (omega arith) c.loop-outcome.invariant.none c.if-outcome-id.true)

pub loop-outcome-preserved : goal.loop-outcome-preserved
loop-outcome-preserved c = record {
  none = none_more c.args.outcomes.now c.args.id c.loop-outcome.outcome-index (c.loop-outcome.outcome-index + 1) _ (omega arith) refl c.loop-outcome.invariant.none
      c.if-outcome-id.false;
}
