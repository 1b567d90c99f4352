use Rattle.std.proofs.Common.{◌+◌, refl, arith}
use Rattle.std.proofs.lemmas.Bool.Decides.{not_from_Decides}
use Rattle.outcome_book.specs.Union.{AgreesWith}
use Rattle.outcome_book.proofs.Adding.{first_difference, each_more, each_of_all}
use Rattle.outcome_book.proofs.gathering.Gathering.difference.Goals as goal

pub returns-then-not-agrees-clause-some : goal.returns-then-not-agrees-clause-some
returns-then-not-agrees-clause-some c =
    first_difference c.args.self.now.outcomes c.args.found.now c.loop-outcome.outcome-index _ c.requires.rising (omega arith) c.loop-outcome.invariant.agreed
    (not_from_Decides c.agrees.result c.agrees.ensures c.if-not-agrees.true)

pub loop-outcome-preserved : goal.loop-outcome-preserved
loop-outcome-preserved c = record {
  agreed = each_more (AgreesWith c.args.self.now.outcomes) c.args.found.now c.loop-outcome.outcome-index (c.loop-outcome.outcome-index + 1) _ (omega arith) refl
      c.loop-outcome.invariant.agreed (c.agrees.ensures.0 c.if-not-agrees.false);
}

pub returns-clause-none : goal.returns-clause-none
returns-clause-none c =
    each_of_all (AgreesWith c.args.self.now.outcomes) c.args.found.now c.loop-outcome.outcome-index (omega arith) c.loop-outcome.invariant.agreed
