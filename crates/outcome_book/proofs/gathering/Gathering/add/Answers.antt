use Rattle.std.proofs.Common.{◌+◌, List, take, refl, sym, ◌∙◌, subst, arith}
use Rattle.audit_model.specs.declared.outcome.Outcome.{Outcome}
use Rattle.outcome_book.specs.Gathered.{Gathered}
use Rattle.outcome_book.specs.Union.{AreById, HoldsBoth}
use Rattle.outcome_book.proofs.Adding.{holds_more, new_in_turn, take_next}
use Rattle.std.proofs.lemmas.List.{take_all}
use Rattle.outcome_book.proofs.Tables.{rising_there}
use Rattle.outcome_book.proofs.gathering.Gathering.add.Goals as goal

pub loop-outcome-preserved : goal.loop-outcome-preserved
loop-outcome-preserved c = record {
  total = c.put.ensures.total ∙ c.loop-outcome.invariant.total;
  both = subst (λ (xs : List Outcome). HoldsBoth c.args.self.now.outcomes xs c.put.new.self.outcomes)
      (sym (take_next c.args.found.now c.loop-outcome.outcome-index (c.loop-outcome.outcome-index + 1) _ (omega arith) refl))
      (holds_more c.args.self.now.outcomes (take c.loop-outcome.outcome-index c.args.found.now) c.loop-outcome.self.outcomes c.put.new.self.outcomes _
      c.loop-outcome.invariant.both c.put.ensures.both (new_in_turn c.args.found.now c.loop-outcome.outcome-index _ c.requires.rising (omega arith)));
}

pub returns-clause-union : goal.returns-clause-union
returns-clause-union c = record {
  rising = subst (λ (g : Gathered). AreById g.outcomes) c.self.view_is (rising_there 0 c.self.inside.places.items c.self.invariant.0);
  each = subst (λ (xs : List Outcome). HoldsBoth c.args.self.now.outcomes xs c.loop-outcome.self.outcomes)
      (take_all c.loop-outcome.outcome-index c.args.found.now (omega arith)) c.loop-outcome.invariant.both;
}
