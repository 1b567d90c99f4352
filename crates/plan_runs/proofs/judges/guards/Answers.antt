use Rattle.std.proofs.Common.{◌∙◌, All, nat_le, sym, ap, subst, arith}
use Rattle.std.proofs.lemmas.List.Elements.{All-push}
use Rattle.audit_model.specs.declared.rules.Rules.{Rules}
use Rattle.plan_runs.specs.Guards.{IsGuard}
use Rattle.plan_runs.proofs.judges.guards.Goals as goal

pub new-requires-clause-answers : goal.new-requires-clause-answers
new-requires-clause-answers g c = λ sums answer few ret.
    c.requires.answers sums answer few ret ∙ ap (λ (r : Rules). nat_le sums.cut r.max_cut) (sym c.in_ok-copy.ensures)

pub loop-preserved : goal.loop-preserved
loop-preserved g c = record {
  each =
      let is = IsGuard c.args.test c.args.rules.now in
      subst (All is) (sym c.in_ok-push.ensures.items)
      (All-push is c.loop.judges.items _ c.loop.invariant.each (record { test_is = c.new.ensures.test; rules_are = c.new.ensures.rules ∙ c.in_ok-copy.ensures }));
  count = omega (arith, c.loop.invariant.count, c.in_ok-push.ensures.len);
}
