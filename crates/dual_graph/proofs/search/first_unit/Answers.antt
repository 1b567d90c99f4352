use Rattle.std.proofs.Common.{sym, arith, ◌∙◌}
use Rattle.audit_model.proofs.First.{first_below_here}
use Rattle.dual_graph.proofs.search.first_unit.Goals as goal

pub returns-then-holds-clause-first : goal.returns-then-holds-clause-first
returns-then-holds-clause-first g c =
    sym (first_below_here c.args.within.now.graph.now.units c.loop-unit.unit (g.I.Inside.inside c.args.within.now.set.now) c.loop-unit.invariant (omega arith)
    (sym c.holds.ensures ∙ c.if-holds.true))
