use Rattle.std.proofs.Common.{sym, ◌∙◌}
use Rattle.audit_model.proofs.First.{first_below_some}
use Rattle.dual_graph.proofs.Parted.{parting_of_none, parting_of_whole, parting_of_parted}
use Rattle.dual_graph.proofs.search.find_disconnected_pair.Goals as goal

pub reach-requires-clause-start : goal.reach-requires-clause-start
reach-requires-clause-start g c = first_below_some c.args.graph.now.units (g.I.Inside.inside c.args.set.now) c.in-Some.one (sym c.in-Some.ensures.first)

pub returns-in-None-clause-find_disconnected_pair : goal.returns-in-None-clause-find_disconnected_pair
returns-in-None-clause-find_disconnected_pair g c = sym (parting_of_none c.args.graph.now (g.I.Inside.inside c.args.set.now) (sym c.in-None.ensures.first))

pub returns-in_err-other-in-Some-clause-find_disconnected_pair : goal.returns-in_err-other-in-Some-clause-find_disconnected_pair
returns-in_err-other-in-Some-clause-find_disconnected_pair g c =
    c.from_residual.ensures ∙ sym (parting_of_whole c.args.graph.now (g.I.Inside.inside c.args.set.now) c.in-Some.ensures.sound c.in-Some.one c.reach.new.marks.items
    (sym c.in-Some.ensures.first) c.reach.ensures.found (sym c.first_unmarked.ensures ∙ c.in_err-other-in-Some.was {u = tt}))

pub returns-in_ok-other-in-Some-clause-find_disconnected_pair : goal.returns-in_ok-other-in-Some-clause-find_disconnected_pair
returns-in_ok-other-in-Some-clause-find_disconnected_pair g c =
    sym (parting_of_parted c.args.graph.now (g.I.Inside.inside c.args.set.now) c.in-Some.ensures.sound c.in-Some.one c.reach.new.marks.items
    (sym c.in-Some.ensures.first) c.reach.ensures.found c.in_ok-other-in-Some.other (sym c.in_ok-other-in-Some.ensures))
