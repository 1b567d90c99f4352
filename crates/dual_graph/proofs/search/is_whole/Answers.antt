use Rattle.dual_graph.proofs.Parted.{none_is_whole}
use Rattle.dual_graph.proofs.search.is_whole.Goals as goal

pub returns-clause-whole : goal.returns-clause-whole
returns-clause-whole g c = none_is_whole c.args.graph.now (g.I.Inside.inside c.args.set.now) c.find_disconnected_pair.result c.is_none.result c.find_disconnected_pair.ensures.find_disconnected_pair c.is_none.ensures
