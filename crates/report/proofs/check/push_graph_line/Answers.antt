use Rattle.report.proofs.check.push_graph_line.Goals as goal

pub returns : goal.returns
returns c = rw (c.from.ensures, c.from-2.ensures, c.from-3.ensures, c.units.ensures.units, c.edges.ensures.edges, c.graph.ensures.value, c.districts.ensures.value) at c.push_line.ensures
