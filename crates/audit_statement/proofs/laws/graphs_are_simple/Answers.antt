use Rattle.audit_statement.proofs.Simple.{graph_is_simple}
use Rattle.audit_statement.proofs.laws.graphs_are_simple.Goals as goal

pub returns : goal.returns
returns c = graph_is_simple
