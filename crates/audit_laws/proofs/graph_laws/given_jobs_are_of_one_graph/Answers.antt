use Rattle.audit_laws.proofs.Determining.{given_jobs_are_of_one_graph}
use Rattle.audit_laws.proofs.graph_laws.given_jobs_are_of_one_graph.Goals as goal

pub returns : goal.returns
returns c = given_jobs_are_of_one_graph
