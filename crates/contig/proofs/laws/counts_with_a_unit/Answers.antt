use Rattle.contig.proofs.FaceCounting as counts
use Rattle.contig.proofs.laws.counts_with_a_unit.Goals as goal

pub returns-clause-units : goal.returns-clause-units
returns-clause-units c = counts.units_with

pub returns-clause-edges : goal.returns-clause-edges
returns-clause-edges c = λ g inside u simple i. counts.edges_with g simple inside u i.1 i.0

pub returns-clause-faces : goal.returns-clause-faces
returns-clause-faces c = counts.faces_with
