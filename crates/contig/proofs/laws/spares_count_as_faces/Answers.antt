use Rattle.contig.proofs.Choosing.{chosen_are_rings, chosen_counted}
use Rattle.contig.proofs.laws.spares_count_as_faces.Goals as goal

pub returns-clause-rings : goal.returns-clause-rings
returns-clause-rings c = chosen_are_rings

pub returns-clause-count : goal.returns-clause-count
returns-clause-count c = chosen_counted
