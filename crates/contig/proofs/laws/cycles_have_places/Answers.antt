use Rattle.contig.proofs.LongFaces.{side_places, cycle_from_places, apart_from_places}
use Rattle.contig.proofs.laws.cycles_have_places.Goals as goal

pub returns-clause-sides : goal.returns-clause-sides
returns-clause-sides c = side_places

pub returns-clause-cycle : goal.returns-clause-cycle
returns-clause-cycle c = cycle_from_places

pub returns-clause-apart : goal.returns-clause-apart
returns-clause-apart c = apart_from_places
