use Rattle.contig.proofs.Parting.{district_parts}
use Rattle.contig.proofs.laws.parting_units_may_not_leave.Goals as goal

pub returns : goal.returns
returns c = district_parts
