use Rattle.contig.proofs.LongFaces.{closed_may_not}
use Rattle.contig.proofs.laws.cycles_close_districts.Goals as goal

pub returns : goal.returns
returns c = closed_may_not
