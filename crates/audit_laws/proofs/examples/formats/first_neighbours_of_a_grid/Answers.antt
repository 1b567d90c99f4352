use Rattle.std.proofs.Common.{refl}
use Rattle.std.specs.Fmt.{digits}
use Rattle.audit_laws.proofs.examples.formats.first_neighbours_of_a_grid.Goals as goal

pub returns : goal.returns
unfolding digits
returns c = refl
