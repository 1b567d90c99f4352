use Rattle.std.proofs.Common.{refl}
use Rattle.std.specs.Fmt.{digits}
use Rattle.audit_model.specs.Below.{count_below}
use Rattle.audit_laws.proofs.examples.pairs.lines_of_pairs.Goals as goal

pub returns : goal.returns
unfolding count_below digits
returns c = refl
