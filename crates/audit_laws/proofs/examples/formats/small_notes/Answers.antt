use Rattle.std.proofs.Common.{refl}
use Rattle.std.specs.Fmt.{digits}
use Rattle.audit_laws.proofs.examples.formats.small_notes.Goals as goal

pub returns-clause-words : goal.returns-clause-words
unfolding digits
returns-clause-words c = refl

pub returns-clause-graph : goal.returns-clause-graph
unfolding digits
returns-clause-graph c = refl

pub returns-clause-plan : goal.returns-clause-plan
unfolding digits
returns-clause-plan c = refl

pub returns-clause-parted : goal.returns-clause-parted
unfolding digits
returns-clause-parted c = refl

pub returns-clause-cut : goal.returns-clause-cut
unfolding digits
returns-clause-cut c = refl

pub returns-clause-split : goal.returns-clause-split
unfolding digits
returns-clause-split c = refl

pub returns-clause-region : goal.returns-clause-region
unfolding digits
returns-clause-region c = refl

pub returns-clause-table : goal.returns-clause-table
unfolding digits
returns-clause-table c = refl

pub returns-clause-named : goal.returns-clause-named
unfolding digits
returns-clause-named c = refl

pub returns-clause-stopped : goal.returns-clause-stopped
unfolding digits
returns-clause-stopped c = refl

pub returns-clause-slots : goal.returns-clause-slots
unfolding digits
returns-clause-slots c = refl
