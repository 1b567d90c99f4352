use Rattle.std.proofs.Common.{refl}
use Rattle.std.specs.Fmt.{digits}
use Rattle.audit_laws.proofs.examples.origins.notes_of_limits.Goals as goal

pub returns-clause-missing : goal.returns-clause-missing
unfolding digits
returns-clause-missing c = refl

pub returns-clause-no_whole : goal.returns-clause-no_whole
unfolding digits
returns-clause-no_whole c = refl

pub returns-clause-splits : goal.returns-clause-splits
unfolding digits
returns-clause-splits c = refl

pub returns-clause-regions : goal.returns-clause-regions
unfolding digits
returns-clause-regions c = refl

pub returns-clause-group : goal.returns-clause-group
unfolding digits
returns-clause-group c = refl
