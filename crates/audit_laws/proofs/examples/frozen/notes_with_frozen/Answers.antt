use Rattle.std.proofs.Common.{refl}
use Rattle.std.specs.Fmt.{digits}
use Rattle.audit_laws.proofs.examples.frozen.notes_with_frozen.Goals as goal

pub returns-clause-share : goal.returns-clause-share
unfolding digits
returns-clause-share c = refl

pub returns-clause-no_flag : goal.returns-clause-no_flag
unfolding digits
returns-clause-no_flag c = refl

pub returns-clause-missing : goal.returns-clause-missing
unfolding digits
returns-clause-missing c = refl
