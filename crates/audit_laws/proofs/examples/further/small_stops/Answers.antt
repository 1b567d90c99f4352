use Rattle.std.proofs.Common.{refl}
use Rattle.audit_laws.proofs.examples.further.small_stops.Goals as goal

pub returns-clause-one : goal.returns-clause-one
returns-clause-one c = refl

pub returns-clause-two : goal.returns-clause-two
returns-clause-two c = refl

pub returns-clause-four : goal.returns-clause-four
returns-clause-four c = refl

pub returns-clause-stop_of_known : goal.returns-clause-stop_of_known
returns-clause-stop_of_known c = refl

pub returns-clause-missing : goal.returns-clause-missing
returns-clause-missing c = refl
