use Rattle.std.proofs.Common.{refl}
use Rattle.audit_model.specs.Below.{count_below}
use Rattle.audit_laws.proofs.examples.rules.bytes_of_rules.Goals as goal

pub returns-clause-plain : goal.returns-clause-plain
unfolding count_below
returns-clause-plain c = refl

pub returns-clause-length : goal.returns-clause-length
unfolding count_below
returns-clause-length c = refl

pub returns-clause-cut : goal.returns-clause-cut
unfolding count_below
returns-clause-cut c = refl

pub returns-clause-cut_behind : goal.returns-clause-cut_behind
unfolding count_below
returns-clause-cut_behind c = refl

pub returns-clause-regions : goal.returns-clause-regions
unfolding count_below
returns-clause-regions c = refl
