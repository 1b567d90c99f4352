use Rattle.std.proofs.Common.{refl}
use Rattle.audit_model.specs.Below.{count_below}
use Rattle.audit_model.specs.Plan.{is_legal}
use Rattle.audit_laws.proofs.examples.lengths.plans_with_lengths.Goals as goal

pub returns-clause-short : goal.returns-clause-short
unfolding is_legal count_below
returns-clause-short c = refl

pub returns-clause-long : goal.returns-clause-long
unfolding is_legal count_below
returns-clause-long c = refl

pub returns-clause-start : goal.returns-clause-start
unfolding is_legal count_below
returns-clause-start c = refl

pub returns-clause-too_long : goal.returns-clause-too_long
unfolding is_legal count_below
returns-clause-too_long c = refl
