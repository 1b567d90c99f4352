use Rattle.std.proofs.Common.{refl}
use Rattle.audit_model.specs.Below.{count_below}
use Rattle.audit_model.specs.Plan.{is_legal}
use Rattle.audit_laws.proofs.examples.model.legal_plans_of_a_path.Goals as goal

pub returns-clause-start : goal.returns-clause-start
unfolding is_legal count_below
returns-clause-start c = refl

pub returns-clause-moved : goal.returns-clause-moved
unfolding is_legal count_below
returns-clause-moved c = refl

pub returns-clause-parted : goal.returns-clause-parted
unfolding is_legal count_below
returns-clause-parted c = refl

pub returns-clause-narrow : goal.returns-clause-narrow
unfolding is_legal count_below
returns-clause-narrow c = refl
