use Rattle.std.proofs.Common.{refl}
use Rattle.audit_model.specs.Below.{count_below}
use Rattle.audit_laws.proofs.examples.model.more_scores.Goals as goal

pub returns-clause-seats : goal.returns-clause-seats
unfolding count_below
returns-clause-seats c = refl

pub returns-clause-gap : goal.returns-clause-gap
unfolding count_below
returns-clause-gap c = refl

pub returns-clause-moved_gap : goal.returns-clause-moved_gap
unfolding count_below
returns-clause-moved_gap c = refl

pub returns-clause-mean_median : goal.returns-clause-mean_median
unfolding count_below
returns-clause-mean_median c = refl

pub returns-clause-moved_mean_median : goal.returns-clause-moved_mean_median
unfolding count_below
returns-clause-moved_mean_median c = refl

pub returns-clause-even : goal.returns-clause-even
unfolding count_below
returns-clause-even c = refl
