use Rattle.std.proofs.Common.{arith}
use Rattle.audit_words.specs.ArgumentBytes.{pairs_in}
use Rattle.audit_words.proofs.ValidValues.{AreBounded-good}
use Rattle.audit_words.proofs.settings.limits_of.Goals as goal

pub returns-clause-max_split : goal.returns-clause-max_split
returns-clause-max_split c = c.number_at.ensures (omega (arith, (AreBounded-good (pairs_in c.args.words.now) c.requires).max_split.1))

pub returns-clause-max_splits : goal.returns-clause-max_splits
returns-clause-max_splits c = c.number_at-2.ensures (omega (arith, (AreBounded-good (pairs_in c.args.words.now) c.requires).max_splits))

pub returns-clause-max_split_regions : goal.returns-clause-max_split_regions
returns-clause-max_split_regions c = c.number_at-3.ensures (omega (arith, (AreBounded-good (pairs_in c.args.words.now) c.requires).max_split_regions))

pub returns-clause-group_districts : goal.returns-clause-group_districts
returns-clause-group_districts c = c.number_at-4.ensures (omega (arith, (AreBounded-good (pairs_in c.args.words.now) c.requires).group_districts))

pub returns-clause-max_length : goal.returns-clause-max_length
returns-clause-max_length c = c.length_at.ensures (omega (arith, (AreBounded-good (pairs_in c.args.words.now) c.requires).max_length))

pub returns-clause-group_share : goal.returns-clause-group_share
returns-clause-group_share c = c.number_at-5.ensures (omega (arith, (AreBounded-good (pairs_in c.args.words.now) c.requires).group_share))
