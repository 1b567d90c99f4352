use Rattle.std.proofs.Common.{◌+◌, ◌-◌, ◌*◌, arith}
use Rattle.audit_model.specs.Job.{total_population}
use Rattle.audit_model.proofs.Accepted.{balanced_between, enough_from, small_up_to}
use Rattle.audit_model.proofs.laws.bounds_are_two_numbers.Goals as goal

pub returns-clause-both : goal.returns-clause-both
returns-clause-both c = balanced_between

pub returns-clause-lower : goal.returns-clause-lower
returns-clause-lower c = λ job population above.
    enough_from ((10000 - job.setting.slack) * total_population job) (10000 * job.districts) population (omega arith)

pub returns-clause-upper : goal.returns-clause-upper
returns-clause-upper c = λ job population above.
    small_up_to (10000 * job.districts) ((10000 + job.setting.slack) * total_population job) population (omega arith)
