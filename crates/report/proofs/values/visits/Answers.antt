use Rattle.std.proofs.Common.{ap, arith}
use Rattle.report.proofs.Limits.{small}
use Rattle.report.proofs.values.visits.Goals as goal

pub returns-clause-value : goal.returns-clause-value
returns-clause-value c = omega (arith, c.from.ensures, ap (λ s. s.steps) c.setting.ensures.value)

pub returns-clause-few : goal.returns-clause-few
returns-clause-few c = omega (arith, c.from.ensures, ap (λ s. s.steps) c.setting.ensures.value, (small c.args.job.now c.setting.ensures.sound).few_steps)
