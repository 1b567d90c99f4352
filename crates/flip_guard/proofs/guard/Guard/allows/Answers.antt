use Rattle.std.proofs.Common.{rules}
use Rattle.flip_guard.proofs.guard.Guard.allows.Goals as goal

pub returns : goal.returns
returns g c = c.requires.answers c.args.sums.now c.test.result (search rules) (search rules)
