use Rattle.std.proofs.Common.{◌-◌, refl}
use Rattle.walker.proofs.Flushing.{flushed}
use Rattle.walker.proofs.trail.Trail.flush.Goals as goal

pub returns-clause-counted : goal.returns-clause-counted
returns-clause-counted c =
    λ job draws place trail upto. flushed job draws place c.args.self.now trail _ c.args.visits (c.args.visits - c.args.self.now.visits) upto refl
    c.count.ensures.counts c.count-2.ensures.asked c.count-2.ensures.nine c.count-2.ensures.counts c.count-2.ensures.none
