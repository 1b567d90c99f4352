use Rattle.walker.proofs.Binning.{bin_is}
use Rattle.walker.proofs.histogram.Histogram.update.Goals as goal

pub returns-then-self-clause-bin : goal.returns-then-self-clause-bin
returns-then-self-clause-bin g c =
    λ asked. bin_is c.args.state.now.job c.args.state.now.plan c.current_seats.result c.args.self.now.start c.bin_of-self.result
    c.current_seats.ensures.seats (c.requires.start asked) c.bin_of-self.ensures.bin
