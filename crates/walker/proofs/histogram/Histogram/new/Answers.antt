use Rattle.walker.proofs.Binning.{start_bin}
use Rattle.walker.proofs.histogram.Histogram.new.Goals as goal

pub returns-then-asked-clause-bin : goal.returns-then-asked-clause-bin
returns-then-asked-clause-bin g c = λ asked. start_bin c.args.state.now.job c.args.state.now.plan c.requires.start
