use Rattle.report.proofs.Regions.{few_frozen}
use Rattle.report.proofs.rules.frozen_of.Goals as goal

pub returns-clause-few : goal.returns-clause-few
returns-clause-few c =
    let job = c.args.job.now in
    let sound = c.rules.ensures.sound.within in
    rw (c.as_slice.ensures, c.rules.ensures.value) (few_frozen job.graph.units job.frozen sound.frozen sound.input.units)
