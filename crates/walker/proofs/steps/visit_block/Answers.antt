use Rattle.walker.proofs.Flushing.{on_track_by}
use Rattle.walker.proofs.steps.visit_block.Goals as goal

pub returns-clause-on : goal.returns-clause-on
returns-clause-on g c =
    let before = c.args.track.now in
    on_track_by c.args.job.now c.visit_along-taken.new.state.plan c.visit_along-taken.result before.draws c.skip.new.self c.visit_along-taken.new.trail
    c.skip.ensures c.visit_along-taken.ensures.visited c.visit_along-taken.ensures.trail
