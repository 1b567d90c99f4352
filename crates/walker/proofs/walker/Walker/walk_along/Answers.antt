use Rattle.std.proofs.Common.{◌+◌, ◌∙◌}
use Rattle.audit_statement.specs.Draw.{draw}
use Rattle.walker.specs.Binned.{histogram_of_visits}
use Rattle.walker.proofs.Finding.{run_found}
use Rattle.walker.proofs.walker.Walker.walk_along.Goals as goal

pub returns-clause-outcome : goal.returns-clause-outcome
returns-clause-outcome g c =
    let job = c.args.job.now in
    let found = c.count_visits-found in
    run_found job (draw job.setting.key) c.args.course.stream c.args.course.steps c.from.result found.result.tally.counts found.result.bins.counts
    (histogram_of_visits c.args.course.shift job (draw job.setting.key c.args.course.stream) (c.args.course.steps + 1)) c.signed.result
    (c.from.ensures ∙ found.ensures.moved) found.ensures.counts c.signed.ensures found.ensures.bins
