use Rattle.std.proofs.Common.{sym, subst}
use Rattle.walker.specs.Walked.{IsWalked, Under}
use Rattle.walker.proofs.way.Way.go_on.Goals as goal

pub returns-clause-walked : goal.returns-clause-walked
returns-clause-walked g c = λ key stream plan place walked.
    c.walk_on.ensures.walked key stream plan place c.self.inside.moved
    (subst (λ (u : Under). IsWalked c.args.job.now key stream plan place c.args.state.now u.draws u.moved) (sym c.self.view_is) walked)
