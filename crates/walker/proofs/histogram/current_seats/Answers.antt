use Rattle.std.proofs.Common.{◌^◌, ◌<◌, sym, subst}
use Rattle.audit_model.specs.declared.outcome.SumsView.{SumsView}
use Rattle.scores.specs.Votes.{AreVotes}
use Rattle.walker.proofs.Asking.{legal_short, legal_votes}
use Rattle.walker.proofs.histogram.current_seats.Goals as goal

pub read_value-requires-clause-votes : goal.read_value-requires-clause-votes
read_value-requires-clause-votes g c =
    subst (λ (s : SumsView). AreVotes s.first s.second) (sym c.view.ensures.value)
    (legal_votes c.args.state.now.job c.args.state.now.plan c.view.ensures.sound c.view.ensures.legal)

pub read_value-requires-clause-short : goal.read_value-requires-clause-short
read_value-requires-clause-short g c =
    subst (λ (s : SumsView). s.length < 2 ^ 63) (sym c.view.ensures.value)
    (legal_short c.args.state.now.job c.args.state.now.plan c.view.ensures.sound)
