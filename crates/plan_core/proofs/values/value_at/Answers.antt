use Rattle.std.proofs.Common.{◌^◌, ◌<◌, length, sym, ap, subst, arith}
use Rattle.audit_model.specs.declared.outcome.SumsView.{SumsView}
use Rattle.scores.specs.Votes.{AreVotes}
use Rattle.plan_core.proofs.Voted.{start_short, start_votes}
use Rattle.plan_core.proofs.values.value_at.Goals as goal

pub value-requires-clause-votes : goal.value-requires-clause-votes
value-requires-clause-votes c =
    subst (λ (s : SumsView). AreVotes s.first s.second) (sym c.requires.sums) (start_votes c.args.input.now c.requires.sound)

pub value-requires-clause-room : goal.value-requires-clause-room
value-requires-clause-room c =
    let votes = start_votes c.args.input.now c.requires.sound in
    let same = ap (λ (s : SumsView). length s.first) c.requires.sums in
    omega (arith, same, votes.few, c.told-room)

pub value-requires-clause-short : goal.value-requires-clause-short
value-requires-clause-short c =
    subst (λ (s : SumsView). s.length < 2 ^ 63) (sym c.requires.sums) (start_short c.args.input.now c.requires.sound)
