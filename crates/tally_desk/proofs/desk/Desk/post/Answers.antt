use Rattle.std.proofs.Common.{sym, ap, subst, ◌∙◌, ◌<◌, ℕ}
use Rattle.tally_desk.specs.Homes.{HomeAs}
use Rattle.tally_desk.proofs.Steps.{begun_turn}
use Rattle.tally_desk.proofs.desk.Desk.post.Goals as goal

pub serve-requires-clause-turn : goal.serve-requires-clause-turn
serve-requires-clause-turn g c =
    let was = c.take_out-seat.ensures.view in
    begun_turn (HomeAs g.C.Keeper.state g.C.Keeper.lets) _ _ _ _ _ c.take_out-seat.result.me.0 c.take_ticket-ticket.ensures.seat (ap (λ m. m.0.parts) was ∙ c.requires.pass.of_parts)
    (subst (λ (n : ℕ). 0 < n) (sym (ap (λ m. m.0.own.weight) was)) c.args.pass.now.live) c.await_turn.ensures.begins
