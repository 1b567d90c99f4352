use Rattle.std.proofs.Common.{rules, ◌∙◌, ap, sym, subst}
use Rattle.atomic_table.specs.Table.{Me}
use Rattle.tally_desk.specs.declared.state.RunState.{RunState}
use Rattle.tally_desk.specs.DeskModel.{DeskModel}
use Rattle.tally_desk.specs.Desks.{BeginsTurn, IsWaiting}
use Rattle.tally_desk.specs.DeskStart.{parts_of}
use Rattle.tally_desk.specs.Homes.{HomeAs}
use Rattle.tally_desk.specs.Views.{PassView}
use Rattle.tally_desk.proofs.Steps.{look}
use Rattle.tally_desk.proofs.desk.Desk.await_turn.Goals as goal

pub load-requires : goal.load-requires
load-requires g c =
    let here = subst (λ (d : DeskModel). IsWaiting d.parts c.args.ticket c.args.id c.args.seat.now.me.0) (sym c.self.view_is) c.requires.waits in
    let waits = subst (λ (m : Me (RunState g.row.C.Denot) PassView). IsWaiting (parts_of g.C.Keeper.state c.self.inside.table.shared.key) c.args.ticket c.args.id m.0) (sym c.loop.invariant.1) here in
    (c.loop.invariant.0 ∙ c.requires.table ∙ sym (ap (λ (d : DeskModel). d.table) c.self.view_is), search rules, look (HomeAs g.C.Keeper.state g.C.Keeper.lets) _ _ _ _ _ _ waits)

pub returns-then-load-ticket-clause-begins : goal.returns-then-load-ticket-clause-begins
returns-then-load-ticket-clause-begins g c =
    let parts = c.args.self.now.parts in
    let waits = subst (λ (m : Me (RunState g.row.C.Denot) PassView). IsWaiting parts c.args.ticket c.args.id m.0) (sym c.loop.invariant.1) c.requires.waits in
    subst (λ (m : Me (RunState g.row.C.Denot) PassView). BeginsTurn (HomeAs g.C.Keeper.state g.C.Keeper.lets) parts c.args.ticket c.args.id m c.load.new.seat.me) c.loop.invariant.1
    (c.load.ensures.2.begins _ _ _ waits.fixed waits.turn c.if-load-ticket.true)
