use Rattle.std.proofs.Common.{rules, ◌∙◌, ap, refl, subst, sym}
use Rattle.tally_desk.specs.DeskModel.{DeskModel}
use Rattle.tally_desk.specs.Desks.{CanPost}
use Rattle.tally_desk.specs.DeskStart.{parts_of}
use Rattle.tally_desk.specs.Homes.{HomeAs}
use Rattle.tally_desk.proofs.Steps.{try_ticket}
use Rattle.tally_desk.proofs.desk.Desk.try_ticket.Goals as goal

pub compare_exchange-found-requires : goal.compare_exchange-found-requires
compare_exchange-found-requires g c =
    let post = subst (λ (d : DeskModel). CanPost d.parts c.args.seat.now.me.0 c.args.id) (sym c.self.view_is) c.requires.post in (
      c.requires.table ∙ sym (ap (λ (d : DeskModel). d.table) c.self.view_is),
      search rules,
      try_ticket (HomeAs g.C.Keeper.state g.C.Keeper.lets) _ _ _ _ g.B.Posting.id _ _ refl (subst (CanPost (parts_of g.C.Keeper.state c.self.inside.table.shared.key) c.args.seat.now.me.0) (sym c.requires.name) post),
    )
