use Rattle.std.proofs.Common.{rules, sym, ap, subst, ◌∙◌, ◌<◌, ℕ}
use Rattle.tally_desk.specs.DeskModel.{DeskModel}
use Rattle.tally_desk.specs.Homes.{HomeAs}
use Rattle.tally_desk.specs.Passes.{Belongs}
use Rattle.tally_desk.proofs.Steps.{join, see}
use Rattle.tally_desk.proofs.Counting.{counter_laws}
use Rattle.tally_desk.proofs.desk.Desk.join.Goals as goal

pub join_seat-requires : goal.join_seat-requires
join_seat-requires g c =
    let first = subst (λ (d : DeskModel). Belongs d c.args.first) (sym c.self.view_is) c.requires.first in
    let second = subst (λ (d : DeskModel). Belongs d c.args.second) (sym c.self.view_is) c.requires.second in
    let was = c.take_out-seat.ensures.view in
    let was' = c.take_out-other.ensures.view in (
      c.take_out-seat.ensures.table ∙ first.of_table,
      c.take_out-other.ensures.table ∙ second.of_table,
      ap (λ m. m.1) was',
      search rules,
      join (HomeAs g.C.Keeper.state g.C.Keeper.lets) _ counter_laws _ _ _ _ (ap (λ m. m.0.parts) was ∙ first.of_parts) (subst (λ (n : ℕ). 0 < n) (sym (ap (λ m. m.0.own.weight) was)) c.args.first.live)
          (subst (λ (n : ℕ). 0 < n) (sym (ap (λ m. m.0.own.weight) was')) c.args.second.live) (ap (λ m. m.0.turn) was ∙ c.args.first.idle) (ap (λ m. m.0.turn) was' ∙ c.args.second.idle),
    )

pub load-requires : goal.load-requires
load-requires g c =
    let first = subst (λ (d : DeskModel). Belongs d c.args.first) (sym c.self.view_is) c.requires.first in
    let was = c.take_out-seat.ensures.view in
    (c.join_seat.ensures.0 ∙ c.take_out-seat.ensures.table ∙ first.of_table, search rules, see (HomeAs g.C.Keeper.state g.C.Keeper.lets) _ _ _ _ (ap (λ m. m.0.parts) c.join_seat.ensures.2 ∙ ap (λ m. m.0.parts) was ∙ first.of_parts))
