use Rattle.std.proofs.Common.{rules, sym, ap, subst, ◌∙◌, ◌<◌, ℕ}
use Rattle.tally_desk.specs.DeskModel.{DeskModel}
use Rattle.tally_desk.specs.Homes.{HomeAs}
use Rattle.tally_desk.specs.Passes.{Belongs}
use Rattle.tally_desk.proofs.Steps.{split}
use Rattle.tally_desk.proofs.Counting.{counter_laws}
use Rattle.tally_desk.proofs.desk.Desk.split.Goals as goal

pub split_seat-other-requires : goal.split_seat-other-requires
split_seat-other-requires g c =
    let own = subst (λ (d : DeskModel). Belongs d c.args.pass.now) (sym c.self.view_is) c.requires.pass in
    let was = c.take_out-seat.ensures.view in (
      c.take_out-seat.ensures.table ∙ own.of_table,
      search rules,
      split (HomeAs g.C.Keeper.state g.C.Keeper.lets) _ counter_laws _ _ (ap (λ m. m.0.parts) was ∙ own.of_parts) (subst (λ (n : ℕ). 0 < n) (sym (ap (λ m. m.0.own.weight) was)) c.args.pass.now.live)
          (subst (λ (n : ℕ). 0 < n) (sym (ap (λ m. m.0.own.spare) was)) c.requires.spare),
    )
