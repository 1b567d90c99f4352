use Rattle.std.proofs.Common.{sym, ap, subst, ◌∙◌, ◌≡◌, ◌∷◌, [], ◌++◌, List}
use Rattle.atomic_table.specs.Table.{opening}
use Rattle.tally_desk.specs.declared.state.RunState.{RunState}
use Rattle.tally_desk.specs.Desks.{Tallied, first_view}
use Rattle.tally_desk.specs.DeskStart.{parts_of}
use Rattle.tally_desk.specs.Homes.{HomeAs}
use Rattle.tally_desk.proofs.Steps.{opens}
use Rattle.tally_desk.proofs.Counting.{counter_laws}
use Rattle.tally_desk.proofs.handing.make_table.Goals as goal

pub new-requires : goal.new-requires
new-requires g c =
    let parts = parts_of g.C.Keeper.state c.args.desk_arguments.now in
    let all : c.push_reserved.new.self.items ≡ c.args.state ∷ [] =
    c.push_reserved.ensures.items ∙ ap (λ (l : List (RunState g.row.C.Denot)). l ++ c.args.state ∷ []) c.in-Ok.ensures.items in
    subst (λ (l : List (RunState g.row.C.Denot)). Tallied (HomeAs g.C.Keeper.state g.C.Keeper.lets) parts (opening (0 ∷ 0 ∷ 0 ∷ []) l (first_view parts))) (sym all)
    (opens (HomeAs g.C.Keeper.state g.C.Keeper.lets) parts counter_laws c.args.state c.requires.plan c.requires.state)
