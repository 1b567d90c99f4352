use Rattle.std.proofs.Common.{rules, arith, sym, subst, ap, ◌∙◌, ◌≡◌, ℕ, List, [], ◌∷◌, ◌++◌, length, true}
use Rattle.atomic_table.specs.Table.{rest}
use Rattle.std.specs.List.{range_with_len}
use Rattle.tally_desk.specs.declared.state.RunState.{RunState}
use Rattle.claim_counter.specs.Walks.{found}
use Rattle.tally_desk.specs.DeskModel.{DeskModel}
use Rattle.tally_desk.specs.Desks.{IsInTurn}
use Rattle.tally_desk.specs.Entries.{post_of, is_due}
use Rattle.tally_desk.specs.DeskStart.{parts_of}
use Rattle.tally_desk.specs.Homes.{HomeAs, MayTurn}
use Rattle.tally_desk.proofs.Steps.{carried_now, posted_at_home, posted_len, serve}
use Rattle.tally_desk.proofs.Todo.{todo_small}
use Rattle.tally_desk.proofs.Tallying.{posts_few}
use Rattle.tally_desk.proofs.desk.Desk.serve.Goals as goal

pub slot_mut-state-requires : goal.slot_mut-state-requires
slot_mut-state-requires g c = let turn = c.requires.turn in (c.requires.table ∙ sym (ap (λ (d : DeskModel). d.table) c.self.view_is), (turn.home, turn.slots ∙ ap (λ (l : List (ℕ × RunState g.row.C.Denot)). (0, turn.home) ∷ rest l) (sym turn.slots)))

pub turn-requires : goal.turn-requires
turn-requires g c =
    let parts = parts_of g.C.Keeper.state c.self.inside.table.shared.key in
    let turn = subst (λ (d : DeskModel). IsInTurn (HomeAs g.C.Keeper.state g.C.Keeper.lets) d.parts c.args.ticket c.args.outcome.id c.args.seat.now.me) (sym c.self.view_is) c.requires.turn in
    let len = posted_len (HomeAs g.C.Keeper.state g.C.Keeper.lets) parts _ _ _ turn in
    let may : MayTurn g.C.Keeper.state g.C.Keeper.lets parts c.slot_mut-state.result.now turn.posted c.args.outcome = record {
      plan = turn.awaits.plan;
      holds = posted_at_home (HomeAs g.C.Keeper.state g.C.Keeper.lets) parts _ _ _ _ turn c.slot_mut-state.ensures.value;
      in_order = turn.awaits.in_order ∙ ap (range_with_len 0) (sym len);
      of_todo = turn.awaits.of_todo;
      due = turn.awaits.due;
      right = subst (λ (d : DeskModel). c.args.outcome ≡ found d.parts.job c.args.outcome.id) (sym c.self.view_is) c.requires.right;
      to_do = turn.awaits.to_do;
      unposted = turn.awaits.unposted;
    } in (parts, (turn.posted, may))

pub overflow_add-ticket : goal.overflow_add-ticket
overflow_add-ticket g c =
    let parts = parts_of g.C.Keeper.state c.self.inside.table.shared.key in
    let turn = subst (λ (d : DeskModel). IsInTurn (HomeAs g.C.Keeper.state g.C.Keeper.lets) d.parts c.args.ticket c.args.outcome.id c.args.seat.now.me) (sym c.self.view_is) c.requires.turn in
    let len = posted_len (HomeAs g.C.Keeper.state g.C.Keeper.lets) parts _ _ _ turn in
    let left = todo_small parts turn.awaits.plan in
    omega (arith, len, left, posts_few parts _ _ turn.posted turn.awaits)

pub store-requires : goal.store-requires
store-requires g c =
    let parts = parts_of g.C.Keeper.state c.self.inside.table.shared.key in
    let turn = subst (λ (d : DeskModel). IsInTurn (HomeAs g.C.Keeper.state g.C.Keeper.lets) d.parts c.args.ticket c.args.outcome.id c.args.seat.now.me) (sym c.self.view_is) c.requires.turn in
    let len = posted_len (HomeAs g.C.Keeper.state g.C.Keeper.lets) parts _ _ _ turn in
    let may : MayTurn g.C.Keeper.state g.C.Keeper.lets parts c.slot_mut-state.result.now turn.posted c.args.outcome = record {
      plan = turn.awaits.plan;
      holds = posted_at_home (HomeAs g.C.Keeper.state g.C.Keeper.lets) parts _ _ _ _ turn c.slot_mut-state.ensures.value;
      in_order = turn.awaits.in_order ∙ ap (range_with_len 0) (sym len);
      of_todo = turn.awaits.of_todo;
      due = turn.awaits.due;
      right = subst (λ (d : DeskModel). c.args.outcome ≡ found d.parts.job c.args.outcome.id) (sym c.self.view_is) c.requires.right;
      to_do = turn.awaits.to_do;
      unposted = turn.awaits.unposted;
    } in
    let turned = subst (λ (t : ℕ). HomeAs g.C.Keeper.state g.C.Keeper.lets parts c.turn.new.self (turn.posted ++ post_of t c.args.outcome.id c.turn.result ∷ []) × (c.turn.result ≡ true → is_due parts.save_every (post_of t c.args.outcome.id c.turn.result) ≡ true))
    len ((c.turn.ensures.turned parts turn.posted may).holds, (c.turn.ensures.turned parts turn.posted may).due) in (
      search rules,
      search rules,
      serve (HomeAs g.C.Keeper.state g.C.Keeper.lets) parts _ _ _ _ c.args.outcome.id turn.posted c.turn.new.self c.turn.result turn.fixed turn.weighs turn.turn (carried_now (HomeAs g.C.Keeper.state g.C.Keeper.lets) parts _ _ _ c.turn.new.self turn)
          turned.0 turned.0.entries turned.1,
    )

pub returns-clause-served : goal.returns-clause-served
returns-clause-served g c =
    let parts = parts_of g.C.Keeper.state c.self.inside.table.shared.key in
    let turn = subst (λ (d : DeskModel). IsInTurn (HomeAs g.C.Keeper.state g.C.Keeper.lets) d.parts c.args.ticket c.args.outcome.id c.args.seat.now.me) (sym c.self.view_is) c.requires.turn in
    let len = posted_len (HomeAs g.C.Keeper.state g.C.Keeper.lets) parts _ _ _ turn in
    let at_home = posted_at_home (HomeAs g.C.Keeper.state g.C.Keeper.lets) parts _ _ _ _ turn c.slot_mut-state.ensures.value in
    let home_len : length c.slot_mut-state.result.now.posted.items ≡ c.args.ticket = ap length at_home.entries ∙ len in
    let entries : c.turn.new.self.posted.items ≡ c.slot_mut-state.result.now.posted.items ++ post_of c.args.ticket c.args.outcome.id c.turn.result ∷ [] =
    c.turn.ensures.entry ∙ ap (λ (t : ℕ). c.slot_mut-state.result.now.posted.items ++ post_of t c.args.outcome.id c.turn.result ∷ []) home_len in
    let served = c.store.ensures.2 in
    record {
      saved = c.turn.result;
      view = served.view _ _ _ _ (carried_now (HomeAs g.C.Keeper.state g.C.Keeper.lets) parts _ _ _ c.turn.new.self turn) entries;
      slots = served.slots _ (carried_now (HomeAs g.C.Keeper.state g.C.Keeper.lets) parts _ _ _ c.turn.new.self turn);
    }
