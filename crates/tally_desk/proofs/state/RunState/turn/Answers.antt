use Rattle.std.proofs.Common.{◌≡◌, ◌∙◌, ◌+◌, ◌%◌, ◌<◌, ◌==◌, ◌∷◌, [], ◌++◌, ap, arith, sym, subst, length, true, vec_len, vec_capacity, ℕ}
use Rattle.ckpt_store.proofs.Ours.{checkpoints_are_ours}
use Rattle.ckpt_store.proofs.Turns.{saved_slots_are_newest}
use Rattle.outcome_book.proofs.AddingUp.{found_has_few}
use Rattle.tally_desk.specs.Entries.{is_due, post_of}
use Rattle.tally_desk.specs.Saving.{SavedWhereDue}
use Rattle.tally_desk.proofs.Turning.{done, few_failed, few_visits, generation_below, id_absent, id_below, lets_next, slot_below, some_left, total_is, turned}
use Rattle.tally_desk.proofs.state.RunState.turn.Goals as goal

pub post-requires-clause-below : goal.post-requires-clause-below
post-requires-clause-below g c =
    id_below g.C.Keeper.state g.C.Keeper.lets c.requires.0 c.args.self.now c.requires.1.0 c.args.outcome c.requires.1.1

pub post-requires-clause-absent : goal.post-requires-clause-absent
post-requires-clause-absent g c =
    id_absent g.C.Keeper.state g.C.Keeper.lets c.requires.0 c.args.self.now c.requires.1.0 c.args.outcome c.requires.1.1

pub post-requires-clause-bins : goal.post-requires-clause-bins
post-requires-clause-bins g c =
    few_visits g.C.Keeper.state g.C.Keeper.lets c.requires.0 c.args.self.now c.requires.1.0 c.args.outcome c.requires.1.1
    found_has_few

pub save_where_due-saved-requires-clause-every : goal.save_where_due-saved-requires-clause-every
save_where_due-saved-requires-clause-every g c = let may = c.requires.1.1 in omega (arith, may.holds.equipped.every, may.plan.every)

pub save_where_due-saved-requires-clause-place : goal.save_where_due-saved-requires-clause-place
save_where_due-saved-requires-clause-place g c = record {
  slot = slot_below g.C.Keeper.state g.C.Keeper.lets c.requires.0 c.args.self.now c.requires.1.0 c.args.outcome c.requires.1.1;
  generation = generation_below g.C.Keeper.state g.C.Keeper.lets c.requires.0 c.args.self.now c.requires.1.0 c.args.outcome c.requires.1.1;
}

pub save_where_due-saved-requires-clause-count : goal.save_where_due-saved-requires-clause-count
save_where_due-saved-requires-clause-count g c =
    few_failed g.C.Keeper.state g.C.Keeper.lets c.requires.0 c.args.self.now c.requires.1.0 c.args.outcome c.requires.1.1

pub save_where_due-saved-requires-clause-lets : goal.save_where_due-saved-requires-clause-lets
save_where_due-saved-requires-clause-lets g c = λ due.
    let may = c.requires.1.1 in
    let posted = c.requires.1.0 in
    let y = c.args.self.now in
    let ticket : c.len-ticket.result ≡ length posted = let len = y.posted.ok.0 in omega (arith, c.len-ticket.ensures, len, ap length may.holds.entries) in
    let is_due_now : is_due c.requires.0.save_every (post_of (length posted) c.args.outcome.id true) ≡ true =
    subst (λ (x : ℕ × ℕ). ((x.0 + 1) % x.1 == 0) ≡ true) (λ i. (ticket i, may.holds.equipped.every i)) due in
    lets_next g.C.Keeper.state g.C.Keeper.lets c.requires.0 y posted c.args.outcome may c.post.new.self c.post.ensures.total c.post.ensures.outcomes is_due_now

pub save_where_due-saved-requires-clause-room : goal.save_where_due-saved-requires-clause-room
save_where_due-saved-requires-clause-room g c =
    let may = c.requires.1.1 in
    let total = total_is g.C.Keeper.state g.C.Keeper.lets c.requires.0 c.args.self.now c.requires.1.0 c.args.outcome may in
    record {
      sorted_room = omega (arith, total, may.holds.equipped.sorted_room, c.post.ensures.total);
      save_room = omega (arith, total, may.holds.equipped.save_room, c.post.ensures.total);
    }

pub push_reserved-requires : goal.push_reserved-requires
push_reserved-requires g c =
    let may = c.requires.1.1 in
    let posted = c.requires.1.0 in
    let y = c.args.self.now in
    let len = y.posted.ok.0 in
    let ticket : c.len-ticket.result ≡ length posted = omega (arith, c.len-ticket.ensures, len, ap length may.holds.entries) in
    let left = some_left g.C.Keeper.state g.C.Keeper.lets c.requires.0 y posted c.args.outcome may in
    let room : vec_len y.posted < vec_capacity y.posted = omega (arith, len, ap length may.holds.entries, left, may.holds.equipped.entry_room) in
    let effect = subst (λ (k : ℕ). SavedWhereDue g.C.Keeper.state (k + 1) (record y { book = c.post.new.self }) c.save_where_due-saved.new.self c.save_where_due-saved.result)
    ticket c.save_where_due-saved.ensures in
    let d = done g.C.Keeper.state g.C.Keeper.lets c.requires.0 y posted c.args.outcome may c.post.new.self c.post.ensures.total c.post.ensures.outcomes
    saved_slots_are_newest checkpoints_are_ours c.save_where_due-saved.new.self c.save_where_due-saved.result effect in
    subst (λ v. vec_len v < vec_capacity v) (sym d.posted) room

pub returns-clause-turned : goal.returns-clause-turned
returns-clause-turned g c = λ parts posted may.
    let y = c.args.self.now in
    let len = y.posted.ok.0 in
    let saved = c.save_where_due-saved.result in
    let ticket : c.len-ticket.result ≡ length posted = omega (arith, c.len-ticket.ensures, len, ap length may.holds.entries) in
    let effect = subst (λ (k : ℕ). SavedWhereDue g.C.Keeper.state (k + 1) (record y { book = c.post.new.self }) c.save_where_due-saved.new.self saved)
    ticket c.save_where_due-saved.ensures in
    let d = done g.C.Keeper.state g.C.Keeper.lets parts y posted c.args.outcome may c.post.new.self c.post.ensures.total c.post.ensures.outcomes
    saved_slots_are_newest checkpoints_are_ours c.save_where_due-saved.new.self saved effect in
    let same = c.look_ahead.ensures in
    turned g.C.Keeper.state g.C.Keeper.lets parts y posted c.args.outcome may c.save_where_due-saved.new.self _ saved d
    (ap (λ h. h.posted.items) same ∙ c.push_reserved.ensures.items
    ∙ ap (λ (k : ℕ). c.save_where_due-saved.new.self.posted.items ++ post_of k c.args.outcome.id saved ∷ []) ticket)
    (ap (λ h. vec_capacity h.posted) same ∙ c.push_reserved.ensures.capacity) (ap (λ h. h.book) same) (ap (λ h. h.keeper) same) (ap (λ h. h.place) same)
    (ap (λ h. h.failed_saves) same) (ap (λ h. h.save_every) same) (ap (λ h. h.digest) same) (ap (λ h. h.sorted) same) (ap (λ h. h.room) same)
