use Rattle.std.proofs.Common.{arith, sym, ap, subst, ◌∙◌, ◌≡◌, ◌<◌, length, get_or}
use Rattle.std.specs.List.{range_with_len}
use Rattle.std.specs.Slots.{slots_items}
use Rattle.std.proofs.lemmas.List.{length-map}
use Rattle.std.proofs.lemmas.List.Sorted.{length_permutation}
use Rattle.atomic_table.specs.Table.{Final, Seen}
use Rattle.audit_model.specs.declared.place.Place.{Place}
use mathlib.Core.Option.{some-injective}
use Rattle.tally_desk.specs.declared.state.RunState.{RunState}
use Rattle.claim_counter.specs.Views.{HasAllSeats}
use Rattle.tally_desk.specs.DeskModel.{DeskModel}
use Rattle.tally_desk.specs.Desks.{IsRunComplete, Tallied}
use Rattle.tally_desk.specs.DeskStart.{parts_of}
use Rattle.tally_desk.specs.Homes.{HomeAs}
use Rattle.tally_desk.specs.Passes.{HasPostedAll, IsClosed, view_of}
use Rattle.tally_desk.specs.Entries.{posted_id, saves_made}
use Rattle.tally_desk.specs.Views.{PassView, view_in}
use Rattle.tally_desk.proofs.Permuting.{permutation_from_sums}
use Rattle.tally_desk.proofs.Slotting.{moved_generation, moved_slot}
use Rattle.tally_desk.proofs.Steps.{complete, completes}
use Rattle.tally_desk.proofs.Counting.{counter_laws}
use Rattle.tally_desk.proofs.desk.Desk.close.Goals as goal

pub take-state-requires : goal.take-state-requires
take-state-requires g c =
    let slots = c.close_with-closed.ensures.counts.1 in
    let one = c.self.inside.one_slot in
    let full = c.close_with-closed.ensures.values.1 0 (omega arith) (omega arith) in
    (omega arith, full)

pub returns : goal.returns
returns g c =
    let parts = parts_of g.C.Keeper.state c.self.inside.table.shared.key in
    let only = subst (λ (d : DeskModel). HasAllSeats d.parts.seats (view_of c.args.pass).own) (sym c.self.view_is) c.requires.only in
    let whole = subst (λ (d : DeskModel). HasPostedAll d.parts (view_of c.args.pass)) (sym c.self.view_is) c.requires.posted in
    let v = view_in c.args.pass.badge.views in
    let final = subst (λ (u : PassView). Final (Seen (Tallied (HomeAs g.C.Keeper.state g.C.Keeper.lets) parts) c.take_out-seat.result.id u) (slots_items c.close_with-closed.result.words) (slots_items c.close_with-closed.result.slots))
    (ap (λ m. m.0) c.take_out-seat.ensures.view) c.close_with-closed.ensures.values.2 in
    let s = completes (HomeAs g.C.Keeper.state g.C.Keeper.lets) parts counter_laws c.take_out-seat.result.id v _ _ final c.args.pass.live only c.args.pass.idle in
    let same : s.0 ≡ c.take-state.result = some-injective _ _ (sym s.1 ∙ c.take-state.ensures.value) in
    let drawn = get_or (slots_items c.close_with-closed.result.words) 0 0 in
    let k = subst (λ (h : RunState g.row.C.Denot). IsRunComplete (HomeAs g.C.Keeper.state g.C.Keeper.lets) parts drawn h v) same s.2 in
    let all = complete (HomeAs g.C.Keeper.state g.C.Keeper.lets) parts drawn c.take-state.result v k c.requires.ended whole in
    let count : length k.posted ≡ length parts.todo = sym (length_permutation _ _ all ∙ length-map k.posted posted_id) in
    let place = k.holds.kept.place_is in
    subst (λ (d : DeskModel). IsClosed g.C.Keeper.state d.parts (view_of c.args.pass) c.take-state.result) c.self.view_is (record {
      plan = k.plan;
      slot = subst (λ (p : Place). p.slot < 2) (sym place) (moved_slot (saves_made k.posted) parts.place k.plan.slot);
      generation = subst (λ (p : Place). p.generation < 3) (sym place) (moved_generation (saves_made k.posted) parts.place k.plan.generation);
      posted = k.posted;
      own_posts = permutation_from_sums v.entries k.posted k.own_posts;
      in_order = k.in_order ∙ ap (range_with_len 0) count;
      all = all;
      due = k.due;
      kept = k.holds.kept;
      entries = k.holds.entries;
      equipped = k.holds.equipped;
      history = (drawn, k.history);
    })
