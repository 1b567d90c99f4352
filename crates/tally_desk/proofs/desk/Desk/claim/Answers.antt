use Rattle.std.proofs.Common.{rules, arith, sym, ap, subst, ◌∙◌, ◌≡◌, ◌<◌, ◌≤◌, List, ℕ, length, get_or}
use Rattle.claim_counter.specs.Records.{with_claim}
use Rattle.tally_desk.specs.DeskModel.{DeskModel}
use Rattle.tally_desk.specs.Desks.{claimed_ids, ended_view, with_own}
use Rattle.tally_desk.specs.DeskStart.{parts_of}
use Rattle.tally_desk.specs.Homes.{HomeAs}
use Rattle.tally_desk.specs.Passes.{Belongs, Claims}
use Rattle.tally_desk.specs.Views.{PassView, view_in}
use Rattle.tally_desk.proofs.Seating.{drew_end, drew_few, drew_new, drew_place, only_view, still_empty}
use Rattle.tally_desk.proofs.Steps.{claim}
use Rattle.tally_desk.proofs.Counting.{counter_laws}
use Rattle.tally_desk.proofs.desk.Desk.claim.Goals as goal
use Rattle.audit_model.specs.Times.{times}

pub fetch_add-drawn-requires : goal.fetch_add-drawn-requires
fetch_add-drawn-requires g c =
    let own = subst (λ (d : DeskModel). Belongs d c.args.pass.now) (sym c.self.view_is) c.requires.pass in
    let was = c.take_out-seat.ensures.view in
    let v = view_in c.args.pass.now.badge.views in
    let live : 0 < c.take_out-seat.result.me.0.own.weight = subst (λ (n : ℕ). 0 < n) (sym (ap (λ m. m.0.own.weight) was)) c.args.pass.now.live in (
      c.take_out-seat.ensures.table ∙ own.of_table,
      search rules,
      claim (HomeAs g.C.Keeper.state g.C.Keeper.lets) _ counter_laws _ _ _ (ap (λ m. m.0.parts) was ∙ own.of_parts) live (ap (λ m. m.0.own.ended) was ∙ c.requires.before_end),
    )

pub into_badge-requires : goal.into_badge-requires
into_badge-requires g c =
    let own = subst (λ (d : DeskModel). Belongs d c.args.pass.now) (sym c.self.view_is) c.requires.pass in
    still_empty (parts_of g.C.Keeper.state c.self.inside.table.shared.key) (view_in c.args.pass.now.badge.views) _ _ _ _ c.take_out-seat.ensures.view own.of_parts c.fetch_add-drawn.ensures.2

pub invariant_of-pass : goal.invariant_of-pass
invariant_of-pass g c =
    let own = subst (λ (d : DeskModel). Belongs d c.args.pass.now) (sym c.self.view_is) c.requires.pass in
    let parts = parts_of g.C.Keeper.state c.self.inside.table.shared.key in
    let v = view_in c.args.pass.now.badge.views in
    let below : c.fetch_add-drawn.result < length parts.todo = omega (arith, c.if-drawn-len.true, c.len.ensures, ap length c.self.inside.todo_is) in
    let views = c.into_badge.ensures.2 in
    let is : view_in c.into_badge.result.views ≡ with_own v (with_claim c.fetch_add-drawn.result v.own) =
    ap view_in views ∙ drew_place parts v _ _ _ _ c.take_out-seat.ensures.view own.of_parts c.fetch_add-drawn.ensures.2 below in
    record {
      one_view = only_view _ _ views;
      idle = ap (λ (u : PassView). u.turn) is ∙ c.args.pass.now.idle;
      spare_is = ap (λ (u : PassView). u.own.spare) is ∙ c.args.pass.now.spare_is;
      ended_is = ap (λ (u : PassView). u.own.ended) is ∙ c.args.pass.now.ended_is;
      live = subst (λ (n : ℕ). 0 < n) (sym (ap (λ (u : PassView). u.own.weight) is)) c.args.pass.now.live;
    }

pub invariant_of-pass-else-drawn-len : goal.invariant_of-pass-else-drawn-len
invariant_of-pass-else-drawn-len g c =
    let own = subst (λ (d : DeskModel). Belongs d c.args.pass.now) (sym c.self.view_is) c.requires.pass in
    let parts = parts_of g.C.Keeper.state c.self.inside.table.shared.key in
    let v = view_in c.args.pass.now.badge.views in
    let past : length parts.todo ≤ c.fetch_add-drawn.result = omega (arith, c.if-drawn-len.false, c.len.ensures, ap length c.self.inside.todo_is) in
    let views = c.into_badge.ensures.2 in
    let is : view_in c.into_badge.result.views ≡ ended_view v =
    ap view_in views ∙ drew_end parts v _ _ _ _ c.take_out-seat.ensures.view own.of_parts c.fetch_add-drawn.ensures.2 past in
    record {
      one_view = only_view _ _ views;
      idle = ap (λ (u : PassView). u.turn) is ∙ c.args.pass.now.idle;
      spare_is = ap (λ (u : PassView). u.own.spare) is ∙ c.args.pass.now.spare_is;
      ended_is = ap (λ (u : PassView). u.own.ended) is;
      live = subst (λ (n : ℕ). 0 < n) (sym (ap (λ (u : PassView). u.own.weight) is)) c.args.pass.now.live;
    }

pub returns-then-drawn-len-clause-pass : goal.returns-then-drawn-len-clause-pass
returns-then-drawn-len-clause-pass g c =
    let own = subst (λ (d : DeskModel). Belongs d c.args.pass.now) (sym c.self.view_is) c.requires.pass in
    let parts = parts_of g.C.Keeper.state c.self.inside.table.shared.key in
    let v = view_in c.args.pass.now.badge.views in
    let below : c.fetch_add-drawn.result < length parts.todo = omega (arith, c.if-drawn-len.true, c.len.ensures, ap length c.self.inside.todo_is) in
    let is : view_in c.into_badge.result.views ≡ with_own v (with_claim c.fetch_add-drawn.result v.own) =
    ap view_in c.into_badge.ensures.2 ∙ drew_place parts v _ _ _ _ c.take_out-seat.ensures.view own.of_parts c.fetch_add-drawn.ensures.2 below in
    record {
      of_table = c.into_badge.ensures.0 ∙ c.fetch_add-drawn.ensures.0 ∙ c.take_out-seat.ensures.table ∙ c.requires.pass.of_table;
      of_parts = ap (λ (u : PassView). u.parts) is ∙ c.requires.pass.of_parts;
    }

pub returns-then-drawn-len-clause-claimed : goal.returns-then-drawn-len-clause-claimed
returns-then-drawn-len-clause-claimed g c =
    let own = subst (λ (d : DeskModel). Belongs d c.args.pass.now) (sym c.self.view_is) c.requires.pass in
    let parts = parts_of g.C.Keeper.state c.self.inside.table.shared.key in
    let v = view_in c.args.pass.now.badge.views in
    let below : c.fetch_add-drawn.result < length parts.todo = omega (arith, c.if-drawn-len.true, c.len.ensures, ap length c.self.inside.todo_is) in
    let id_is = ap (λ (l : List ℕ). get_or l c.fetch_add-drawn.result 0) (c.as_slice.ensures ∙ c.self.inside.todo_is) in
    subst (λ (d : DeskModel). Claims d.parts (get_or c.as_slice.result.now c.fetch_add-drawn.result 0) v (view_in c.into_badge.result.views)) c.self.view_is (record {
      place = c.fetch_add-drawn.result;
      below = below;
      id_is = id_is;
      unclaimed = subst (λ (id : ℕ). times id (claimed_ids parts v) ≡ 0) (sym id_is)
          (drew_new parts v _ _ _ _ c.take_out-seat.ensures.view own.of_parts c.fetch_add-drawn.ensures.2 below);
      view = ap view_in c.into_badge.ensures.2 ∙ drew_place parts v _ _ _ _ c.take_out-seat.ensures.view own.of_parts c.fetch_add-drawn.ensures.2 below;
    })

pub returns-else-drawn-len-clause-pass : goal.returns-else-drawn-len-clause-pass
returns-else-drawn-len-clause-pass g c =
    let own = subst (λ (d : DeskModel). Belongs d c.args.pass.now) (sym c.self.view_is) c.requires.pass in
    let parts = parts_of g.C.Keeper.state c.self.inside.table.shared.key in
    let v = view_in c.args.pass.now.badge.views in
    let past : length parts.todo ≤ c.fetch_add-drawn.result = omega (arith, c.if-drawn-len.false, c.len.ensures, ap length c.self.inside.todo_is) in
    let is : view_in c.into_badge.result.views ≡ ended_view v =
    ap view_in c.into_badge.ensures.2 ∙ drew_end parts v _ _ _ _ c.take_out-seat.ensures.view own.of_parts c.fetch_add-drawn.ensures.2 past in
    record {
      of_table = c.into_badge.ensures.0 ∙ c.fetch_add-drawn.ensures.0 ∙ c.take_out-seat.ensures.table ∙ c.requires.pass.of_table;
      of_parts = ap (λ (u : PassView). u.parts) is ∙ c.requires.pass.of_parts;
    }

pub returns-else-drawn-len-clause-end : goal.returns-else-drawn-len-clause-end
returns-else-drawn-len-clause-end g c =
    let own = subst (λ (d : DeskModel). Belongs d c.args.pass.now) (sym c.self.view_is) c.requires.pass in
    let parts = parts_of g.C.Keeper.state c.self.inside.table.shared.key in
    let v = view_in c.args.pass.now.badge.views in
    let past : length parts.todo ≤ c.fetch_add-drawn.result = omega (arith, c.if-drawn-len.false, c.len.ensures, ap length c.self.inside.todo_is) in
    ap view_in c.into_badge.ensures.2 ∙ drew_end parts v _ _ _ _ c.take_out-seat.ensures.view own.of_parts c.fetch_add-drawn.ensures.2 past

pub returns-then-drawn-len-clause-few : goal.returns-then-drawn-len-clause-few
returns-then-drawn-len-clause-few g c =
    let own = subst (λ (d : DeskModel). Belongs d c.args.pass.now) (sym c.self.view_is) c.requires.pass in
    let parts = parts_of g.C.Keeper.state c.self.inside.table.shared.key in
    subst (λ (d : DeskModel). length (view_in c.into_badge.result.views).own.claims ≤ length d.parts.todo) c.self.view_is
    (subst (λ (u : PassView). length u.own.claims ≤ length parts.todo) (sym (ap view_in c.into_badge.ensures.2))
    (drew_few parts (view_in c.args.pass.now.badge.views) _ _ _ _ c.take_out-seat.ensures.view own.of_parts c.fetch_add-drawn.ensures.2))

pub returns-else-drawn-len-clause-few : goal.returns-else-drawn-len-clause-few
returns-else-drawn-len-clause-few g c =
    let own = subst (λ (d : DeskModel). Belongs d c.args.pass.now) (sym c.self.view_is) c.requires.pass in
    let parts = parts_of g.C.Keeper.state c.self.inside.table.shared.key in
    subst (λ (d : DeskModel). length (view_in c.into_badge.result.views).own.claims ≤ length d.parts.todo) c.self.view_is
    (subst (λ (u : PassView). length u.own.claims ≤ length parts.todo) (sym (ap view_in c.into_badge.ensures.2))
    (drew_few parts (view_in c.args.pass.now.badge.views) _ _ _ _ c.take_out-seat.ensures.view own.of_parts c.fetch_add-drawn.ensures.2))
