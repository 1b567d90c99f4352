use Rattle.std.proofs.Common.{◌≡◌, ℕ, List, None, Some, length, set, sym, ap, subst, ◌∙◌, arith}
use Rattle.std.specs.Prelude.{slice_get}
use Rattle.audit_model.specs.Machine.{IsRun}
use Rattle.run_core.specs.Kept.{machine, IsKept}
use Rattle.run_core.proofs.Stepping.{done_room, kept_post}
use Rattle.run_core.proofs.machine.Core.post.Goals as goal

pub push_reserved-requires : goal.push_reserved-requires
push_reserved-requires c =
    let i = c.self.inside in
    let open_id : slice_get i.open_ids c.args.worker ≡ Some (Some c.in-Some-Some.id) = sym c.open_id.ensures ∙ c.in-Some-Some.is ∙ ap Some c.in-Some-Some.field-0-is in
    omega (arith, done_room _ _ _ _ _ _ _ _ c.self.invariant.0 c.args.worker c.in-Some-Some.id open_id, c.self.invariant.1.done, i.done.ok.0)

pub invariant_of-self : goal.invariant_of-self
invariant_of-self c =
    let i = c.self.inside in
    let open_id : slice_get i.open_ids c.args.worker ≡ Some (Some c.in-Some-Some.id) = sym c.open_id.ensures ∙ c.in-Some-Some.is ∙ ap Some c.in-Some-Some.field-0-is in (
      subst (λ (ds : List ℕ). IsKept (machine (length i.marks.items) i.started i.saved ds i.next (set i.open_ids c.args.worker None)) i.started i.saved i.ids.items i.marks.items)
          (sym c.push_reserved.ensures.items) (kept_post _ _ _ _ _ _ _ _ c.self.invariant.0 c.args.worker c.in-Some-Some.id open_id),
      record { done = omega (arith, c.self.invariant.1.done, c.push_reserved.ensures.capacity); ids = c.self.invariant.1.ids },
    )

pub returns-in-Some-Some-clause-sound : goal.returns-in-Some-Some-clause-sound
returns-in-Some-Some-clause-sound c =
    let i = c.self.inside in
    let open_id : slice_get i.open_ids c.args.worker ≡ Some (Some c.in-Some-Some.id) = sym c.open_id.ensures ∙ c.in-Some-Some.is ∙ ap Some c.in-Some-Some.field-0-is in
    subst (λ (ds : List ℕ). IsRun (machine (length i.marks.items) i.started i.saved ds i.next (set i.open_ids c.args.worker None)))
    (sym c.push_reserved.ensures.items) (kept_post _ _ _ _ _ _ _ _ c.self.invariant.0 c.args.worker c.in-Some-Some.id open_id).run
