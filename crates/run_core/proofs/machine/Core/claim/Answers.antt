use Rattle.std.proofs.Common.{◌≡◌, ◌<◌, None, Some, length, get_or, sym, ap, ◌∙◌, arith}
use Rattle.std.specs.Prelude.{slice_get}
use Rattle.std.proofs.lemmas.List.{get_or_read}
use Rattle.audit_model.specs.declared.outcome.Event.TheVariants.{Claim}
use Rattle.audit_model.specs.Machine.{Machine, step}
use Rattle.run_core.proofs.Stepping.{claim_is, kept_claim}
use Rattle.run_core.proofs.machine.Core.claim.Goals as goal

pub invariant_of-self : goal.invariant_of-self
invariant_of-self c =
    let i = c.self.inside in
    let free : slice_get i.open_ids c.args.worker ≡ Some None = sym c.open_id.ensures ∙ c.in-Some-None.is ∙ ap Some c.in-Some-None.field-0-is in
    let within : i.next < length i.ids.items = omega (arith, i.ids.ok.0) in
    let id : c.index-id.result.now ≡ get_or i.ids.items i.next 0 = get_or_read i.ids.items i.next c.index-id.result.now within c.index-id.ensures 0 in
    (kept_claim _ _ _ _ _ _ _ _ c.self.invariant.0 c.args.worker c.index-id.result.now free within id, c.self.invariant.1)

pub returns-else-self-len-clause-step : goal.returns-else-self-len-clause-step
returns-else-self-len-clause-step c =
    let i = c.self.inside in
    let free : slice_get i.open_ids c.args.worker ≡ Some None = sym c.open_id.ensures ∙ c.in-Some-None.is ∙ ap Some c.in-Some-None.field-0-is in
    let within : i.next < length i.ids.items = omega (arith, i.ids.ok.0) in
    let id : c.index-id.result.now ≡ get_or i.ids.items i.next 0 = get_or_read i.ids.items i.next c.index-id.result.now within c.index-id.ensures 0 in
    claim_is _ _ _ _ _ _ _ _ c.self.invariant.0 c.args.worker c.index-id.result.now free within id
    ∙ ap (λ (m : Machine). step m (Claim c.args.worker)) c.self.view_is

pub returns-else-self-len-clause-sound : goal.returns-else-self-len-clause-sound
returns-else-self-len-clause-sound c =
    let i = c.self.inside in
    let free : slice_get i.open_ids c.args.worker ≡ Some None = sym c.open_id.ensures ∙ c.in-Some-None.is ∙ ap Some c.in-Some-None.field-0-is in
    let within : i.next < length i.ids.items = omega (arith, i.ids.ok.0) in
    let id : c.index-id.result.now ≡ get_or i.ids.items i.next 0 = get_or_read i.ids.items i.next c.index-id.result.now within c.index-id.ensures 0 in
    (kept_claim _ _ _ _ _ _ _ _ c.self.invariant.0 c.args.worker c.index-id.result.now free within id).run
