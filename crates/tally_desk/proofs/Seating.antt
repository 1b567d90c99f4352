-- The knowledge of a seat when it leaves a pass and comes back.
use Rattle.std.proofs.Common.{◌≡◌, ℕ, ◌<◌, ◌≤◌, List, [], ◌∷◌, length, get_or, sym, ap, ◌∙◌, subst, Some}
use Rattle.atomic_table.specs.Table.{Me, Step}
use Rattle.claim_counter.specs.Records.{with_claim}
use Rattle.tally_desk.specs.declared.state.RunState.{RunState}
use Rattle.tally_desk.specs.Desks.{DrawsPlace, claimed_ids, ended_view, with_own}
use Rattle.tally_desk.specs.Parts.{Parts}
use Rattle.tally_desk.specs.Views.{PassView, view_in}
use Rattle.audit_model.specs.Times.{times}

-- a badge has exactly one view
pub only_view : (views : List PassView) (v : PassView) → views ≡ v ∷ [] → views ≡ view_in views ∷ []
only_view views v is = is ∙ ap (λ (u : PassView). u ∷ []) (sym (ap view_in is))

module _ {C : Type 0} (parts : Parts) (v : PassView) (st : Step (RunState C)) (me me' : Me (RunState C) PassView) (found : ℕ) (was : me ≡ (v, [])) (is : v.parts ≡ Some parts)
    (draws : DrawsPlace st me found me') where
  from_here : DrawsPlace st (v, []) found me'
  from_here = subst (λ (m : Me (RunState C) PassView). DrawsPlace st m found me') was draws

  pub still_empty : me'.1 ≡ []
  still_empty = from_here.slots

  pub drew_place : found < length parts.todo → me'.0 ≡ with_own v (with_claim found v.own)
  drew_place below = (from_here.place parts is below).0

  pub drew_new : found < length parts.todo → times (get_or parts.todo found 0) (claimed_ids parts v) ≡ 0
  drew_new below = (from_here.place parts is below).1

  pub drew_end : length parts.todo ≤ found → me'.0 ≡ ended_view v
  drew_end past = from_here.ends parts is past

  pub drew_few : length me'.0.own.claims ≤ length parts.todo
  drew_few = from_here.few parts is
