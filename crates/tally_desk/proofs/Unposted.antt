-- Each claim of a pass is posted or buffered.
use Rattle.std.proofs.Common.{◌≡◌, ℕ, ◌+◌, ◌-◌, ◌*◌, ◌/◌, ◌<◌, ◌≤◌, All, Bool, true, false, cond, List, [], ◌∷◌, ◌++◌, get_or, length, length-append, nat_lt, refl, ap, subst, sym, ◌∙◌, ⊎_elim, arith, Vec}
use Rattle.std.specs.Prelude.{if◌then◌else◌, max, min, nat_le}
use Rattle.std.proofs.Math.Nat.{le-max_left, le_trans, min-le_right, mul-div-le}
use Rattle.std.proofs.lemmas.Nat.{mul-le}
use Rattle.std.proofs.lemmas.List.{get_or_append_left}
use Rattle.std.proofs.lemmas.Bool.{cases_lt}
use Rattle.std.proofs.Math.Seq.{get_or-append_seam}
use Rattle.audit_model.specs.declared.setting.Setting.{Setting}
use mathlib.Core.List.{map-append}
use Rattle.std.proofs.lemmas.Bool.Decides.{eqb_tells}
use Rattle.std.proofs.lemmas.List.Elements.{All-nil, All-push}
use Rattle.audit_model.specs.declared.outcome.Outcome.{Outcome}
use Rattle.audit_model.specs.Times.{times}
use Rattle.audit_model.proofs.ListFacts.{popped_rest}
use Rattle.audit_model.proofs.Times.{one, one_same, times_push}
use Rattle.claim_counter.specs.Walks.{found}
use Rattle.tally_desk.specs.declared.pass.DeskPass.{DeskPass}
use Rattle.tally_desk.specs.declared.entry.Entry.{Entry}
use Rattle.tally_desk.specs.DeskModel.{DeskModel}
use Rattle.tally_desk.specs.Desks.{claimed_ids, ended_view}
use Rattle.tally_desk.specs.Entries.{post_of, posted_id, ids_of}
use Rattle.tally_desk.specs.Parts.{Parts}
use Rattle.tally_desk.specs.Passes.{Belongs, Claims, HasPostedAll, MayPost, Posts, view_of}
use Rattle.tally_desk.specs.Unposted.{AreRooms, HoldsRest, IsHolding, IsRoomFor, IsRoomWithin, found_id, buffered_ids, buffer_room, holders, long_steps, room_at}
use Rattle.tally_desk.specs.Views.{PassView}
use Rattle.tally_desk.proofs.Wholes.{claimed_more, same_entries}

-- if nothing is buffered, all claims are posted
pub nothing_buffered : (parts : Parts) (v : PassView) → HasPostedAll parts v → HoldsRest parts v []
nothing_buffered parts v all = record {
  counted = λ id. omega (arith, all id);
  once = λ id some. absurd (omega (arith, some));
  right = All-nil (λ o. o ≡ found parts.job o.id);
}

pub all_posted : (parts : Parts) (v : PassView) → HoldsRest parts v [] → HasPostedAll parts v
all_posted parts v h id = omega (arith, h.counted id)

-- a draw past the end changes neither posts nor buffer
pub ended_buffered : (parts : Parts) (v : PassView) (buffered : List Outcome) → HoldsRest parts v buffered → HoldsRest parts (ended_view v) buffered
ended_buffered parts v buffered h = record { counted = h.counted; once = h.once; right = h.right }

-- one more buffered outcome
buffered_push : (x : ℕ) (buffered : List Outcome) (o : Outcome) → times x (buffered_ids (buffered ++ o ∷ [])) ≡ times x (buffered_ids buffered) + one x o.id
buffered_push x buffered o = ap (times x) (map-append found_id buffered (o ∷ [])) ∙ times_push x (buffered_ids buffered) o.id

-- a claimed and walked outcome is buffered
pub claimed_buffered : (parts : Parts) (id : ℕ) (v w : PassView) (buffered : List Outcome) (o : Outcome) → HoldsRest parts v buffered → Claims parts id v w
    → o ≡ found parts.job o.id → o.id ≡ id → HoldsRest parts w (buffered ++ o ∷ [])
claimed_buffered parts id v w buffered o h c right named = record {
  counted = λ x. omega (arith, h.counted x, claimed_more parts id x v w c, entries x, pushed x);
  once = λ x some. ⊎_elim
      (λ t. let one_is : one x id ≡ 1 = ap (λ (b : Bool). cond b 1 0) t.0 in
      let none : times x (claimed_ids parts v) ≡ 0 = subst (λ (k : ℕ). times k (claimed_ids parts v) ≡ 0) t.1 c.unclaimed in
      omega (arith, claimed_more parts id x v w c, one_is, none))
      (λ t. let none : one x id ≡ 0 = ap (λ (b : Bool). cond b 1 0) t.0 in
      omega (arith, claimed_more parts id x v w c, none, h.once x (omega (arith, some, pushed x, none)))) (eqb_tells id x);
  right = All-push (λ u. u ≡ found parts.job u.id) buffered o h.right right;
}
  where
    entries : (x : ℕ) → times x (ids_of w.entries) ≡ times x (ids_of v.entries)
    entries x = ap (λ (l : List Entry). times x (ids_of l)) (same_entries parts id v w c)

    pushed : (x : ℕ) → times x (buffered_ids (buffered ++ o ∷ [])) ≡ times x (buffered_ids buffered) + one x id
    pushed x = buffered_push x buffered o ∙ ap (λ (k : ℕ). times x (buffered_ids buffered) + one x k) named

-- the last buffered outcome may be posted
pub may_post_buffered : (parts : Parts) (v : PassView) (buffered : List Outcome) (o : Outcome) → HoldsRest parts v (buffered ++ o ∷ []) → MayPost parts o.id v
may_post_buffered parts v buffered o h =
    let some : 0 < times o.id (buffered_ids (buffered ++ o ∷ [])) = omega (arith, buffered_push o.id buffered o, one_same o.id) in
    record {
      claimed = omega (arith, h.once o.id some);
      unposted = omega (arith, h.once o.id some, h.counted o.id, some);
    }

-- after a post, the others are still buffered
pub posted_buffered : (parts : Parts) (v w : PassView) (buffered : List Outcome) (o : Outcome) → HoldsRest parts v (buffered ++ o ∷ []) → Posts o.id v w → HoldsRest parts w buffered
posted_buffered parts v w buffered o h p = record {
  counted = λ x. omega (arith, h.counted x, entries x, claims x, buffered_push x buffered o);
  once = λ x some. claims x ∙ h.once x (omega (arith, some, buffered_push x buffered o));
  right = popped_rest (λ u. u ≡ found parts.job u.id) (buffered ++ o ∷ []) buffered o h.right refl;
}
  where
    entries : (x : ℕ) → times x (ids_of w.entries) ≡ times x (ids_of v.entries) + one x o.id
    entries x = ap (λ (z : PassView). times x (ids_of z.entries)) p.view
        ∙ ap (times x) (map-append posted_id v.entries (post_of p.ticket o.id p.saved ∷ [])) ∙ times_push x (ids_of v.entries) o.id

    claims : (x : ℕ) → times x (claimed_ids parts w) ≡ times x (claimed_ids parts v)
    claims x = ap (λ (z : PassView). times x (claimed_ids parts z)) p.view

-- ---- the buffer of a pass

-- the buffer may be replaced by an equal list
pub same_buffered : (desk : DeskModel) (p : DeskPass) (xs ys : List Outcome) → xs ≡ ys → IsHolding desk p xs → IsHolding desk p ys
same_buffered desk p xs ys same h = subst (IsHolding desk p) same h

-- the buffer after a post of its last outcome
pub holds_fewer : (desk : DeskModel) (p q : DeskPass) (buffered : List Outcome) (o : Outcome) → IsHolding desk p (buffered ++ o ∷ []) → Belongs desk q
    → Posts o.id (view_of p) (view_of q) → IsHolding desk q buffered
holds_fewer desk p q buffered o h belongs posts = record { belongs = belongs; rest = posted_buffered desk.parts (view_of p) (view_of q) buffered o h.rest posts }

-- ---- buffer capacities by place

-- buffers of which each has its share are together no larger than what is shared
few_if : (long : Bool) (n every : ℕ) → n * (if long then 0 else min 4096 (every / max n 1)) ≤ every
few_if true n every = omega arith
few_if false n every =
    le_trans (mul-le n (min 4096 (every / max n 1)) (max n 1) (every / max n 1) (le-max_left n 1) (min-le_right 4096 (every / max n 1))) (mul-div-le every (max n 1))

-- all buffers together hold fewer outcomes than are posted between two saves
pub few_are_buffered : (s : Setting) (workers : ℕ) → holders workers * buffer_room s workers ≤ s.save_every - 1
few_are_buffered s workers = few_if (nat_le long_steps (max s.steps s.hub_steps)) (holders workers) (s.save_every - 1)

module _ {A : Type 0} (s : Setting) (workers : ℕ) where
  -- an empty list has no buffers
  pub no_rooms : (lists : List (Vec Outcome A)) → lists ≡ [] → AreRooms s workers lists
  no_rooms lists none place d inside = absurd (omega (arith, inside, ap length none))

  -- one more buffer at the end
  pub rooms_push : (lists : List (Vec Outcome A)) (h : Vec Outcome A) → AreRooms s workers lists → IsRoomFor (room_at s workers (length lists)) h → AreRooms s workers (lists ++ h ∷ [])
  rooms_push lists h rooms last place d inside = ⊎_elim
      (λ below. subst (IsRoomFor (room_at s workers place)) (sym (get_or_append_left lists (h ∷ []) d place below)) (rooms place d below))
      (λ past. let at : place ≡ length lists = omega (arith, past, inside, length-append lists (h ∷ [])) in
      subst (λ (k : ℕ). IsRoomFor (room_at s workers k) (get_or (lists ++ h ∷ []) k d)) (sym at)
      (subst (IsRoomFor (room_at s workers (length lists))) (sym (get_or-append_seam lists h [] d)) last)) (cases_lt place (length lists))

  -- no buffer is larger than the allowed capacity
  pub rooms_within : (lists : List (Vec Outcome A)) → AreRooms s workers lists → All (IsRoomWithin (buffer_room s workers)) lists
  rooms_within lists rooms place d inside = let r = rooms place d inside in record { blank = r.blank; few = omega (arith, r.room_is, at_most place) }
    where
      at_most : (place : ℕ) → room_at s workers place ≤ buffer_room s workers
      at_most place = cases (nat_lt place (holders workers))
        where
          cases : (b : Bool) → (if b then buffer_room s workers else 0) ≤ buffer_room s workers
          cases true = omega arith
          cases false = omega arith
