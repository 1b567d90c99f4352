-- The history of a desk goes on with each step.
use Rattle.std.proofs.Common.{◌≡◌, ℕ, zero, suc, ◌+◌, ◌<◌, ◌≤◌, ◌==◌, ◌&&◌, min, Bool, cond, List, [], ◌∷◌, ◌++◌, map, set, replicate, get_or, length, Option, Some, None, refl, sym, ap, ◌∙◌, arith}
use Rattle.std.proofs.lemmas.Bool.{le-ltb, ne_eqb}
use Rattle.std.proofs.lemmas.List.{append-nil}
use mathlib.Core.Logic.{dite}
use native.Mathlib.Decide.{ℕ_discrete}
use Rattle.audit_model.specs.declared.outcome.Did.{Did}
use Rattle.audit_model.specs.declared.outcome.Event.{Event}
use Rattle.audit_model.specs.declared.outcome.Event.TheVariants.{Claim}
use Rattle.audit_model.specs.Below.{map_below}
use Rattle.audit_model.specs.Job.{Job}
use Rattle.audit_model.specs.Machine.{Machine, state_after, step}
use Rattle.audit_model.specs.Run.{total}
use Rattle.audit_model.specs.Times.{times}
use Rattle.audit_model.proofs.Times.{one_same, times-cons}
use Rattle.tally_desk.specs.declared.entry.Entry.{Entry}
use Rattle.tally_desk.specs.Entries.{post_of, ids_of}
use Rattle.tally_desk.specs.MachineStates.{HaltsAreRestarts, HasHistory, first_machine, initial_ids, machine_of, open_at}
use Rattle.tally_desk.specs.Machines.{post_events}
use Rattle.tally_desk.specs.Parts.{Parts, IsPlan}
use Rattle.tally_desk.proofs.Bounds.{at_of}
use Rattle.tally_desk.proofs.Machining.{claim_event, post_event}

-- a change of a later word leaves the first
pub first_kept : (l : List ℕ) (k n : ℕ) → get_or (set l (suc k) n) 0 0 ≡ get_or l 0 0
first_kept [] k n = refl
first_kept (x ∷ l) k n = refl

-- the first of three words is what it was set to
pub first_set : (l : List ℕ) (n : ℕ) → length l ≡ 3 → get_or (set l 0 n) 0 0 ≡ n
first_set [] n three = absurd (omega arith)
first_set (x ∷ l) n three = refl

-- events after events
then_events : (m : Machine) (xs ys : List Event) → state_after m (xs ++ ys) ≡ state_after (state_after m xs) ys
then_events m [] ys = refl
then_events m (x ∷ xs) ys = then_events (step m x).0 xs ys

-- one more of the same
one_more : (n : ℕ) → replicate {A = Option ℕ} n None ++ None ∷ [] ≡ None ∷ replicate n None
one_more zero = refl
one_more (suc n) = ap (λ (l : List (Option ℕ)). None ∷ l) (one_more n)

-- an id that the pass claimed was claimed at a place
pub place_of : (todo claims : List ℕ) (i : ℕ) → 0 < times i (map (at_of todo) claims) → (place : ℕ) × ((0 < times place claims) × (i ≡ get_or todo place 0))
place_of todo [] i has = absurd (omega arith)
place_of todo (p ∷ ps) i has = dite (ℕ_discrete (get_or todo p 0) i)
    (λ hit. (p, (omega (arith, times-cons p p ps, one_same p), sym hit)))
    (λ miss.
    let r = place_of todo ps i (omega (arith, has, times-cons i (get_or todo p 0) (map (at_of todo) ps), ap {B = ℕ} (λ (b : Bool). cond b 1 0) (ne_eqb (get_or todo p 0) i miss))) in
    (r.0, (omega (arith, r.1.0, times-cons r.0 p ps), r.1.1)))

module _ (parts : Parts) where
  -- past the end a draw changes nothing of the machine
  pub same_next : (a b : ℕ) (l : List Entry) → min a (length parts.todo) ≡ min b (length parts.todo) → machine_of parts a l ≡ machine_of parts b l
  same_next a b l same = λ i. record (machine_of parts a l) { next = same i; open_ids = map_below (length parts.todo) (open_at parts (same i) l) }

  -- before the first draw no id is open
  none_open : (n next : ℕ) → next ≡ 0 → map_below n (open_at parts next []) ≡ replicate n None
  none_open zero next none = refl
  none_open (suc n) next none =
      (λ i. none_open n next none i
      ++ ap (λ (b : Bool). cond (b && (times (get_or parts.todo n 0) (ids_of []) == 0)) (Some (get_or parts.todo n 0)) None) (le-ltb n next (omega (arith, none))) i ∷ [])
      ∙ one_more n

  -- a desk begins as its machine does
  pub no_history : HasHistory parts 0 []
  no_history =
      let ids : initial_ids parts ≡ initial_ids parts ++ [] = sym (append-nil (initial_ids parts)) in
      let next : 0 ≡ min 0 (length parts.todo) = omega arith in
      let open_ids : replicate (length parts.todo) None ≡ map_below (length parts.todo) (open_at parts (min 0 (length parts.todo)) []) =
      sym (none_open (length parts.todo) (min 0 (length parts.todo)) (sym next)) in
      record {
        events = [];
        reaches = λ i. record (first_machine parts) { saved = ids i; done = ids i; next = next i; open_ids = open_ids i };
      }

  -- more events
  goes_on : (a b : ℕ) (l k : List Entry) (events : List Event) → HasHistory parts a l → state_after (machine_of parts a l) events ≡ machine_of parts b k → HasHistory parts b k
  goes_on a b l k events h is = record {
    events = h.events ++ events;
    reaches = then_events (first_machine parts) h.events events ∙ ap (λ (m : Machine). state_after m events) h.reaches ∙ is;
  }

  -- a draw of a place
  pub claimed_history : IsPlan parts → (a : ℕ) (l : List Entry) → HasHistory parts a l → a < length parts.todo → times (get_or parts.todo a 0) (ids_of l) ≡ 0 → HasHistory parts (a + 1) l
  claimed_history plan a l h below new = goes_on a (a + 1) l l (Claim a ∷ []) h (ap (λ (r : Machine × Did). r.0) (claim_event parts plan a l below new))

  -- a draw past the end
  pub ended_history : (a : ℕ) (l : List Entry) → HasHistory parts a l → length parts.todo ≤ a → HasHistory parts (a + 1) l
  ended_history a l h past = goes_on a (a + 1) l l [] h (same_next a (a + 1) l (omega (arith, past)))

  -- a post
  pub posted_history : IsPlan parts → (a c : ℕ) (l : List Entry) (i place : ℕ) (saved : Bool) → HasHistory parts a l → place < min a (length parts.todo) → i ≡ get_or parts.todo place 0 → times i (ids_of l) ≡ 0
      → HasHistory parts a (l ++ post_of c i saved ∷ [])
  posted_history plan a c l i place saved h below is unposted =
      goes_on a a l (l ++ post_of c i saved ∷ []) (post_events place saved) h (post_event parts plan a place l c i saved below is unposted)

-- a halt leaves the machine of the next desk
pub halts_are_restarts : HaltsAreRestarts
halts_are_restarts parts later drawn posted same ids = record {
  total = sym (ap total same);
  parts = sym (ap (λ (j : Job). j.setting.parts) same);
  part = sym (ap (λ (j : Job). j.setting.part) same);
  start = sym ids;
  saved = sym ids;
  done = sym ids;
  next = refl;
}
