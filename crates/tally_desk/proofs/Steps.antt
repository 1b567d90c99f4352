-- Each step of a desk's table keeps its rule, for any contents of the slot.
use Rattle.std.proofs.Common.{◌≡◌, ℕ, ◌+◌, ◌%◌, ◌^◌, ◌<◌, ◌≤◌, min, Bool, true, false, List, [], ◌∷◌, ◌++◌, map, set, get_or, length, length-set, sym, refl, ap, ◌∙◌, subst, inr, ⊎_elim, arith, Some, Option, unwrap_or, lt_of_not-le, eqb, eq-eqb, ne_eqb}
use mathlib.Core.Option as maybe
use mathlib.Core.Logic.{dite}
use native.Mathlib.Decide.{ℕ_discrete, dec_le}
use lib.ListN.{get_elem?}
use prog.Atomic.{either}
use Rattle.std.specs.List.{sum_by, range_with_len}
use Rattle.std.specs.List.Sorted.{IsPermutation}
use Rattle.std.proofs.lemmas.List.{length-map, take_all}
use Rattle.std.proofs.lemmas.List.Elements.{All-nil}
use Rattle.std.proofs.lemmas.List.FromFn.{length-range_with_len}
use Rattle.std.proofs.lemmas.List.Sorted.{IsPermutation-map, sum_by-IsPermutation}
use Rattle.atomic_table.specs.Table.{State, Me, step, keeps, takes, gives, stepped, put_back, rest, Allows, Splits, Joins, Final, Seen, opening}
use Rattle.atomic_table.proofs.Lists.{at_snoc, set_again, set_else, at_map}
use Rattle.claim_counter.specs.declared.record.PassRecord.{PassRecord}
use Rattle.claim_counter.specs.Records.{IsSole, with_claim, at_end}
use Rattle.tally_desk.specs.declared.entry.Entry.{Entry}
use Rattle.tally_desk.specs.declared.state.RunState.{RunState}
use Rattle.tally_desk.specs.Counter.{CounterLaws}
use Rattle.tally_desk.specs.Desks.{BeginsTurn, CanPost, DrawsPlace, FitsDesk, IsInTurn, IsRunComplete, KeepsTally, IsWaiting, KnowsPosts, LooksForTurn, SeesSeats, Serves, TakesTicket, Tallied, AttemptsTicket, entry_sum, first_view, claimed_ids, is_in_turn, joined_view, left_view, own_of, right_view, with_entry, with_own, with_turn}
use Rattle.tally_desk.specs.Entries.{post_of, posted_id, ids_of, is_due, ticket_of}
use Rattle.tally_desk.specs.MachineStates.{HasHistory}
use Rattle.tally_desk.specs.Parts.{Parts, IsPlan}
use Rattle.tally_desk.specs.Passes.{HasPostedAll}
use Rattle.tally_desk.specs.Views.{PassView, Turn, no_turn, waiting, in_turn, turn_ids, spent_view}
use Rattle.tally_desk.proofs.Bounds.{times-first, sum_mapped, put_first, put_second, put_third}
use Rattle.tally_desk.proofs.Reaching.{claimed_history, ended_history, first_kept, first_set, no_history, place_of, posted_history}
use Rattle.tally_desk.proofs.Tallying.{awaits, begun, claimed, claims_few, set_here_at, ended, in_use, merged, new_id, new_unposted, none_in_turn, parted, place_drawn, served, ticketed, tickets_bounded}
use Rattle.tally_desk.proofs.Todo.{todo_small}
use Rattle.audit_model.specs.Times.{times, once_below}
use Rattle.audit_model.proofs.Times.{sum_at, sum_sole, one, one_same, permutation_below, permutation_from_times, times-append, times-cons}

abbrev ticket_in : Turn → ℕ
ticket_in no_turn = 0
ticket_in (waiting t i) = t
ticket_in (in_turn t i l) = t

abbrev id_in : Turn → ℕ
id_in no_turn = 0
id_in (waiting t i) = i
id_in (in_turn t i l) = i

abbrev last_of : List Entry → Entry → Entry
last_of [] d = d
last_of (e ∷ es) d = last_of es e

-- the last of the posts is the one appended
last_of_push : (l : List Entry) (e d : Entry) → last_of (l ++ e ∷ []) d ≡ e
last_of_push [] e d = refl
last_of_push (x ∷ l) e d = last_of_push l e x

module _ {C : Type 0} (HomeAs : Parts → RunState C → List Entry → Type 0) (parts : Parts) where
  abbrev St : Type 0
  St = State (RunState C) PassView

  abbrev Mine : Type 0
  Mine = Me (RunState C) PassView

  after_first : (s : St) (k : Tallied HomeAs parts s) (n id : ℕ) (me : Mine) (w : PassView) → HasHistory parts n k.posted → KeepsTally HomeAs parts n (get_or s.words 1 0) (get_or s.words 2 0) k.posted s.homes (set s.views id w)
      → Tallied HomeAs parts (stepped s 0 n id me.1 w keeps)
  after_first s k n id me w history t = record {
    three_words = length-set s.words 0 n ∙ k.three_words;
    one_slot = k.one_slot;
    posted = k.posted;
    tallied = put_first (λ a b c. KeepsTally HomeAs parts a b c k.posted s.homes (set s.views id w)) s.words n k.three_words t;
    history = subst (λ (a : ℕ). HasHistory parts a k.posted) (sym (first_set s.words n k.three_words)) history;
  }

  after_second : (s : St) (k : Tallied HomeAs parts s) (n id : ℕ) (me : Mine) (w : PassView) → KeepsTally HomeAs parts (get_or s.words 0 0) n (get_or s.words 2 0) k.posted s.homes (set s.views id w)
      → Tallied HomeAs parts (stepped s 1 n id me.1 w keeps)
  after_second s k n id me w t = record {
    three_words = length-set s.words 1 n ∙ k.three_words;
    one_slot = k.one_slot;
    posted = k.posted;
    tallied = put_second (λ a b c. KeepsTally HomeAs parts a b c k.posted s.homes (set s.views id w)) s.words n k.three_words t;
    history = subst (λ (a : ℕ). HasHistory parts a k.posted) (sym (first_kept s.words 0 n)) k.history;
  }

  pub claim : CounterLaws → (slots id : ℕ) (me : Mine) → me.0.parts ≡ Some parts → 0 < me.0.own.weight → me.0.own.ended ≡ false → Allows (Tallied HomeAs parts) slots id me 0 (λ n. (n + 1) % 2 ^ 64) (DrawsPlace (step slots 0 1 0 maybe.none) me)
  claim laws slots id me is weighs going s k deep at _ =
      let n : ℕ = get_or s.words 0 0 in
      let t = k.tallied in
      let v : PassView = me.0 in
      let limit = length parts.todo in
      let bound = laws.bounded limit parts.seats n (map own_of s.views) t.counted in
      let few = todo_small parts t.plan in
      let few_seats = t.plan.few_seats in
      let fits : n + 1 ≡ (n + 1) % 18446744073709551616 = omega arith in
      let same : (gx : Parts) → me.0.parts ≡ Some gx → parts ≡ gx = λ gx is'. ap (λ (o : Option Parts). unwrap_or o parts) (sym is ∙ is') in
      dite (dec_le limit n)
      (λ past. let w = with_own v (at_end v.own) in (
        w,
        keeps,
        tt,
        subst (λ (z : ℕ). Tallied HomeAs parts (stepped s 0 z id me.1 w keeps)) fits
            (after_first s k (n + 1) id me w (ended_history parts n k.posted k.history past) (ended HomeAs parts n _ _ k.posted s.homes s.views t id v at laws is weighs going past)),
        record {
          slots = refl;
          place = λ gx is' below. let e : length parts.todo ≡ length gx.todo = ap (λ (p : Parts). length p.todo) (same gx is') in absurd (omega arith);
          ends = λ gx is' past'. refl;
          few = λ gx is'. subst (λ (p : Parts). length v.own.claims ≤ length p.todo) (same gx is') (claims_few HomeAs parts n _ _ k.posted s.homes s.views t id v at);
        },
      ))
      (λ not_past. let below : n < limit = lt_of_not-le not_past in let w = with_own v (with_claim n v.own) in (
        w,
        keeps,
        tt,
        subst (λ (z : ℕ). Tallied HomeAs parts (stepped s 0 z id me.1 w keeps)) fits
            (after_first s k (n + 1) id me w
            (claimed_history parts t.plan n k.posted k.history below (new_unposted HomeAs parts n _ _ k.posted s.homes s.views t id v at laws is weighs below)) (claimed HomeAs parts n _ _ k.posted s.homes s.views t id v at laws is weighs below)),
        record {
          slots = refl;
          place = λ gx is' below'. (
            refl,
            subst (λ (p : Parts). times (get_or p.todo n 0) (claimed_ids p v) ≡ 0) (same gx is') (new_id HomeAs parts n _ _ k.posted s.homes s.views t id v at laws is weighs below),
          );
          ends = λ gx is' past'. let e : length parts.todo ≡ length gx.todo = ap (λ (p : Parts). length p.todo) (same gx is') in absurd (omega arith);
          few = λ gx is'. subst (λ (p : Parts). length (v.own.claims ++ n ∷ []) ≤ length p.todo) (same gx is')
              (claims_few HomeAs parts (n + 1) _ _ k.posted s.homes (set s.views id w) (claimed HomeAs parts n _ _ k.posted s.homes s.views t id v at laws is weighs below) id w (set_here_at s.views id v w at));
        },
      ))

  pub see : (slots id : ℕ) (me : Mine) → me.0.parts ≡ Some parts → Allows (Tallied HomeAs parts) slots id me 0 (λ n. n) (SeesSeats (step slots 0 0 0 maybe.none) me)
  see slots id me is s k deep at _ =
      let t = k.tallied in
      let n : ℕ = get_or s.words 0 0 in
      let share = sum_at (λ (p : PassRecord). p.weight + p.spare) (map own_of s.views) id me.0.own (at_map own_of s.views id me.0 at) in
      let within : me.0.own.weight + me.0.own.spare ≤ parts.seats = omega (arith, share, t.counted.seats) in
      let few_seats = t.plan.few_seats in (
        me.0,
        keeps,
        tt,
        after_first s k n id me me.0 k.history
            (subst (KeepsTally HomeAs parts n (get_or s.words 1 0) (get_or s.words 2 0) k.posted s.homes) (sym (set_again s.views id me.0 at)) t),
        record {
          same = refl;
          seats = λ gx is'. subst (λ (p : Parts). me.0.own.weight + me.0.own.spare ≤ p.seats) (ap (λ (o : Option Parts). unwrap_or o parts) (sym is ∙ is')) within;
          few = omega (arith, within, few_seats);
        },
      )

  pub ticket : (slots id : ℕ) (me : Mine) (o : ℕ) → CanPost parts me.0 o → Allows (Tallied HomeAs parts) slots id me 1 (λ n. (n + 1) % 2 ^ 64) (TakesTicket o (step slots 1 1 0 maybe.none) me)
  ticket slots id me o can s k deep at _ =
      let n : ℕ = get_or s.words 1 0 in
      let t = k.tallied in
      let w = with_turn me.0 (waiting n o) in
      let bound = tickets_bounded HomeAs parts _ n _ k.posted s.homes s.views t in
      let few = todo_small parts t.plan in
      let fits : n + 1 ≡ (n + 1) % 18446744073709551616 = omega arith in (
        w,
        keeps,
        tt,
        subst (λ (z : ℕ). Tallied HomeAs parts (stepped s 1 z id me.1 w keeps)) fits (after_second s k (n + 1) id me w (ticketed HomeAs parts _ n _ k.posted s.homes s.views t id me.0 at o can)),
        record { slots = refl; view = refl },
      )

  -- a step that gives out no ticket keeps the rule
  unmoved_given : (s : St) → Tallied HomeAs parts s → (id : ℕ) (me : Mine) → get_elem? s.views id ≡ maybe.some me.0 → Tallied HomeAs parts (stepped s 1 (get_or s.words 1 0) id me.1 me.0 keeps)
  unmoved_given s k id me at = after_second s k (get_or s.words 1 0) id me me.0
      (subst (KeepsTally HomeAs parts (get_or s.words 0 0) (get_or s.words 1 0) (get_or s.words 2 0) k.posted s.homes) (sym (set_again s.views id me.0 at)) k.tallied)

  -- an attempt to take a ticket takes it or changes nothing
  pub try_ticket : (slots id : ℕ) (me : Mine) (o old new : ℕ) → new ≡ (old + 1) % 2 ^ 64 → CanPost parts me.0 o
      → Allows (Tallied HomeAs parts) slots id me 1 (λ n. either (eqb n old) new n) (AttemptsTicket o (step slots 1 old new maybe.none) me)
  try_ticket slots id me o old new next can s k deep at small =
      let n : ℕ = get_or s.words 1 0 in
      dite (ℕ_discrete n old)
      (λ hit. let t = ticket slots id me o can s k deep at small in let word : (n + 1) % 2 ^ 64 ≡ new = ap (λ (z : ℕ). (z + 1) % 2 ^ 64) hit ∙ sym next in (
        t.0,
        t.1,
        t.2,
        subst (λ b. Tallied HomeAs parts (stepped s 1 (either b new n) id me.1 t.0 t.1)) (sym (eq-eqb n old hit)) (subst (λ (z : ℕ). Tallied HomeAs parts (stepped s 1 z id me.1 t.0 t.1)) word t.3),
        record { takes = λ _. record { slots = t.4.slots; view = t.4.view }; misses = λ miss. absurd (miss hit) },
      ))
      (λ miss. (
        me.0,
        keeps,
        tt,
        subst (λ b. Tallied HomeAs parts (stepped s 1 (either b new n) id me.1 me.0 keeps)) (sym (ne_eqb n old miss)) (unmoved_given s k id me at),
        record { takes = λ hit. absurd (miss hit); misses = λ _. refl },
      ))

  unmoved : (s : St) → Tallied HomeAs parts s → (id : ℕ) (me : Mine) → get_elem? s.views id ≡ maybe.some me.0 → Tallied HomeAs parts (stepped s 2 (get_or s.words 2 0) id me.1 me.0 keeps)
  unmoved s k id me at = record {
    three_words = length-set s.words 2 (get_or s.words 2 0) ∙ k.three_words;
    one_slot = k.one_slot;
    posted = k.posted;
    tallied = put_third (λ a b c. KeepsTally HomeAs parts a b c k.posted s.homes (set s.views id me.0)) s.words (get_or s.words 2 0) k.three_words
        (subst (KeepsTally HomeAs parts (get_or s.words 0 0) (get_or s.words 1 0) (get_or s.words 2 0) k.posted s.homes) (sym (set_again s.views id me.0 at)) k.tallied);
    history = subst (λ (a : ℕ). HasHistory parts a k.posted) (sym (first_kept s.words 1 (get_or s.words 2 0))) k.history;
  }

  pub look : (slots id : ℕ) (me : Mine) (mine i : ℕ) → IsWaiting parts mine i me.0 → Allows (Tallied HomeAs parts) slots id me 2 (λ n. n) (LooksForTurn HomeAs (step slots 2 0 0 maybe.none) me)
  look slots id me mine i waits s k deep at _ =
      let n : ℕ = get_or s.words 2 0 in
      let t = k.tallied in
      let v : PassView = me.0 in
      dite (ℕ_discrete n mine)
      (λ hit.
      let turn : v.turn ≡ waiting n i = waits.turn ∙ ap (λ (z : ℕ). waiting z i) (sym hit) in
      let h = t.home (none_in_turn HomeAs parts _ _ n k.posted s.homes s.views t id v at i turn) in
      let w = with_turn v (in_turn n i k.posted) in
      let starts : BeginsTurn HomeAs parts n i me (w, (0, h.0) ∷ me.1) = record {
        home = h.0;
        posted = k.posted;
        view = refl;
        slots = refl;
        holds = h.2;
        awaits = awaits HomeAs parts _ _ n k.posted s.homes s.views t id v at i waits.weighs (ap turn_ids turn);
      } in (
        w,
        takes 0 h.0,
        ap (λ (l : List (maybe.Option (RunState C))). get_elem? l 0) h.1,
        record {
          three_words = length-set s.words 2 n ∙ k.three_words;
          one_slot = length-set s.homes 0 maybe.none ∙ k.one_slot;
          posted = k.posted;
          tallied = put_third (λ a b c. KeepsTally HomeAs parts a b c k.posted (set s.homes 0 maybe.none) (set s.views id w)) s.words n k.three_words
              (begun HomeAs parts _ _ n k.posted s.homes s.views t id v at i waits.fixed waits.weighs turn);
          history = subst (λ (a : ℕ). HasHistory parts a k.posted) (sym (first_kept s.words 1 n)) k.history;
        },
        record {
          waits = λ gx t' i' same_parts same_turn miss. absurd (miss (hit ∙ ap ticket_in (sym waits.turn ∙ same_turn)));
          begins = λ gx t' i' same_parts same_turn hit'. subst (λ (z : Parts × ℕ × ℕ). BeginsTurn HomeAs z.0 z.1 z.2 me (w, (0, h.0) ∷ me.1))
              (λ k. (ap (λ (o : Option Parts). unwrap_or o parts) (sym waits.fixed ∙ same_parts) k, hit' k, ap id_in (sym waits.turn ∙ same_turn) k)) starts;
        },
      ))
      (λ miss. (
        me.0,
        keeps,
        tt,
        unmoved s k id me at,
        record {
          waits = λ gx t' i' same_parts same_turn miss'. refl;
          begins = λ gx t' i' same_parts same_turn hit'. absurd (miss (hit' ∙ ap ticket_in (sym same_turn ∙ waits.turn)));
        },
      ))

  one_home : (hs : List (maybe.Option (RunState C))) (x : maybe.Option (RunState C)) → length hs ≡ 1 → set hs 0 x ≡ x ∷ []
  one_home [] x e = absurd (omega arith)
  one_home (h ∷ []) x e = refl
  one_home (h ∷ g ∷ hs) x e = absurd (omega arith)

  abbrev home_in : List (ℕ × RunState C) → RunState C → RunState C
  home_in [] d = d
  home_in (x ∷ xs) d = x.1

  pub serve : (slots id : ℕ) (me : Mine) (t i : ℕ) (l : List Entry) (y : RunState C) (saved : Bool) → me.0.parts ≡ Some parts → 0 < me.0.own.weight → me.0.turn ≡ in_turn t i l → me.1 ≡ (0, y) ∷ []
      → HomeAs parts y (l ++ post_of t i saved ∷ []) → y.posted.items ≡ l ++ post_of t i saved ∷ [] → (saved ≡ true → is_due parts.save_every (post_of t i saved) ≡ true)
      → Allows (Tallied HomeAs parts) slots id me 2 (λ _. t + 1) (λ _. Serves (step slots 2 (t + 1) 0 maybe.none) me (t + 1))
  serve slots id me t i l y saved is weighs turn carries holds entries due s k deep at _ =
      let n : ℕ = get_or s.words 2 0 in
      let r = k.tallied in
      let v : PassView = me.0 in
      let u = in_use parts n k.posted v (r.each id v at) weighs in
      let knows : (t ≡ n) × (l ≡ k.posted) = subst (KnowsPosts n k.posted) turn u.knows in
      let e = post_of n i saved in
      let w = with_entry v e in
      let turn' : v.turn ≡ in_turn n i l = turn ∙ ap (λ (z : ℕ). in_turn z i l) knows.0 in
      let holds' : HomeAs parts y (k.posted ++ e ∷ []) = subst (λ (q : ℕ × List Entry). HomeAs parts y (q.1 ++ post_of q.0 i saved ∷ [])) (λ j. (knows.0 j, knows.1 j)) holds in
      let due' : saved ≡ true → is_due parts.save_every e ≡ true = subst (λ (z : ℕ). saved ≡ true → is_due parts.save_every (post_of z i saved) ≡ true) knows.0 due in
      let back : put_back s.homes me.1 ≡ maybe.some y ∷ [] = ap (put_back s.homes) carries ∙ one_home s.homes (maybe.some y) k.one_slot in
      let next : n + 1 ≡ t + 1 = ap (λ (z : ℕ). z + 1) (sym knows.0) in
      let after : KeepsTally HomeAs parts (get_or s.words 0 0) (get_or s.words 1 0) (n + 1) (k.posted ++ e ∷ []) (maybe.some y ∷ []) (set s.views id w) =
      served HomeAs parts _ _ n k.posted s.homes s.views r id v at i l y saved is weighs turn' knows.1 holds' due' in
      let mine : times i (turn_ids v.turn) ≡ 1 = ap (λ (z : Turn). times i (turn_ids z)) turn' ∙ times-cons i i [] ∙ ap (λ (z : ℕ). z + 0) (one_same i) in
      let place = place_of parts.todo v.own.claims i (omega (arith, u.claimed i, times-append i (ids_of v.entries) (turn_ids v.turn), mine)) in
      let below = place_drawn HomeAs parts _ _ n k.posted s.homes s.views r id v at place.0 place.1.0 in
      let waits = awaits HomeAs parts _ _ n k.posted s.homes s.views r id v at i weighs (ap turn_ids turn') in (
        w,
        gives,
        tt,
        record {
          three_words = length-set s.words 2 (t + 1) ∙ k.three_words;
          one_slot = ap length back;
          posted = k.posted ++ e ∷ [];
          tallied = put_third (λ a b c. KeepsTally HomeAs parts a b c (k.posted ++ e ∷ []) (put_back s.homes me.1) (set s.views id w)) s.words (t + 1) k.three_words
              (subst (λ (z : ℕ × List (maybe.Option (RunState C))). KeepsTally HomeAs parts (get_or s.words 0 0) (get_or s.words 1 0) z.0 (k.posted ++ e ∷ []) z.1 (set s.views id w)) (λ j. (next j, sym back j)) after);
          history = subst (λ (a : ℕ). HasHistory parts a (k.posted ++ e ∷ [])) (sym (first_kept s.words 1 (t + 1)))
              (posted_history parts r.plan _ n k.posted i place.0 saved k.history below place.1.1 waits.unposted);
        },
        record {
          slots = λ z e'. ap rest e';
          view = λ q y' l' e' carries' ends. let same_home : y ≡ y' = ap (λ (z : List (ℕ × RunState C)). home_in z y) (sym carries ∙ carries') in
              let same_end : post_of t i saved ≡ e' = sym (last_of_push l (post_of t i saved) e) ∙ ap (λ (z : List Entry). last_of z e) (sym entries ∙ ap (λ (z : RunState C). z.posted.items) same_home ∙ ends) ∙ last_of_push l' e' e in
              ap (with_entry v) (ap (λ (z : ℕ). post_of z i saved) (sym knows.0) ∙ same_end);
        },
      )

  pub split : CounterLaws → (id : ℕ) (v : PassView) → v.parts ≡ Some parts → 0 < v.own.weight → 0 < v.own.spare → Splits (Tallied HomeAs parts) id v (left_view v) (right_view v)
  split laws id v is weighs some_spare s k at = record {
    three_words = k.three_words;
    one_slot = k.one_slot;
    posted = k.posted;
    tallied = parted HomeAs parts _ _ _ k.posted s.homes s.views k.tallied id v at laws is weighs some_spare;
    history = k.history;
  }

  pub join : CounterLaws → (id : ℕ) (v : PassView) (other : ℕ) (w : PassView) → v.parts ≡ Some parts → 0 < v.own.weight → 0 < w.own.weight → v.turn ≡ no_turn → w.turn ≡ no_turn
      → Joins (Tallied HomeAs parts) id v other w (joined_view v w) spent_view
  join laws id v other w is weighs weighs' idle idle' s k at apart at_other = record {
    three_words = k.three_words;
    one_slot = k.one_slot;
    posted = k.posted;
    tallied = merged HomeAs parts _ _ _ k.posted s.homes s.views k.tallied id v at laws is weighs other w apart (sym (set_else s.views id other (joined_view v w) apart) ∙ at_other) weighs' idle idle';
    history = k.history;
  }

  pub opens : CounterLaws → (y : RunState C) → IsPlan parts → HomeAs parts y [] → Tallied HomeAs parts (opening (0 ∷ 0 ∷ 0 ∷ []) (y ∷ []) (first_view parts))
  opens laws y plan holds = record {
    three_words = refl;
    one_slot = refl;
    posted = [];
    tallied = record {
      plan = plan;
      counted = laws.start (length parts.todo) parts.seats plan.some_seat;
      in_order = refl;
      posts = λ f. refl;
      due = All-nil (λ (e : Entry). e.saved ≡ true → is_due parts.save_every e ≡ true);
      within = omega arith;
      tickets = λ x. omega arith;
      turns = refl;
      each = λ i v e. ⊎_elim (λ none. absurd (maybe.some-ne-none v (sym none)))
          (λ is. subst (FitsDesk parts 0 []) is (inr (record { fixed = refl; weighs = omega arith; claimed = λ x. omega arith; knows = tt }))) (at_snoc [] (first_view parts) v i e);
      home = λ _. (y, refl, holds);
    };
    history = no_history parts;
  }

  pub completes : CounterLaws → (id : ℕ) (v : PassView) (ws : List ℕ) (xs : List (RunState C)) → Final (Seen (Tallied HomeAs parts) id v) ws xs → 0 < v.own.weight → v.own.weight + v.own.spare ≡ parts.seats → v.turn ≡ no_turn
      → (y : RunState C) × (get_elem? xs 0 ≡ maybe.some y) × IsRunComplete HomeAs parts (get_or ws 0 0) y v
  completes laws id v ws xs final weighs all idle =
      let s = final.0 in
      let k = final.1.0 in
      let at = final.1.1 in
      let t = k.tallied in
      let vs = s.views in
      let n = get_or s.words 2 0 in
      let weight_of : PassView → ℕ = λ u. u.own.weight + u.own.spare in
      let shares : weight_of v ≡ sum_by weight_of vs = all ∙ sym t.counted.seats ∙ sum_mapped (λ (p : PassRecord). p.weight + p.spare) own_of vs in
      let zeros : (f : PassView → ℕ) → f spent_view ≡ 0 → (j : ℕ) (u : PassView) → get_elem? vs j ≡ maybe.some u → weight_of u ≡ 0 → f u ≡ 0 =
      λ f none j u e no_share. ⊎_elim (λ is. ap f is ∙ none) (λ q. let w = q.weighs in absurd (omega arith)) (t.each j u e) in
      let only : (f : PassView → ℕ) → f spent_view ≡ 0 → sum_by f vs ≡ f v = λ f none. sum_sole f weight_of vs id v (zeros f none) at shares in
      let none_there : is_in_turn v ≡ 0 = ap (λ (u : Turn). is_in_turn (with_turn v u)) idle in
      let h = t.home (only is_in_turn refl ∙ none_there) in
      let len : length k.posted ≡ n = sym (length-map k.posted ticket_of) ∙ ap length t.in_order ∙ length-range_with_len 0 n in (
        h.0,
        final.4 0 h.0 (ap (λ (l : List (maybe.Option (RunState C))). get_elem? l 0) h.1),
        record {
          plan = t.plan;
          sole = subst (λ (z : List ℕ). IsSole (length parts.todo) (get_or z 0 0) v.own) final.2
              (laws.sole (length parts.todo) parts.seats (get_or s.words 0 0) (map own_of vs) id v.own (record { counted = t.counted; at = at_map own_of vs id v at; weighs = weighs }) all);
          posted = k.posted;
          holds = h.2;
          in_order = t.in_order ∙ ap (range_with_len 0) (sym len);
          own_posts = λ f. sym (only (entry_sum f) refl) ∙ t.posts f;
          due = t.due;
          history = subst (λ (z : List ℕ). HasHistory parts (get_or z 0 0) k.posted) final.2 k.history;
        },
      )

  -- a pass in its turn knows the contents of the slot that it reads
  pub posted_at_home : (t i : ℕ) (me : Mine) (now : RunState C) (turn : IsInTurn HomeAs parts t i me) → me.1 ≡ (0, now) ∷ rest me.1 → HomeAs parts now turn.posted
  posted_at_home t i me now turn is = subst (λ (h : RunState C). HomeAs parts h turn.posted) (ap (λ (l : List (ℕ × RunState C)). home_in l turn.home) (sym turn.slots ∙ is)) turn.holds

  pub posted_len : (t i : ℕ) (me : Mine) (turn : IsInTurn HomeAs parts t i me) → length turn.posted ≡ t
  posted_len t i me turn = sym (length-map turn.posted ticket_of) ∙ ap length turn.awaits.in_order ∙ length-range_with_len 0 t

  pub carried_now : (t i : ℕ) (me : Mine) (y : RunState C) → IsInTurn HomeAs parts t i me → (0, y) ∷ rest me.1 ≡ (0, y) ∷ []
  carried_now t i me y turn = ap (λ (l : List (ℕ × RunState C)). (0, y) ∷ rest l) turn.slots

  pub begun_turn : (t i : ℕ) (before after : Mine) (v : PassView) → before ≡ (with_turn v (waiting t i), []) → v.parts ≡ Some parts → 0 < v.own.weight → BeginsTurn HomeAs parts t i before after → IsInTurn HomeAs parts t i after
  begun_turn t i before after v was is weighs b = let fixed : after.0.parts ≡ v.parts = ap (λ (u : PassView). u.parts) b.view ∙ ap (λ (m : Mine). m.0.parts) was in
      let weight : after.0.own.weight ≡ v.own.weight = ap (λ (u : PassView). u.own.weight) b.view ∙ ap (λ (m : Mine). m.0.own.weight) was in
      let carried : after.1 ≡ (0, b.home) ∷ [] = b.slots ∙ ap (λ (m : Mine). (0, b.home) ∷ m.1) was in
      record {
        fixed = fixed ∙ is;
        weighs = omega arith;
        home = b.home;
        posted = b.posted;
        turn = ap (λ (u : PassView). u.turn) b.view;
        slots = carried;
        holds = b.holds;
        awaits = b.awaits;
      }

  -- once all is drawn and posted, the posts are the ids of the list, each once
  pub complete : (drawn : ℕ) (y : RunState C) (v : PassView) (k : IsRunComplete HomeAs parts drawn y v) → v.own.ended ≡ true → HasPostedAll parts v → IsPermutation (ids_of k.posted) parts.todo
  complete drawn y v k is_ended all =
      let todo = parts.todo in
      let limit = length todo in
      let past = k.sole.ended is_ended in
      let m : min drawn limit ≡ limit = omega arith in
      let claims : IsPermutation v.own.claims (range_with_len 0 limit) = permutation_below limit v.own.claims (λ x. k.sole.claims x ∙ ap (once_below x) m) in
      permutation_from_times (ids_of k.posted) todo (λ x. omega (
        arith,
        sum_mapped (one x) posted_id k.posted,
        k.own_posts (λ e. one x (posted_id e)),
        sum_mapped (one x) posted_id v.entries,
        all x,
        sum_by-IsPermutation (one x) _ _ (IsPermutation-map (λ (q : ℕ). get_or todo q 0) v.own.claims (range_with_len 0 limit) claims),
        times-first x todo limit (omega arith),
        ap (times x) (take_all limit todo (omega arith)),
      ))
