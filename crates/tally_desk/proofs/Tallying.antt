-- Each kind of step keeps the rule of a desk, over plain lists of words, views and posts, for any contents of the slot.
use Rattle.std.proofs.Common.{◌≡◌, ◌≢◌, ℕ, zero, suc, ◌+◌, ◌<◌, ◌≤◌, min, Bool, true, false, List, [], ◌∷◌, ◌++◌, map, set, get_or, length, length-append, sym, refl, ap, ◌∙◌, subst, inl, inr, ⊎_elim, arith, Some, append-nil}
use mathlib.Core.Option as maybe
use lib.ListN.{get_elem?}
use lib.Seq.{map-set}
use mathlib.Core.List.{map-append}
use Rattle.std.specs.List.{sum_by, range_with_len}
use Rattle.std.proofs.lemmas.List.{length-map}
use Rattle.std.proofs.lemmas.List.Elements.{All-push}
use Rattle.std.proofs.lemmas.List.FromFn.{length-range_with_len}
use Rattle.std.proofs.lemmas.List.Sums.{sum_by_push, sum_by-append}
use Rattle.atomic_table.proofs.Lists.{at_set, at_snoc, set_again, at_map, set_else}
use Rattle.claim_counter.specs.declared.record.PassRecord.{PassRecord}
use Rattle.claim_counter.specs.Records.{AreCounted, with_claim, at_end, with_less_spare, fresh, spent}
use Rattle.claim_counter.specs.RecordLaws.{Has}
use Rattle.tally_desk.specs.declared.entry.Entry.{Entry}
use Rattle.tally_desk.specs.declared.state.RunState.{RunState}
use Rattle.tally_desk.specs.Counter.{CounterLaws}
use Rattle.tally_desk.specs.Desks.{AwaitsPost, CanPost, FitsDesk, IsInUse, KeepsTally, KnowsPosts, entry_sum, holding, ids_at, claimed_ids, is_in_turn, joined_view, left_view, own_of, posting, right_view, turn_count, waiting_at, with_entry, with_own, with_turn}
use Rattle.tally_desk.specs.Entries.{post_of, posted_id, ids_of, is_due, ticket_of}
use Rattle.tally_desk.specs.Parts.{Parts}
use Rattle.tally_desk.specs.Views.{PassView, Turn, no_turn, waiting, in_turn, turn_tickets, turn_ids, spent_view}
use Rattle.tally_desk.proofs.Bounds.{range_push, sum_same, sum_lt, sum_both, sum_ones, sum_mapped, claim_count, claimed_of_todo}
use Rattle.tally_desk.proofs.Todo.{todo_once}
use Rattle.audit_model.specs.Times.{times, once_below}
use Rattle.audit_model.proofs.Times.{sum_set, sum_at, sum_le, times-cons, times-append, times_push, one, one_more_id, one_same, length-apart, length-le, below_from_once}

-- a turn has one ticket for each id
one_ticket : (t : Turn) → length (turn_tickets t) ≡ length (turn_ids t)
one_ticket no_turn = refl
one_ticket (waiting t i) = refl
one_ticket (in_turn t i l) = refl

-- the new ticket is the next number
once_more : (x n : ℕ) → once_below x n + one x n ≡ once_below x (n + 1)
once_more x n = grind arith

-- no number occurs twice in a range
once_at_most : (x n : ℕ) → once_below x n ≤ 1
once_at_most x n = grind arith

-- a list has the new value at the place that was set
pub set_here_at : {A : Type 0} (xs : List A) (i : ℕ) (v w : A) → get_elem? xs i ≡ maybe.some v → get_elem? (set xs i w) i ≡ maybe.some w
set_here_at [] i v w e = absurd (maybe.some-ne-none v (sym e))
set_here_at (x ∷ xs) zero v w e = refl
set_here_at (x ∷ xs) (suc i) v w e = set_here_at xs i v w e

-- each pass fits the desk after one of them changed
each_set : (parts : Parts) (served : ℕ) (posted : List Entry) (vs : List PassView) (i : ℕ) (w : PassView)
    → ((j : ℕ) (v : PassView) → get_elem? vs j ≡ maybe.some v → FitsDesk parts served posted v) → FitsDesk parts served posted w
    → (j : ℕ) (v : PassView) → get_elem? (set vs i w) j ≡ maybe.some v → FitsDesk parts served posted v
each_set parts served posted vs i w all here j v e = ⊎_elim (λ t. subst (FitsDesk parts served posted) t.1 here) (λ t. all j v t.1) (at_set vs i j w v e)

-- each pass fits the desk after one was added
each_push : (parts : Parts) (served : ℕ) (posted : List Entry) (vs : List PassView) (w : PassView)
    → ((j : ℕ) (v : PassView) → get_elem? vs j ≡ maybe.some v → FitsDesk parts served posted v) → FitsDesk parts served posted w
    → (j : ℕ) (v : PassView) → get_elem? (vs ++ w ∷ []) j ≡ maybe.some v → FitsDesk parts served posted v
each_push parts served posted vs w all here j v e = ⊎_elim (λ t. all j v t) (λ t. subst (FitsDesk parts served posted) t here) (at_snoc vs w v j e)

-- the counter's records are unchanged if a pass changes only its other fields
own_same : (vs : List PassView) (i : ℕ) (v w : PassView) → get_elem? vs i ≡ maybe.some v → w.own ≡ v.own → map own_of (set vs i w) ≡ map own_of vs
own_same vs i v w at same = map-set own_of vs i w ∙ ap (set (map own_of vs) i) same ∙ set_again (map own_of vs) i v.own (at_map own_of vs i v at)

-- no pass posts more ids than it claimed
within_claims : (parts : Parts) (served : ℕ) (posted : List Entry) (v : PassView) → FitsDesk parts served posted v → entry_sum (λ _. 1) v + turn_count v ≤ length v.own.claims
within_claims parts served posted v fits = ⊎_elim (λ is. let n : entry_sum (λ _. 1) v + turn_count v ≡ 0 = ap (λ (u : PassView). entry_sum (λ _. 1) u + turn_count u) is in omega arith)
    (λ u. let most = length-le (posting v) (claimed_ids parts v) u.claimed in
    omega (arith, most, length-map v.own.claims (λ (p : ℕ). get_or parts.todo p 0), length-append (ids_of v.entries) (turn_ids v.turn), length-map v.entries posted_id, sum_ones v.entries, one_ticket v.turn)) fits

-- a pass with a positive weight is in use
pub in_use : (parts : Parts) (served : ℕ) (posted : List Entry) (v : PassView) → FitsDesk parts served posted v → 0 < v.own.weight → IsInUse parts served posted v
in_use parts served posted v fits weighs = ⊎_elim (λ is. let none : v.own.weight ≡ 0 = ap (λ (u : PassView). u.own.weight) is in absurd (omega arith)) (λ u. u) fits

-- a pass posts no id more often than it claimed it
posts_within : (parts : Parts) (served : ℕ) (posted : List Entry) (v : PassView) (x : ℕ) → FitsDesk parts served posted v
    → entry_sum (λ e. one x (posted_id e)) v + times x (turn_ids v.turn) ≤ times x (claimed_ids parts v)
posts_within parts served posted v x fits = ⊎_elim
    (λ is. let n : entry_sum (λ e. one x (posted_id e)) v + times x (turn_ids v.turn) ≡ 0 = ap (λ (u : PassView). entry_sum (λ e. one x (posted_id e)) u + times x (turn_ids u.turn)) is in omega arith)
    (λ u. omega (arith, u.claimed x, times-append x (ids_of v.entries) (turn_ids v.turn), sum_mapped (one x) posted_id v.entries)) fits

-- a pass in its turn has the ticket that is served
holder_is_served : (served : ℕ) (posted : List Entry) (x : Turn) → KnowsPosts served posted x → holding x ≤ times served (turn_tickets x)
holder_is_served served posted no_turn knows = omega arith
holder_is_served served posted (waiting t i) knows = omega arith
holder_is_served served posted (in_turn t i l) knows = omega (arith, times-cons served t [], ap (one served) knows.0, one_same served)

-- a pass in its turn waits with the ticket that is served
in_turn_is_served : (parts : Parts) (served : ℕ) (posted : List Entry) (v : PassView) → FitsDesk parts served posted v → is_in_turn v ≤ waiting_at served v
in_turn_is_served parts served posted v fits = ⊎_elim (λ is. let none : is_in_turn v ≡ 0 = ap is_in_turn is in omega arith) (λ u. holder_is_served served posted v.turn u.knows) fits

-- a post adds no knowledge to a pass that is not in its turn
still_fits : (served : ℕ) (posted after : List Entry) (x : Turn) → KnowsPosts served posted x → holding x ≡ 0 → KnowsPosts (served + 1) after x
still_fits served posted after no_turn knows none = tt
still_fits served posted after (waiting t i) knows none = tt
still_fits served posted after (in_turn t i l) knows none = absurd (omega arith)

-- a sum over two passes is at most the sum over all
two_at : (f : PassView → ℕ) → f spent_view ≡ 0 → (vs : List PassView) (i j : ℕ) (v u : PassView) → get_elem? vs i ≡ maybe.some v → get_elem? vs j ≡ maybe.some u → j ≢ i → f v + f u ≤ sum_by f vs
two_at f none vs i j v u at at' apart = omega (arith, sum_set f vs i v spent_view at, sum_at f (set vs i spent_view) j u (set_else vs i j spent_view apart ∙ at'), none)

-- without a ticket, a pass is posting only its posts
posting_idle : (v : PassView) → v.turn ≡ no_turn → posting v ≡ ids_of v.entries
posting_idle v idle = ap (λ (x : Turn). ids_of v.entries ++ turn_ids x) idle ∙ append-nil (ids_of v.entries)

module _ {C : Type 0} (HomeAs : Parts → RunState C → List Entry → Type 0) (parts : Parts) (a b c : ℕ) (posted : List Entry) (homes : List (maybe.Option (RunState C))) (vs : List PassView)
    (t : KeepsTally HomeAs parts a b c posted homes vs) where
  pub tickets_bounded : b ≤ length parts.todo
  tickets_bounded =
      let all_posts = t.posts (λ _. 1) in
      let each = sum_le (λ v. entry_sum (λ _. 1) v + turn_count v) (λ (v : PassView). length v.own.claims) vs (λ i v at. within_claims parts c posted v (t.each i v at)) in
      let limit = claim_count (length parts.todo) parts.seats a (map own_of vs) t.counted in
      omega (
        arith,
        all_posts,
        each,
        limit,
        t.turns,
        sum_ones posted,
        sum_both (entry_sum (λ _. 1)) turn_count vs,
        sum_mapped (λ (p : PassRecord). length p.claims) own_of vs,
        ap length t.in_order,
        length-map posted ticket_of,
        length-range_with_len 0 c,
      )

  -- the number of times an id occurs among all posts
  posted_times : (x : ℕ) → times x (ids_of posted) ≡ sum_by (entry_sum (λ e. one x (posted_id e))) vs
  posted_times x = sum_mapped (one x) posted_id posted ∙ sym (t.posts (λ e. one x (posted_id e)))

  all_claimed : (x : ℕ) → sum_by (λ v. times x (claimed_ids parts v)) vs ≤ times x parts.todo
  all_claimed x = omega (arith, claimed_of_todo parts.todo parts.seats a (map own_of vs) t.counted x, sum_mapped (λ (p : PassRecord). times x (ids_at parts.todo p.claims)) own_of vs)

  module _ (id : ℕ) (v : PassView) (at : get_elem? vs id ≡ maybe.some v) where
    -- a claimed id is an id to do
    claimed_to_do : (x : ℕ) → times x (claimed_ids parts v) ≤ times x parts.todo
    claimed_to_do x = omega (arith, all_claimed x, sum_at (λ (z : PassView). times x (claimed_ids parts z)) vs id v at)

    pub ticketed : (o : ℕ) → CanPost parts v o → KeepsTally HomeAs parts a (b + 1) c posted homes (set vs id (with_turn v (waiting b o)))
    ticketed o can =
        let w = with_turn v (waiting b o) in
        let u = in_use parts c posted v (t.each id v at) can.weighs in
        let within : (i : ℕ) → times i (ids_of v.entries) ≤ times i (claimed_ids parts v) = λ i. subst (λ (l : List ℕ). times i l ≤ times i (claimed_ids parts v)) (posting_idle v can.idle) (u.claimed i) in
        record {
          plan = t.plan;
          counted = subst (AreCounted (length parts.todo) parts.seats a) (sym (own_same vs id v w at refl)) t.counted;
          in_order = t.in_order;
          posts = λ h. sum_same (entry_sum h) vs id v w at refl ∙ t.posts h;
          due = t.due;
          within = let le = t.within in omega arith;
          tickets = λ x. let none_before : waiting_at x v ≡ 0 = ap (λ (y : Turn). times x (turn_tickets y)) can.idle in
              omega (arith, sum_set (waiting_at x) vs id v w at, times-cons x b [], t.tickets x, none_before, once_more x b);
          turns = let none_before : turn_count v ≡ 0 = ap (λ (y : Turn). length (turn_tickets y)) can.idle in omega (arith, sum_set turn_count vs id v w at, t.turns, none_before);
          each = each_set parts c posted vs id w t.each
              (inr (record { fixed = can.fixed; weighs = can.weighs; claimed = one_more_id (ids_of v.entries) (claimed_ids parts v) o within can.unposted can.claimed; knows = tt }));
          home = λ none. t.home (sym (sum_same is_in_turn vs id v w at (ap holding can.idle)) ∙ none);
        }

    -- while a pass waits for the served ticket, no pass is in its turn
    pub none_in_turn : (i : ℕ) → v.turn ≡ waiting c i → sum_by is_in_turn vs ≡ 0
    none_in_turn i turn =
        let idle : is_in_turn v ≡ 0 = ap holding turn in
        let waits : waiting_at c v ≡ one c c + 0 = ap (λ (x : Turn). times c (turn_tickets x)) turn ∙ times-cons c c [] in
        let less = sum_lt is_in_turn (waiting_at c) vs id v (λ j u e. in_turn_is_served parts c posted u (t.each j u e)) at (omega (arith, idle, waits, one_same c)) in
        omega (arith, less, t.tickets c, once_at_most c b)

    pub begun : (i : ℕ) → v.parts ≡ Some parts → 0 < v.own.weight → v.turn ≡ waiting c i → KeepsTally HomeAs parts a b c posted (set homes 0 maybe.none) (set vs id (with_turn v (in_turn c i posted)))
    begun i is weighs turn =
        let w = with_turn v (in_turn c i posted) in
        let u = in_use parts c posted v (t.each id v at) weighs in
        let same_ids : turn_ids v.turn ≡ turn_ids w.turn = ap turn_ids turn in
        record {
          plan = t.plan;
          counted = subst (AreCounted (length parts.todo) parts.seats a) (sym (own_same vs id v w at refl)) t.counted;
          in_order = t.in_order;
          posts = λ f. sum_same (entry_sum f) vs id v w at refl ∙ t.posts f;
          due = t.due;
          within = t.within;
          tickets = λ x. ap (λ (z : ℕ). z + once_below x c) (sum_same (waiting_at x) vs id v w at (ap (λ (y : Turn). times x (turn_tickets y)) turn)) ∙ t.tickets x;
          turns = ap (λ (z : ℕ). c + z) (sum_same turn_count vs id v w at (ap (λ (y : Turn). length (turn_tickets y)) turn)) ∙ t.turns;
          each = each_set parts c posted vs id w t.each
              (inr (record { fixed = is; weighs = weighs; claimed = λ x. subst (λ (l : List ℕ). times x (ids_of v.entries ++ l) ≤ times x (claimed_ids parts v)) same_ids (u.claimed x); knows = (refl, refl) }));
          home = λ none. let before : is_in_turn v ≡ 0 = ap holding turn in absurd (omega (arith, sum_set is_in_turn vs id v w at, none, before));
        }

    -- a pass with a ticket may post its id
    pub awaits : (i : ℕ) → 0 < v.own.weight → turn_ids v.turn ≡ i ∷ [] → AwaitsPost parts c i posted
    awaits i weighs turn =
        let u = in_use parts c posted v (t.each id v at) weighs in
        let here : times i (turn_ids v.turn) ≡ 1 = ap (times i) turn ∙ times-cons i i [] ∙ ap (λ (z : ℕ). z + 0) (one_same i) in
        let own_post = posts_within parts c posted v i (inr u) in
        let unposted = sum_lt (entry_sum (λ e. one i (posted_id e))) (λ (z : PassView). times i (claimed_ids parts z)) vs id v
        (λ j z e. let r = posts_within parts c posted z i (t.each j z e) in omega arith) at (omega (arith, own_post, here)) in
        record {
          plan = t.plan;
          in_order = t.in_order;
          of_todo = λ x. omega (
            arith,
            posted_times x,
            all_claimed x,
            sum_le (entry_sum (λ e. one x (posted_id e))) (λ (z : PassView). times x (claimed_ids parts z)) vs (λ j z e. let r = posts_within parts c posted z x (t.each j z e) in omega arith),
          );
          due = t.due;
          to_do = omega (arith, own_post, here, claimed_to_do i);
          unposted = omega (arith, posted_times i, all_claimed i, unposted, todo_once parts t.plan i);
        }

    -- a pass has at most one claim for each place
    pub claims_few : length v.own.claims ≤ length parts.todo
    claims_few = length-apart (length parts.todo) v.own.claims
        (λ x. let more : once_below x (min a (length parts.todo)) ≤ once_below x (length parts.todo) = grind arith in
        omega (arith, more, t.counted.claims x, sum_at (λ (p : PassRecord). times x p.claims) (map own_of vs) id v.own (at_map own_of vs id v at)))

    -- a claimed place was drawn
    pub place_drawn : (place : ℕ) → 0 < times place v.own.claims → place < min a (length parts.todo)
    place_drawn place has_it = below_from_once place (min a (length parts.todo))
        (omega (arith, has_it, t.counted.claims place, sum_at (λ (p : PassRecord). times place p.claims) (map own_of vs) id v.own (at_map own_of vs id v at)))

    pub served : (i : ℕ) (l : List Entry) (y : RunState C) (saved : Bool) → v.parts ≡ Some parts → 0 < v.own.weight → v.turn ≡ in_turn c i l → l ≡ posted
        → HomeAs parts y (posted ++ post_of c i saved ∷ []) → (saved ≡ true → is_due parts.save_every (post_of c i saved) ≡ true)
        → KeepsTally HomeAs parts a b (c + 1) (posted ++ post_of c i saved ∷ []) (maybe.some y ∷ []) (set vs id (with_entry v (post_of c i saved)))
    served i l y saved is weighs turn knows holds due =
        let e = post_of c i saved in
        let w = with_entry v e in
        let u = in_use parts c posted v (t.each id v at) weighs in
        let waits_here : waiting_at c v ≡ 1 = ap (λ (z : Turn). times c (turn_tickets z)) turn ∙ times-cons c c [] ∙ ap (λ (z : ℕ). z + 0) (one_same c) in
        let given_out = below_from_once c b (omega (arith, t.tickets c, sum_at (waiting_at c) vs id v at, waits_here)) in
        let others : (j : ℕ) (z : PassView) → get_elem? vs j ≡ maybe.some z → j ≢ id → is_in_turn z ≡ 0 = λ j z e' apart.
        omega (arith, in_turn_is_served parts c posted z (t.each j z e'), two_at (waiting_at c) refl vs id j v z at e' apart, t.tickets c, once_at_most c b, waits_here) in
        let ids_same : ids_of v.entries ++ turn_ids v.turn ≡ posting w = ap (λ (z : Turn). ids_of v.entries ++ turn_ids z) turn ∙ sym (append-nil (ids_of (v.entries ++ e ∷ [])) ∙ map-append posted_id v.entries (e ∷ [])) in
        record {
          plan = t.plan;
          counted = subst (AreCounted (length parts.todo) parts.seats a) (sym (own_same vs id v w at refl)) t.counted;
          in_order = map-append ticket_of posted (e ∷ []) ∙ ap (λ (q : List ℕ). q ++ c ∷ []) t.in_order ∙ ap (λ (k : ℕ). range_with_len 0 c ++ k ∷ []) (let same : c ≡ 0 + c = omega arith in same)
              ∙ sym (range_push 0 c) ∙ ap (range_with_len 0) (let one_more : suc c ≡ c + 1 = omega arith in one_more);
          posts = λ f. omega (arith, sum_set (entry_sum f) vs id v w at, t.posts f, sum_by_push f v.entries e, sum_by_push f posted e);
          due = All-push (λ (x : Entry). x.saved ≡ true → is_due parts.save_every x ≡ true) posted e t.due due;
          within = omega arith;
          tickets = λ x. let was : waiting_at x v ≡ one x c + 0 = ap (λ (z : Turn). times x (turn_tickets z)) turn ∙ times-cons x c [] in
              omega (arith, sum_set (waiting_at x) vs id v w at, was, t.tickets x, once_more x c);
          turns = let was : turn_count v ≡ 1 = ap (λ (z : Turn). length (turn_tickets z)) turn in omega (arith, sum_set turn_count vs id v w at, was, t.turns);
          each = λ j z e'. ⊎_elim
              (λ here. subst (FitsDesk parts (c + 1) (posted ++ e ∷ [])) here.1
              (inr (record { fixed = is; weighs = weighs; claimed = λ x. subst (λ (q : List ℕ). times x q ≤ times x (claimed_ids parts v)) ids_same (u.claimed x); knows = tt })))
              (λ there. ⊎_elim (λ gone. inl gone)
              (λ q. inr (record { fixed = q.fixed; weighs = q.weighs; claimed = q.claimed; knows = still_fits c posted (posted ++ e ∷ []) z.turn q.knows (others j z there.1 there.0) })) (t.each j z there.1))
              (at_set vs id j w z e');
          home = λ _. (y, refl, holds);
        }

    -- a step that changes only the draws of a pass keeps the rule
    with_draw : (n : ℕ) (p : PassRecord) → AreCounted (length parts.todo) parts.seats n (set (map own_of vs) id p) → FitsDesk parts c posted (with_own v p)
        → KeepsTally HomeAs parts n b c posted homes (set vs id (with_own v p))
    with_draw n p counted fits = let w = with_own v p in record {
      plan = t.plan;
      counted = subst (AreCounted (length parts.todo) parts.seats n) (sym (map-set own_of vs id w)) counted;
      in_order = t.in_order;
      posts = λ f. sum_same (entry_sum f) vs id v w at refl ∙ t.posts f;
      due = t.due;
      within = t.within;
      tickets = λ x. ap (λ (z : ℕ). z + once_below x c) (sum_same (waiting_at x) vs id v w at refl) ∙ t.tickets x;
      turns = ap (λ (z : ℕ). c + z) (sum_same turn_count vs id v w at refl) ∙ t.turns;
      each = each_set parts c posted vs id w t.each fits;
      home = λ none. t.home (sym (sum_same is_in_turn vs id v w at refl) ∙ none);
    }

    longer_claims : (ids : List ℕ) (n : ℕ) → ((x : ℕ) → times x ids ≤ times x (claimed_ids parts v)) → (x : ℕ) → times x ids ≤ times x (ids_at parts.todo (v.own.claims ++ n ∷ []))
    longer_claims ids n within x = omega (
      arith,
      within x,
      ap (times x) (map-append (λ (p : ℕ). get_or parts.todo p 0) v.own.claims (n ∷ [])),
      times-append x (claimed_ids parts v) (ids_at parts.todo (n ∷ [])),
    )

    module _ (laws : CounterLaws) (is : v.parts ≡ Some parts) (weighs : 0 < v.own.weight) where
      has : Has (length parts.todo) parts.seats a (map own_of vs) id v.own
      has = record { counted = t.counted; at = at_map own_of vs id v at; weighs = weighs }

      pub claimed : a < length parts.todo → KeepsTally HomeAs parts (a + 1) b c posted homes (set vs id (with_own v (with_claim a v.own)))
      claimed below = let u = in_use parts c posted v (t.each id v at) weighs in
          with_draw (a + 1) (with_claim a v.own) (laws.number (length parts.todo) parts.seats a (map own_of vs) id v.own has below).0
          (inr (record { fixed = is; weighs = weighs; claimed = longer_claims (posting v) a u.claimed; knows = u.knows }))

      -- the id of a new place is new, since the ids to do differ
      pub new_id : a < length parts.todo → times (get_or parts.todo a 0) (claimed_ids parts v) ≡ 0
      new_id below =
          let x = get_or parts.todo a 0 in
          let ps = map own_of vs in
          let p = with_claim a v.own in
          let counted = (laws.number (length parts.todo) parts.seats a ps id v.own has below).0 in
          omega (
            arith,
            claimed_of_todo parts.todo parts.seats (a + 1) (set ps id p) counted x,
            todo_once parts t.plan x,
            sum_at (λ (q : PassRecord). times x (ids_at parts.todo q.claims)) (set ps id p) id p (set_here_at ps id v.own p (at_map own_of vs id v at)),
            ap (times x) (map-append (λ (q : ℕ). get_or parts.todo q 0) v.own.claims (a ∷ [])),
            times_push x (claimed_ids parts v) x,
            one_same x,
          )

      -- the id of a new place is not posted yet
      pub new_unposted : a < length parts.todo → times (get_or parts.todo a 0) (ids_of posted) ≡ 0
      new_unposted below =
          let x = get_or parts.todo a 0 in
          let ps = map own_of vs in
          let p = with_claim a v.own in
          let f : PassRecord → ℕ = λ q. times x (ids_at parts.todo q.claims) in
          let counted = (laws.number (length parts.todo) parts.seats a ps id v.own has below).0 in
          let one_more : f p ≡ f v.own + 1 = ap (times x) (map-append (λ (q : ℕ). get_or parts.todo q 0) v.own.claims (a ∷ [])) ∙ times_push x (claimed_ids parts v) x ∙ ap (λ (z : ℕ). f v.own + z) (one_same x) in
          omega (
            arith,
            claimed_of_todo parts.todo parts.seats (a + 1) (set ps id p) counted x,
            todo_once parts t.plan x,
            sum_set f ps id v.own p (at_map own_of vs id v at),
            one_more,
            sum_mapped f own_of vs,
            posted_times x,
            sum_le (entry_sum (λ e. one x (posted_id e))) (λ (z : PassView). times x (claimed_ids parts z)) vs (λ j z e. let r = posts_within parts c posted z x (t.each j z e) in omega arith),
          )

      pub ended : v.own.ended ≡ false → length parts.todo ≤ a → KeepsTally HomeAs parts (a + 1) b c posted homes (set vs id (with_own v (at_end v.own)))
      ended going past = let u = in_use parts c posted v (t.each id v at) weighs in
          with_draw (a + 1) (at_end v.own) (laws.past_end (length parts.todo) parts.seats a (map own_of vs) id v.own has going past)
          (inr (record { fixed = is; weighs = weighs; claimed = u.claimed; knows = u.knows }))

      pub parted : 0 < v.own.spare → KeepsTally HomeAs parts a b c posted homes (set vs id (left_view v) ++ right_view v ∷ [])
      parted some_spare =
          let w = left_view v in
          let r = right_view v in
          let u = in_use parts c posted v (t.each id v at) weighs in
          let all_own : set (map own_of vs) id (with_less_spare v.own) ++ fresh 0 ∷ [] ≡ map own_of (set vs id w ++ r ∷ []) =
          sym (map-append own_of (set vs id w) (r ∷ []) ∙ ap (λ (l : List PassRecord). l ++ fresh 0 ∷ []) (map-set own_of vs id w)) in
          let same : (f : PassView → ℕ) → f v ≡ f w → f r ≡ 0 → sum_by f (set vs id w ++ r ∷ []) ≡ sum_by f vs = λ f e none. omega (arith, sum_by_push f (set vs id w) r, sum_same f vs id v w at e, none) in
          record {
            plan = t.plan;
            counted = subst (AreCounted (length parts.todo) parts.seats a) all_own (laws.split (length parts.todo) parts.seats a (map own_of vs) id v.own has some_spare);
            in_order = t.in_order;
            posts = λ f. same (entry_sum f) refl refl ∙ t.posts f;
            due = t.due;
            within = t.within;
            tickets = λ x. ap (λ (z : ℕ). z + once_below x c) (same (waiting_at x) refl refl) ∙ t.tickets x;
            turns = ap (λ (z : ℕ). c + z) (same turn_count refl refl) ∙ t.turns;
            each = each_push parts c posted (set vs id w) r (each_set parts c posted vs id w t.each (inr (record { fixed = is; weighs = weighs; claimed = u.claimed; knows = u.knows })))
                (inr (record { fixed = is; weighs = omega arith; claimed = λ x. omega arith; knows = tt }));
            home = λ none. t.home (sym (same is_in_turn refl refl) ∙ none);
          }

      module _ (other : ℕ) (w : PassView) (apart : ¬ (other ≡ id)) (at_other : get_elem? vs other ≡ maybe.some w) (weighs' : 0 < w.own.weight) (idle : v.turn ≡ no_turn) (idle' : w.turn ≡ no_turn) where
        pub merged : KeepsTally HomeAs parts a b c posted homes (set (set vs id (joined_view v w)) other spent_view)
        merged =
            let both = joined_view v w in
            let ws = set vs id both in
            let u = in_use parts c posted v (t.each id v at) weighs in
            let u' = in_use parts c posted w (t.each other w at_other) weighs' in
            let at_other' : get_elem? ws other ≡ maybe.some w = set_else vs id other both apart ∙ at_other in
            let first_set : map own_of ws ≡ set (map own_of vs) id both.own = map-set own_of vs id both in
            let all_own : set (set (map own_of vs) id both.own) other spent ≡ map own_of (set ws other spent_view) = sym (map-set own_of ws other spent_view ∙ ap (λ (l : List PassRecord). set l other spent) first_set) in
            let same : (f : PassView → ℕ) → f both ≡ f v + f w → f spent_view ≡ 0 → sum_by f (set ws other spent_view) ≡ sum_by f vs =
            λ f e none. omega (arith, sum_set f vs id v both at, sum_set f ws other w spent_view at_other', e, none) in
            let sums : (f : Turn → ℕ) → f no_turn ≡ 0 → f no_turn ≡ f v.turn + f w.turn = λ f none. let x = ap f idle in let y = ap f idle' in omega arith in
            record {
              plan = t.plan;
              counted = subst (AreCounted (length parts.todo) parts.seats a) all_own
                  (laws.join (length parts.todo) parts.seats a (map own_of vs) id v.own other w.own has apart (at_map own_of vs other w at_other) weighs');
              in_order = t.in_order;
              posts = λ f. same (entry_sum f) (sum_by-append f v.entries w.entries) refl ∙ t.posts f;
              due = t.due;
              within = t.within;
              tickets = λ x. ap (λ (z : ℕ). z + once_below x c) (same (waiting_at x) (sums (λ y. times x (turn_tickets y)) refl) refl) ∙ t.tickets x;
              turns = ap (λ (z : ℕ). c + z) (same turn_count (sums (λ y. length (turn_tickets y)) refl) refl) ∙ t.turns;
              each = each_set parts c posted ws other spent_view
                  (each_set parts c posted vs id both t.each (inr (record {
                    fixed = is;
                    weighs = omega arith;
                    claimed = λ x. omega (
                      arith,
                      u.claimed x,
                      u'.claimed x,
                      ap (times x) (posting_idle v idle),
                      ap (times x) (posting_idle w idle'),
                      ap (times x) (append-nil (ids_of (v.entries ++ w.entries)) ∙ map-append posted_id v.entries w.entries),
                      times-append x (ids_of v.entries) (ids_of w.entries),
                      ap (times x) (map-append (λ (p : ℕ). get_or parts.todo p 0) v.own.claims w.own.claims),
                      times-append x (claimed_ids parts v) (claimed_ids parts w),
                    );
                    knows = tt;
                  })))
                  (inl refl);
              home = λ none. t.home (sym (same is_in_turn (sums holding refl) refl) ∙ none);
            }

-- while a post is awaited, there are fewer posts than ids to do
pub posts_few : (parts : Parts) (c i : ℕ) (posted : List Entry) → AwaitsPost parts c i posted → length posted < length parts.todo
posts_few parts c i posted w =
    let most = length-le (ids_of posted ++ i ∷ []) parts.todo (one_more_id (ids_of posted) parts.todo i w.of_todo w.unposted w.to_do) in
    omega (arith, most, length-append (ids_of posted) (i ∷ []), length-map posted posted_id)
