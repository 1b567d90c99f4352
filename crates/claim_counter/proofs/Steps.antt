-- Each step of a counter keeps its rule.
use Rattle.std.proofs.Common.{◌≡◌, ℕ, ◌+◌, ◌%◌, ◌^◌, ◌<◌, ◌≤◌, min, false, true, List, [], ◌∷◌, ◌++◌, map, get_or, set, sym, refl, ap, ◌∙◌, subst, arith, ⊎_elim, lt_of_not-le, length-set, get_or-set_same}
use mathlib.Core.Logic.{dite}
use mathlib.Core.Option.{none, some, some-injective, some-ne-none}
use mathlib.Core.List.{map-append}
use native.Mathlib.Decide.{dec_le}
use lib.ListN.{get_elem?}
use lib.Seq.{map-set}
use Rattle.atomic_table.specs.Table.{State, Me, step, keeps, stepped, Allows, Splits, Joins, Final, Seen}
use Rattle.atomic_table.proofs.Lists.{at_set, at_snoc, set_again, at_map}
use Rattle.claim_counter.specs.declared.record.PassRecord.{PassRecord}
use Rattle.claim_counter.specs.declared.record.View.{View}
use Rattle.claim_counter.specs.declared.record.Size.{Size}
use Rattle.claim_counter.specs.Records.{AreCounted, IsSole, with_claim, at_end, with_less_spare, fresh, spent, AreDifferentBelow, AreAllBelow}
use Rattle.claim_counter.specs.Views.{HasAllSeats, view, record_of, IsCounterState, DrawsNumber, LooksAtCount, split_view, new_view, both_view, gone_view}
use Rattle.claim_counter.proofs.Keeping.{claim_keeps, claim_is_new, end_keeps, split_keeps, join_keeps, count_bounded, share_bounded, claims_bounded, sole_pass}
use Rattle.audit_model.specs.Times.{once_below}
use Rattle.audit_model.proofs.Times.{permutation_below, apart_push, length-apart}

abbrev Mine : Type 0
Mine = Me (Unit {0}) View

abbrev St : Type 0
St = State (Unit {0}) View

abbrev Sized : Size → List View → Type 0
Sized size vs = (i : ℕ) (v : View) → get_elem? vs i ≡ some v → 0 < v.own.weight → v.size ≡ size

-- all passes know the size after one of them changed
sized_set : (size : Size) (vs : List View) (i : ℕ) (w : View) → Sized size vs → (0 < w.own.weight → w.size ≡ size) → Sized size (set vs i w)
sized_set size vs i w all here j v e = ⊎_elim (λ t. subst (λ (u : View). 0 < u.own.weight → u.size ≡ size) t.1 here) (λ t. all j v t.1) (at_set vs i j w v e)

-- all passes know the size after one was added
sized_push : (size : Size) (vs : List View) (w : View) → Sized size vs → (0 < w.own.weight → w.size ≡ size) → Sized size (vs ++ w ∷ [])
sized_push size vs w all here j v e = ⊎_elim (λ t. all j v t) (λ t. subst (λ (u : View). 0 < u.own.weight → u.size ≡ size) t here) (at_snoc vs w v j e)

abbrev Counted : Size → ℕ → List PassRecord → Type 0
Counted size n ps = AreCounted size.limit size.seats n ps

-- the rule of the table after a step of one pass
placed : (size : Size) (s : St) → IsCounterState size s → (n id : ℕ) (me : Mine) (w : View) → w.size ≡ size → Counted size n (set (map record_of s.views) id w.own) → IsCounterState size (stepped s 0 n id me.1 w keeps)
placed size s k n id me w is c = let wide = k.one_word in record {
  one_word = length-set s.words 0 n ∙ wide;
  counted = subst (λ (z : ℕ × List PassRecord). Counted size z.0 z.1) (λ i. (sym (get_or-set_same s.words 0 n 0 (omega arith)) i, sym (map-set record_of s.views id w) i)) c;
  sizes = sized_set size s.views id w k.sizes (λ _. is);
}

-- the only pass has drawn all numbers if none is left
pub drawn_all : (limit word : ℕ) (p : PassRecord) → IsSole limit word p → limit ≤ word → AreAllBelow limit p.claims
drawn_all limit word p sole past = let m : min word limit ≡ limit = omega arith in permutation_below limit p.claims (λ x. sole.claims x ∙ ap (once_below x) m)

-- the only pass has drawn the first numbers, each once
pub drawn_below : (limit word : ℕ) (p : PassRecord) → IsSole limit word p → AreAllBelow (min word limit) p.claims
drawn_below limit word p sole = permutation_below (min word limit) p.claims sole.claims

-- the effect of a draw, which keeps the rule
pub draws : (size : Size) (slots id : ℕ) (me : Mine) → size.limit ≤ 100000 → size.seats ≤ 33 → me.0.size ≡ size → me.0.own.ended ≡ false → 0 < me.0.own.weight
    → Allows (IsCounterState size) slots id me 0 (λ n. (n + 1) % 2 ^ 64) (DrawsNumber (step slots 0 1 0 none) me)
draws size slots id me few few_seats is going live s k _ at _ =
    let n : ℕ = get_or s.words 0 0 in let ps = map record_of s.views in let p = me.0.own in let at' = at_map record_of s.views id me.0 at in
    let bound = count_bounded size.limit size.seats n ps k.counted in
    let fits : n + 1 ≡ (n + 1) % 18446744073709551616 = omega arith in
    let apart : AreDifferentBelow me.0.size.limit p.claims = subst (λ (z : Size). AreDifferentBelow z.limit p.claims) (sym is) (claims_bounded size.limit size.seats n ps id p k.counted at') in
    let same_limit : me.0.size.limit ≡ size.limit = ap (λ (z : Size). z.limit) is in
    dite (dec_le size.limit n)
    (λ past. let w = view me.0.size (at_end p) in (
      w,
      keeps,
      tt,
      subst (λ (z : ℕ). IsCounterState size (stepped s 0 z id me.1 w keeps)) fits (placed size s k (n + 1) id me w is (end_keeps size.limit size.seats n ps id p k.counted at' live going past)),
      record {
        slots = refl;
        size = refl;
        number = λ below. absurd (omega arith);
        ends = λ _. refl;
        different = apart;
        few = length-apart me.0.size.limit p.claims apart;
        all = λ _ only. subst (λ (z : Size). HasAllSeats z.seats p → AreAllBelow z.limit p.claims) (sym is) (λ only. drawn_all size.limit n p (sole_pass size.limit size.seats n ps id p k.counted at' live only) past) only;
      },
    ))
    (λ not_past. let below : n < size.limit = lt_of_not-le not_past in let w = view me.0.size (with_claim n p) in let new = claim_is_new size.limit size.seats n ps id p k.counted at' below in
    let apart_after = apart_push me.0.size.limit n p.claims apart (omega arith) new in (
      w,
      keeps,
      tt,
      subst (λ (z : ℕ). IsCounterState size (stepped s 0 z id me.1 w keeps)) fits (placed size s k (n + 1) id me w is (claim_keeps size.limit size.seats n ps id p k.counted at' live below)),
      record {
        slots = refl;
        size = refl;
        number = λ _. (refl, new);
        ends = λ past. absurd (omega arith);
        different = apart_after;
        few = length-apart me.0.size.limit (p.claims ++ n ∷ []) apart_after;
        all = λ past _. absurd (omega arith);
      },
    ))

-- the knowledge that a look gives
pub looks : (size : Size) (slots id : ℕ) (me : Mine) → me.0.size ≡ size → 0 < me.0.own.weight → Allows (IsCounterState size) slots id me 0 (λ n. n) (LooksAtCount (step slots 0 0 0 none) me)
looks size slots id me is live s k _ at _ =
    let n : ℕ = get_or s.words 0 0 in let ps = map record_of s.views in let p = me.0.own in let at' = at_map record_of s.views id me.0 at in (
      me.0,
      keeps,
      tt,
      placed size s k n id me me.0 is (subst (Counted size n) (sym (set_again ps id p at')) k.counted),
      record {
        same = refl;
        seats = subst (λ (z : Size). p.weight + p.spare ≤ z.seats) (sym is) (share_bounded size.limit size.seats n ps id p k.counted at');
        different = subst (λ (z : Size). AreDifferentBelow z.limit p.claims) (sym is) (claims_bounded size.limit size.seats n ps id p k.counted at');
        all = subst (λ (z : Size). HasAllSeats z.seats p → p.ended ≡ true → AreAllBelow z.limit p.claims) (sym is)
            (λ only ended. let sole = sole_pass size.limit size.seats n ps id p k.counted at' live only in drawn_all size.limit n p sole (sole.ended ended));
      },
    )

-- a split keeps the rule of the table
pub splits : (size : Size) (id : ℕ) (v : View) → v.size ≡ size → 0 < v.own.weight → 0 < v.own.spare → Splits (IsCounterState size) id v (split_view v) (new_view v)
splits size id v is live some_spare s k at =
    let n : ℕ = get_or s.words 0 0 in let ps = map record_of s.views in let at' = at_map record_of s.views id v at in let vs = set s.views id (split_view v) in
    let all_own : set ps id (with_less_spare v.own) ++ fresh 0 ∷ [] ≡ map record_of (vs ++ new_view v ∷ []) =
    sym (map-append record_of vs (new_view v ∷ []) ∙ ap (λ (l : List PassRecord). l ++ fresh 0 ∷ []) (map-set record_of s.views id (split_view v))) in
    record {
      one_word = k.one_word;
      counted = subst (Counted size n) all_own (split_keeps size.limit size.seats n ps id v.own k.counted at' live some_spare);
      sizes = sized_push size vs (new_view v) (sized_set size s.views id (split_view v) k.sizes (λ _. is)) (λ _. is);
    }

-- a join keeps the rule of the table
pub joins : (size : Size) (id : ℕ) (v : View) (other : ℕ) (w : View) → v.size ≡ size → 0 < v.own.weight → 0 < w.own.weight → Joins (IsCounterState size) id v other w (both_view v w) gone_view
joins size id v other w is live live' s k at apart at_other =
    let n : ℕ = get_or s.words 0 0 in let ps = map record_of s.views in let both = both_view v w in let vs = set s.views id both in
    let first_set : map record_of vs ≡ set ps id both.own = map-set record_of s.views id both in
    let all_own : set (set ps id both.own) other spent ≡ map record_of (set vs other gone_view) =
    sym (map-set record_of vs other gone_view ∙ ap (λ (l : List PassRecord). set l other spent) first_set) in
    let at_other' = subst (λ (l : List PassRecord). get_elem? l other ≡ some w.own) first_set (at_map record_of vs other w at_other) in
    record {
      one_word = k.one_word;
      counted = subst (Counted size n) all_own (join_keeps size.limit size.seats n ps id v.own other w.own k.counted (at_map record_of s.views id v at) apart at_other' live live');
      sizes = sized_set size vs other gone_view (sized_set size s.views id both k.sizes (λ _. is)) (λ none. absurd (omega arith));
    }

-- the first word of the table is the word read
first_of_word : (ws : List ℕ) (word : ℕ) → get_elem? ws 0 ≡ some word → get_or ws 0 0 ≡ word
first_of_word [] word e = absurd (some-ne-none word (sym e))
first_of_word (x ∷ xs) word e = some-injective x word e

-- the knowledge of the only pass after the table is closed
pub closes : (size : Size) (id : ℕ) (v : View) (ws : List ℕ) (xs : List (Unit {0})) (word : ℕ) → Final (Seen (IsCounterState size) id v) ws xs → get_elem? ws 0 ≡ some word → 0 < v.own.weight
    → v.own.weight + v.own.spare ≡ size.seats → IsSole size.limit word v.own
closes size id v ws xs word final at_word live all = let s = final.0 in let k = final.1.0 in let at = final.1.1 in let ps = map record_of s.views in
    let is : get_or s.words 0 0 ≡ word = ap (λ (l : List ℕ). get_or l 0 0) final.2 ∙ first_of_word ws word at_word in
    subst (λ (n : ℕ). IsSole size.limit n v.own) is (sole_pass size.limit size.seats (get_or s.words 0 0) ps id v.own k.counted (at_map record_of s.views id v at) live all)
