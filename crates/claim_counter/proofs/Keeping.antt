-- Each step keeps the rule over pass records.
use Rattle.std.proofs.Common.{◌≡◌, ℕ, zero, suc, ◌-◌, ◌+◌, ◌<◌, ◌≤◌, ◌&&◌, min, Bool, true, false, List, [], ◌∷◌, ◌++◌, set, sym, refl, ap, ◌∙◌, subst, inl, inr, ⊎_elim, ◌⊎◌, arith}
use Rattle.std.proofs.lemmas.Bool.{true≢false, false≢true}
use mathlib.Core.Option.{some, some-injective, some-ne-none}
use lib.ListN.{get_elem?}
use Rattle.std.specs.List.{sum_by, flat_map}
use Rattle.std.proofs.lemmas.List.Sums.{sum_by_push}
use Rattle.atomic_table.proofs.Lists.{at_set, at_snoc, set_else}
use Rattle.claim_counter.specs.declared.record.PassRecord.{PassRecord}
use Rattle.claim_counter.specs.Records.{fresh, spent, with_claim, at_end, with_less_spare, joined_passes, AreAllBelow, IsLive, AreCounted, IsSole}
use Rattle.audit_model.specs.Times.{times, once_below}
use Rattle.audit_model.proofs.Times.{sum_set, sum_at, sum_le, sum_sole, times-append, times_push, once_below_more, once_below_past, permutation_below, times-flat_map}

abbrev SpentOrLive : PassRecord → Type 0
SpentOrLive p = (p ≡ spent) ⊎ IsLive p

abbrev Each : List PassRecord → Type 0
Each ps = (i : ℕ) (p : PassRecord) → get_elem? ps i ≡ some p → SpentOrLive p

-- each pass is spent or in use after one of them changed
each_set : (ps : List PassRecord) (i : ℕ) (q : PassRecord) → Each ps → SpentOrLive q → Each (set ps i q)
each_set ps i q all here j p e = ⊎_elim (λ t. subst SpentOrLive t.1 here) (λ t. all j p t.1) (at_set ps i j q p e)

-- each pass is spent or in use after one was added
each_push : (ps : List PassRecord) (q : PassRecord) → Each ps → SpentOrLive q → Each (ps ++ q ∷ [])
each_push ps q all here j p e = ⊎_elim (λ t. all j p t) (λ t. subst SpentOrLive t here) (at_snoc ps q p j e)

abbrev weight : PassRecord → ℕ
weight p = p.weight

abbrev past : PassRecord → ℕ
past p = p.past_end

abbrev share : PassRecord → ℕ
share p = p.weight + p.spare

-- a pass with a positive weight is in use
pub live_at : (limit count word : ℕ) (ps : List PassRecord) (i : ℕ) (p : PassRecord) → AreCounted limit count word ps → get_elem? ps i ≡ some p → 0 < p.weight → IsLive p
live_at limit count word ps i p c at some_weight = ⊎_elim (λ is. let none : p.weight ≡ 0 = ap weight is in absurd (omega arith)) (λ l. l) (c.each i p at)

-- a draw below the limit keeps the rule
pub claim_keeps : (limit count word : ℕ) (ps : List PassRecord) (i : ℕ) (p : PassRecord) → AreCounted limit count word ps → get_elem? ps i ≡ some p → 0 < p.weight → word < limit
    → AreCounted limit count (word + 1) (set ps i (with_claim word p))
claim_keeps limit count word ps i p c at some_weight below = let q = with_claim word p in let l = live_at limit count word ps i p c at some_weight in record {
  claims = λ x. let s = sum_set (λ (r : PassRecord). times x r.claims) ps i p q at in omega (arith, s, times_push x p.claims word, c.claims x, once_below_more x word limit below);
  past_end = let s = sum_set past ps i p q at in let is = c.past_end in omega arith;
  each = each_set ps i q c.each (inr (record { weighs = l.weighs; most = l.most; before_end = l.before_end; after_end = l.after_end }));
  seats = let s = sum_set share ps i p q at in let is = c.seats in omega arith;
}

-- a newly drawn number is no pass's claim yet
pub claim_is_new : (limit count word : ℕ) (ps : List PassRecord) (i : ℕ) (p : PassRecord) → AreCounted limit count word ps → get_elem? ps i ≡ some p → word < limit → times word p.claims ≡ 0
claim_is_new limit count word ps i p c at below = let least = sum_at (λ (r : PassRecord). times word r.claims) ps i p at in
    let none = once_below_past word (min word limit) (omega arith) in omega (arith, least, none, c.claims word)

-- a draw past the limit keeps the rule
pub end_keeps : (limit count word : ℕ) (ps : List PassRecord) (i : ℕ) (p : PassRecord) → AreCounted limit count word ps → get_elem? ps i ≡ some p → 0 < p.weight → p.ended ≡ false → limit ≤ word
    → AreCounted limit count (word + 1) (set ps i (at_end p))
end_keeps limit count word ps i p c at some_weight going past_limit = let q = at_end p in let l = live_at limit count word ps i p c at some_weight in let room = l.before_end going in record {
  claims = λ x. let s = sum_set (λ (r : PassRecord). times x r.claims) ps i p q at in let m : min word limit ≡ min (word + 1) limit = omega arith in omega (arith, s, c.claims x, ap (once_below x) m);
  past_end = let s = sum_set past ps i p q at in let is = c.past_end in omega arith;
  each = each_set ps i q c.each (inr (record { weighs = l.weighs; most = omega arith; before_end = λ e. absurd (true≢false e); after_end = λ _. omega arith }));
  seats = let s = sum_set share ps i p q at in let is = c.seats in omega arith;
}

-- a split keeps the rule
pub split_keeps : (limit count word : ℕ) (ps : List PassRecord) (i : ℕ) (p : PassRecord) → AreCounted limit count word ps → get_elem? ps i ≡ some p → 0 < p.weight → 0 < p.spare
    → AreCounted limit count word (set ps i (with_less_spare p) ++ fresh 0 ∷ [])
split_keeps limit count word ps i p c at some_weight some_spare = let q = with_less_spare p in let qs = set ps i q in let l = live_at limit count word ps i p c at some_weight in record {
  claims = λ x. let f : PassRecord → ℕ = λ r. times x r.claims in let s = sum_set f ps i p q at in omega (arith, s, c.claims x, sum_by_push f qs (fresh 0));
  past_end = let s = sum_set past ps i p q at in let is = c.past_end in omega (arith, sum_by_push past qs (fresh 0));
  each = each_push qs (fresh 0) (each_set ps i q c.each (inr (record { weighs = l.weighs; most = l.most; before_end = l.before_end; after_end = l.after_end })))
      (inr (record { weighs = omega arith; most = omega arith; before_end = λ _. omega arith; after_end = λ e. absurd (false≢true e) }));
  seats = let s = sum_set share ps i p q at in let is = c.seats in omega (arith, sum_by_push share qs (fresh 0));
}

-- two passes, one of which has not ended, leave room for a draw past the end
room_left : (a b : Bool) (m w n v : ℕ) → m ≤ w → n ≤ v → (a ≡ false → m < w) → (b ≡ false → n < v) → (a && b) ≡ false → m + n < w + v
room_left false b m w n v le le' going going' e = let r = going refl in omega arith
room_left true false m w n v le le' going going' e = let r = going' refl in omega arith
room_left true true m w n v le le' going going' e = absurd (true≢false e)

-- two passes that have both ended have drawn past the end
both_end : (a b : Bool) (m n : ℕ) → (a ≡ true → 0 < m) → (a && b) ≡ true → 0 < m + n
both_end false b m n after e = absurd (false≢true e)
both_end true b m n after e = let r = after refl in omega arith

-- joining two passes in use gives a pass in use
live_joined : (p q : PassRecord) → IsLive p → IsLive q → IsLive (joined_passes p q)
live_joined p q l k = let lw = l.weighs in let lm = l.most in let km = k.most in record {
  weighs = omega arith;
  most = omega arith;
  before_end = room_left p.ended q.ended p.past_end p.weight q.past_end q.weight lm km l.before_end k.before_end;
  after_end = both_end p.ended q.ended p.past_end q.past_end l.after_end;
}

-- a join keeps the rule
pub join_keeps : (limit count word : ℕ) (ps : List PassRecord) (i : ℕ) (p : PassRecord) (j : ℕ) (q : PassRecord) → AreCounted limit count word ps → get_elem? ps i ≡ some p → ¬ (j ≡ i)
    → get_elem? (set ps i (joined_passes p q)) j ≡ some q → 0 < p.weight → 0 < q.weight
    → AreCounted limit count word (set (set ps i (joined_passes p q)) j spent)
join_keeps limit count word ps i p j q c at other at' some_weight some_weight' = let r = joined_passes p q in let rs = set ps i r in let l = live_at limit count word ps i p c at some_weight in
    let k = live_at limit count word ps j q c (sym (set_else ps i j r other) ∙ at') some_weight' in record {
      claims = λ x. let f : PassRecord → ℕ = λ s. times x s.claims in omega (arith, sum_set f ps i p r at, sum_set f rs j q spent at', times-append x p.claims q.claims, c.claims x);
      past_end = let is = c.past_end in omega (arith, sum_set past ps i p r at, sum_set past rs j q spent at');
      each = each_set rs j spent (each_set ps i r c.each (inr (live_joined p q l k))) (inl refl);
      seats = let is = c.seats in omega (arith, sum_set share ps i p r at, sum_set share rs j q spent at');
    }

-- the draws past the end are at most the number of seats
pub count_bounded : (limit count word : ℕ) (ps : List PassRecord) → AreCounted limit count word ps → word ≤ limit + count
count_bounded limit count word ps c = let is = c.past_end in let shares = c.seats in
    let most = sum_le past share ps (λ i p at. ⊎_elim (λ e. let none : p.past_end ≡ 0 = ap past e in omega arith) (λ l. let m = l.most in omega arith) (c.each i p at)) in omega arith

-- a pass has at most all seats
pub share_bounded : (limit count word : ℕ) (ps : List PassRecord) (i : ℕ) (p : PassRecord) → AreCounted limit count word ps → get_elem? ps i ≡ some p → p.weight + p.spare ≤ count
share_bounded limit count word ps i p c at = let most = sum_at share ps i p at in let is = c.seats in omega arith

-- no pass has a number twice, or one that is not below the limit
pub claims_bounded : (limit count word : ℕ) (ps : List PassRecord) (i : ℕ) (p : PassRecord) → AreCounted limit count word ps → get_elem? ps i ≡ some p → (x : ℕ) → times x p.claims ≤ once_below x limit
claims_bounded limit count word ps i p c at x = let most = sum_at (λ (r : PassRecord). times x r.claims) ps i p at in let more : once_below x (min word limit) ≤ once_below x limit = grind arith in omega (arith, most, c.claims x, more)

-- no number is a claim of two passes
pub claims_differ : (limit count word : ℕ) (ps : List PassRecord) (i : ℕ) (p : PassRecord) (j : ℕ) (q : PassRecord) → AreCounted limit count word ps → ¬ (j ≡ i) → get_elem? ps i ≡ some p
    → get_elem? ps j ≡ some q → (x : ℕ) → times x p.claims + times x q.claims ≤ once_below x limit
claims_differ limit count word ps i p j q c other at at' x = let f : PassRecord → ℕ = λ r. times x r.claims in let rs = set ps i spent in
    let least = sum_at f rs j q (set_else ps i j spent other ∙ at') in let more : once_below x (min word limit) ≤ once_below x limit = grind arith in
    omega (arith, least, sum_set f ps i p spent at, c.claims x, more)

-- a pass with all seats has all drawn numbers
pub sole_pass : (limit count word : ℕ) (ps : List PassRecord) (i : ℕ) (p : PassRecord) → AreCounted limit count word ps → get_elem? ps i ≡ some p → 0 < p.weight → p.weight + p.spare ≡ count → IsSole limit word p
sole_pass limit count word ps i p c at some_weight all =
    let l = live_at limit count word ps i p c at some_weight in
    let has_all : share p ≡ sum_by share ps = all ∙ sym c.seats in
    let zeros : (f : PassRecord → ℕ) → f spent ≡ 0 → (j : ℕ) (r : PassRecord) → get_elem? ps j ≡ some r → share r ≡ 0 → f r ≡ 0 =
    λ f none j r e no_share. ⊎_elim (λ is. ap f is ∙ none) (λ k. let w = k.weighs in absurd (omega arith)) (c.each j r e) in
    let past_is = sum_sole past share ps i p (zeros past refl) at has_all in
    record {
      claims = λ x. let f : PassRecord → ℕ = λ r. times x r.claims in sym (sum_sole f share ps i p (zeros f refl) at has_all) ∙ c.claims x;
      past_end = let is = c.past_end in omega arith;
      ended = λ e. let after = l.after_end e in let is = c.past_end in omega arith;
    }

-- the rule holds before the first draw
pub start_counted : (limit count : ℕ) → 0 < count → AreCounted limit count 0 (fresh (count - 1) ∷ [])
start_counted limit count some_seat = record {
  claims = λ x. let none = once_below_past x (min 0 limit) (omega arith) in sym none;
  past_end = omega arith;
  each = λ i p at. inr (first_is_live i p at);
  seats = omega arith;
}
  where
    first_is_live : (i : ℕ) (p : PassRecord) → get_elem? (fresh (count - 1) ∷ []) i ≡ some p → IsLive p
    first_is_live zero p at = subst IsLive (some-injective _ _ at) (record { weighs = omega arith; most = omega arith; before_end = λ _. omega arith; after_end = λ e. absurd (false≢true e) })
    first_is_live (suc i) p at = absurd (some-ne-none p (sym at))

-- if a pass has ended, no number is left
pub end_true : (limit count word : ℕ) (ps : List PassRecord) (i : ℕ) (p : PassRecord) → AreCounted limit count word ps → get_elem? ps i ≡ some p → 0 < p.weight → p.ended ≡ true → limit ≤ word
end_true limit count word ps i p c at some_weight ended = let l = live_at limit count word ps i p c at some_weight in let after = l.after_end ended in let least = sum_at past ps i p at in let is = c.past_end in omega arith

-- the claims of all passes are the first numbers, each once
pub all_claims : (limit count word : ℕ) (ps : List PassRecord) → AreCounted limit count word ps → AreAllBelow (min word limit) (flat_map (λ p. p.claims) ps)
all_claims limit count word ps c = permutation_below (min word limit) (flat_map (λ p. p.claims) ps) (λ x. times-flat_map x (λ (p : PassRecord). p.claims) ps ∙ c.claims x)
