-- A desk without failed saves has saved after each full group of posts.
use Rattle.std.proofs.Common.{◌≡◌, ℕ, zero, suc, ◌+◌, ◌*◌, ◌/◌, ◌%◌, ◌<◌, ◌≤◌, ◌==◌, ◌&&◌, nat_lt, not, Bool, true, false, cond, List, [], ◌∷◌, get_or, drop, length, refl, sym, ap, ◌∙◌, All, lt_of_not-le, suc-mul, arith}
use Rattle.std.specs.List.{range_with_len}
use Rattle.std.proofs.lemmas.Bool.{eq-eqb, ne_eqb, lt-ltb}
use Rattle.std.proofs.lemmas.List.Sums.{sum_by-cons}
use Rattle.std.proofs.lemmas.Nat.{div-mul-add, mod-mul-add}
use mathlib.Core.Logic.{dite}
use native.Mathlib.Decide.{ℕ_discrete, dec_le}
use Rattle.tally_desk.specs.declared.entry.Entry.{Entry}
use Rattle.tally_desk.specs.Entries.{UnfailedPostsAreRegular, ends_saved, ends_saved_from, is_due, is_missed, missed, saves_made, tickets_of, up_to_save}
use Rattle.tally_desk.proofs.Marking.{mark}

abbrev Marked : ℕ → List Entry → Type 0
Marked v [] = Unit {0}
Marked v (e ∷ l) = (e.saved ≡ is_due v e) × Marked v l

-- a post that missed no save is marked where one was due
one_marked : (saved due : Bool) → (saved ≡ true → due ≡ true) → cond {A = ℕ} (due && not saved) 1 0 ≡ 0 → saved ≡ due
one_marked true due h none = sym (h refl)
one_marked false true h none = absurd (omega arith)
one_marked false false h none = refl

-- all posts that missed no save are marked where one was due
marked : (v : ℕ) (l : List Entry) → All (λ e. e.saved ≡ true → is_due v e ≡ true) l → missed v l ≡ 0 → Marked v l
marked v [] due none = tt
marked v (e ∷ l) due none =
    let cut = sum_by-cons (λ (x : Entry). cond (is_missed v x) 1 0) e l in (
      one_marked e.saved (is_due v e) (due 0 e (omega arith)) (omega (arith, none, cut)),
      marked v l (λ k d inside. due (suc k) d (omega arith)) (omega (arith, none, cut)),
    )

-- the first post has the first ticket
pub first_ticket : (e : Entry) (l : List Entry) (a : ℕ) → tickets_of (e ∷ l) ≡ range_with_len a (length (e ∷ l)) → e.ticket ≡ a
first_ticket e l a is = ap (λ (xs : List ℕ). get_or xs 0 0) is

-- the posts after the first have the tickets after it
pub other_tickets : (e : Entry) (l : List Entry) (a : ℕ) → tickets_of (e ∷ l) ≡ range_with_len a (length (e ∷ l)) → tickets_of l ≡ range_with_len (a + 1) (length l)
other_tickets e l a is = ap (drop 1) is

module _ (v : ℕ) (some_v : 1 ≤ v) where
  -- the next post after q full groups and r posts completes a group if r + 1 posts do
  pub due_next : (e : Entry) (q r : ℕ) → e.ticket ≡ q * v + r → r + 1 ≡ v → is_due v e ≡ true
  due_next e q r ticket full =
      let turn : e.ticket + 1 ≡ suc q * v + 0 = omega (arith, ticket, full, suc-mul q v) in
      eq-eqb ((e.ticket + 1) % v) 0 (ap (λ (z : ℕ). z % v) turn ∙ mod-mul-add (suc q) v 0 (omega arith))

  pub due_later : (e : Entry) (q r : ℕ) → e.ticket ≡ q * v + r → r + 1 < v → is_due v e ≡ false
  due_later e q r ticket less =
      let turn : e.ticket + 1 ≡ q * v + (r + 1) = omega (arith, ticket) in
      let left : (e.ticket + 1) % v ≡ r + 1 = ap (λ (z : ℕ). z % v) turn ∙ mod-mul-add q v (r + 1) less in
      ne_eqb ((e.ticket + 1) % v) 0 (λ none. absurd (omega (arith, none, left)))

  pub next_less : (r : ℕ) → r < v → (r + 1 ≡ v → ⊥) → r + 1 < v
  next_less r l differ = dite (dec_le v (r + 1)) (λ le. absurd (differ (omega arith))) (λ not_le. lt_of_not-le not_le)

  pub next_group : (q r : ℕ) → r + 1 ≡ v → q * v + r + 1 ≡ suc q * v + 0
  next_group q r full = omega (arith, full, suc-mul q v)

  counts : (l : List Entry) (q r : ℕ) → r < v → tickets_of l ≡ range_with_len (q * v + r) (length l) → Marked v l → saves_made l + q ≡ (q * v + r + length l) / v
  counts [] q r less tickets all = (let same : 0 + q ≡ q = omega arith in same) ∙ sym (ap (λ (z : ℕ). z / v) (let same : q * v + r + 0 ≡ q * v + r = omega arith in same) ∙ div-mul-add q v r less)
  counts (e ∷ l) q r less tickets all =
      let here = first_ticket e l (q * v + r) tickets in
      let later = other_tickets e l (q * v + r) tickets in
      let cut = sum_by-cons mark e l in
      dite (ℕ_discrete (r + 1) v)
      (λ full.
      let flag : mark e ≡ 1 = ap (λ (b : Bool). cond b 1 0) (all.0 ∙ due_next e q r here full) in
      let rest = counts l (suc q) 0 (omega arith) (later ∙ ap (λ (z : ℕ). range_with_len z (length l)) (next_group q r full)) all.1 in
      let reached : suc q * v + 0 + length l ≡ q * v + r + length (e ∷ l) = omega (arith, full, suc-mul q v) in
      let count : saves_made (e ∷ l) + q ≡ saves_made l + suc q = omega (arith, cut, flag) in
      count ∙ rest ∙ ap (λ (z : ℕ). z / v) reached)
      (λ not_full.
      let more = next_less r less not_full in
      let flag : mark e ≡ 0 = ap (λ (b : Bool). cond b 1 0) (all.0 ∙ due_later e q r here more) in
      let rest = counts l q (r + 1) more (later ∙ ap (λ (z : ℕ). range_with_len z (length l)) (let same : q * v + r + 1 ≡ q * v + (r + 1) = omega arith in same)) all.1 in
      let reached : q * v + (r + 1) + length l ≡ q * v + r + length (e ∷ l) = omega arith in
      let count : saves_made (e ∷ l) + q ≡ saves_made l + q = omega (arith, cut, flag) in
      count ∙ rest ∙ ap (λ (z : ℕ). z / v) reached)

  cuts : (l : List Entry) (q r : ℕ) → r < v → tickets_of l ≡ range_with_len (q * v + r) (length l) → Marked v l → (n : ℕ) → suc n ≤ saves_made l → length (up_to_save (suc n) l) + r ≡ suc n * v
  cuts [] q r less tickets all n le = absurd (omega arith)
  cuts (e ∷ l) q r less tickets all n le =
      let here = first_ticket e l (q * v + r) tickets in
      let later = other_tickets e l (q * v + r) tickets in
      let cut = sum_by-cons mark e l in
      dite (ℕ_discrete (r + 1) v)
      (λ full.
      let is_saved = all.0 ∙ due_next e q r here full in
      let flag : mark e ≡ 1 = ap (λ (b : Bool). cond b 1 0) is_saved in
      let left : length (up_to_save (suc n) (e ∷ l)) ≡ suc (length (up_to_save n l)) = ap (λ (b : Bool). suc (length (up_to_save (cond b n (suc n)) l))) is_saved in
      let rest = after n (omega (arith, le, cut, flag))
      (cuts l (suc q) 0 (omega arith) (later ∙ ap (λ (z : ℕ). range_with_len z (length l)) (next_group q r full)) all.1) in
      omega (arith, left, rest, full, suc-mul n v))
      (λ not_full.
      let more = next_less r less not_full in
      let is_not = all.0 ∙ due_later e q r here more in
      let flag : mark e ≡ 0 = ap (λ (b : Bool). cond b 1 0) is_not in
      let left : length (up_to_save (suc n) (e ∷ l)) ≡ suc (length (up_to_save (suc n) l)) = ap (λ (b : Bool). suc (length (up_to_save (cond b n (suc n)) l))) is_not in
      let rest = cuts l q (r + 1) more (later ∙ ap (λ (z : ℕ). range_with_len z (length l)) (let same : q * v + r + 1 ≡ q * v + (r + 1) = omega arith in same)) all.1 n (omega (arith, le, cut, flag)) in
      omega (arith, left, rest))
    where
      after : (k : ℕ) → k ≤ saves_made l → ((j : ℕ) → suc j ≤ saves_made l → length (up_to_save (suc j) l) + 0 ≡ suc j * v) → length (up_to_save k l) ≡ k * v
      after zero le' f = omega arith
      after (suc k) le' f = let r' = f k le' in omega (arith, r')

  ends : (b : Bool) (l : List Entry) (a : ℕ) → tickets_of l ≡ range_with_len a (length l) → Marked v l → 0 < length l → ends_saved_from b l ≡ ((a + length l) % v == 0)
  ends b [] a tickets all some_post = absurd (omega arith)
  ends b (e ∷ []) a tickets all some_post = all.0 ∙ ap (λ (z : ℕ). (z + 1) % v == 0) (first_ticket e [] a tickets)
  ends b (e ∷ f ∷ l) a tickets all some_post =
      ends e.saved (f ∷ l) (a + 1) (other_tickets e (f ∷ l) a tickets) all.1 (omega arith)
      ∙ ap (λ (z : ℕ). z % v == 0) (let same : a + 1 + length (f ∷ l) ≡ a + length (e ∷ f ∷ l) = omega arith in same)

-- without posts, no post is marked
no_posts : (v : ℕ) (l : List Entry) → length l ≡ 0 → ends_saved l ≡ (nat_lt 0 (length l) && (length l % v == 0))
no_posts v [] none = refl
no_posts v (e ∷ l) none = absurd (omega arith)

-- the law on posts without a missed save
pub unfailed_posts_are_regular : UnfailedPostsAreRegular
unfailed_posts_are_regular every posted some_every tickets due none =
    let all = marked every posted due none in
    let from : tickets_of posted ≡ range_with_len (0 * every + 0) (length posted) = tickets ∙ ap (λ (z : ℕ). range_with_len z (length posted)) (let zero_is : 0 ≡ 0 * every + 0 = omega arith in zero_is) in
    record {
      count = let c = counts every some_every posted 0 0 (omega arith) from all in
          (let same : saves_made posted ≡ saves_made posted + 0 = omega arith in same) ∙ c ∙ ap (λ (z : ℕ). z / every) (let same : 0 * every + 0 + length posted ≡ length posted = omega arith in same);
      sizes = sizes_of (cuts every some_every posted 0 0 (omega arith) from all);
      last = dite (ℕ_discrete (length posted) 0) (no_posts every posted)
          (λ some_post. let more : 0 < length posted = positive (length posted) some_post in
          ends every some_every false posted 0 tickets all more
          ∙ ap (λ (z : ℕ). z % every == 0) (let same : 0 + length posted ≡ length posted = omega arith in same)
          ∙ ap (λ (b : Bool). b && (length posted % every == 0)) (sym (lt-ltb 0 (length posted) more)));
    }
  where
    sizes_of : ((n : ℕ) → suc n ≤ saves_made posted → length (up_to_save (suc n) posted) + 0 ≡ suc n * every) → (n : ℕ) → n ≤ saves_made posted → length (up_to_save n posted) ≡ n * every
    sizes_of f zero le = omega arith
    sizes_of f (suc n) le = let r = f n le in omega (arith, r)

    positive : (n : ℕ) → (n ≡ 0 → ⊥) → 0 < n
    positive zero differ = absurd (differ refl)
    positive (suc n) differ = omega arith
