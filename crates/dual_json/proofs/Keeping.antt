-- Data without some members: what is put, and what is found.
use Rattle.std.proofs.Common.{◌≡◌, ℕ, List, Bool, true, false, cond, Option, Some, None, option_map, Ordering, Less, Equal, Greater, nat_cmp, is_eq, true≢false, refl, sym, ap, ◌∙◌}
use Rattle.std.proofs.lemmas.Cmp.{nat_list_cmp_total}
use Rattle.std.proofs.lemmas.Map.Text.{is_eq-slice_cmp}
use Rattle.std.proofs.lemmas.Slice.Eq.{bytes_eq-Decides}
use Rattle.std.specs.Cmp.Lexicographic.{slice_cmp}
use Rattle.std.specs.Ordering.{match_ordering, ordering_reverse}
use Rattle.serde_json.specs.Data.{Data, null, boolean, number, string, array, object, Items, no_items, item, Members, no_members, member, put}
use Rattle.serde_json.specs.Find.{get, get_member}
use Rattle.dual_json.specs.Kept.{keep, keep_items, keep_members}

-- a key comes before all of the members, which are in order
abbrev pub IsBefore : List ℕ → Members → Type 0
IsBefore k no_members = Unit {0}
IsBefore k (member l e ms) = slice_cmp nat_cmp k l ≡ Less

abbrev pub AreInOrder : Members → Type 0
AreInOrder no_members = Unit {0}
AreInOrder (member l e ms) = IsBefore l ms × AreInOrder ms

-- the first of two keys that come in this order
earlier : (k l : List ℕ) (ms : Members) → slice_cmp nat_cmp k l ≡ Less → IsBefore l ms → IsBefore k ms
earlier k l no_members less before = tt
earlier k l (member m e ms) less before = nat_list_cmp_total.trans k l m less before

before_put_at : (o : Ordering) (l k m : List ℕ) (d e : Data) (ms : Members) → slice_cmp nat_cmp l k ≡ Less → slice_cmp nat_cmp l m ≡ Less
    → IsBefore l (match_ordering o (member k d (member m e ms)) (member m d ms) (member m e (put k d ms)))
before_put_at Less l k m d e ms less before = less
before_put_at Equal l k m d e ms less before = before
before_put_at Greater l k m d e ms less before = before

before_put : (l k : List ℕ) (d : Data) (ms : Members) → slice_cmp nat_cmp l k ≡ Less → IsBefore l ms → IsBefore l (put k d ms)
before_put l k d no_members less before = less
before_put l k d (member m e ms) less before = before_put_at (slice_cmp nat_cmp k m) l k m d e ms less before

in_order_at : (o : Ordering) (k m : List ℕ) (d e : Data) (ms : Members) → slice_cmp nat_cmp k m ≡ o → IsBefore m ms → AreInOrder ms → AreInOrder (put k d ms)
    → AreInOrder (match_ordering o (member k d (member m e ms)) (member m d ms) (member m e (put k d ms)))
in_order_at Less k m d e ms is before order later = (is, (before, order))
in_order_at Equal k m d e ms is before order later = (before, order)
in_order_at Greater k m d e ms is before order later = (before_put m k d ms (nat_list_cmp_total.antisymm m k ∙ ap ordering_reverse is) before, later)

-- putting a member keeps the order
pub in_order_put : (k : List ℕ) (d : Data) (ms : Members) → AreInOrder ms → AreInOrder (put k d ms)
in_order_put k d no_members order = (tt, tt)
in_order_put k d (member m e ms) order = in_order_at (slice_cmp nat_cmp k m) k m d e ms refl order.0 order.1 (in_order_put k d ms order.1)

-- a member that comes before all others is put first
put_first : (k : List ℕ) (d : Data) (ms : Members) → IsBefore k ms → put k d ms ≡ member k d ms
put_first k d no_members before = refl
put_first k d (member l e ms) before = ap (λ o. match_ordering o (member k d (member l e ms)) (member l d ms) (member l e (put k d ms))) before

module _ (wants : List ℕ → Bool) where
  before_keep_at : (b : Bool) (k l : List ℕ) (e : Data) (rest : Members) → slice_cmp nat_cmp k l ≡ Less → IsBefore k rest → IsBefore k (cond b (member l e rest) rest)
  before_keep_at true k l e rest less later = less
  before_keep_at false k l e rest less later = later

  before_keep : (k : List ℕ) (ms : Members) → IsBefore k ms → AreInOrder ms → IsBefore k (keep_members wants ms)
  before_keep k no_members before order = tt
  before_keep k (member l e ms) before order =
      before_keep_at (wants l) k l (keep wants e) (keep_members wants ms) before (before_keep k ms (earlier k l ms before order.0) order.1)

  equal_at : (b : Bool) (k l : List ℕ) (d e : Data) (rest : Members) → slice_cmp nat_cmp k l ≡ Equal
      → cond b (member l d rest) rest ≡ cond b (put k d (cond b (member l e rest) rest)) (cond b (member l e rest) rest)
  equal_at true k l d e rest is = ap (λ o. match_ordering o (member k d (member l e rest)) (member l d rest) (member l e (put k d rest))) (sym is)
  equal_at false k l d e rest is = refl

  greater_at : (a b : Bool) (k l : List ℕ) (d e : Data) (rest : Members) → slice_cmp nat_cmp k l ≡ Greater
      → cond a (member l e (cond b (put k d rest) rest)) (cond b (put k d rest) rest) ≡ cond b (put k d (cond a (member l e rest) rest)) (cond a (member l e rest) rest)
  greater_at true true k l d e rest is = ap (λ o. match_ordering o (member k d (member l e rest)) (member l d rest) (member l e (put k d rest))) (sym is)
  greater_at true false k l d e rest is = refl
  greater_at false true k l d e rest is = refl
  greater_at false false k l d e rest is = refl

  keep_put_at : (o : Ordering) (k l : List ℕ) (d e : Data) (ms : Members) → slice_cmp nat_cmp k l ≡ o → AreInOrder (member l e ms)
      → keep_members wants (put k d ms) ≡ cond (wants k) (put k (keep wants d) (keep_members wants ms)) (keep_members wants ms)
      → keep_members wants (match_ordering o (member k d (member l e ms)) (member l d ms) (member l e (put k d ms)))
      ≡ cond (wants k) (put k (keep wants d) (keep_members wants (member l e ms))) (keep_members wants (member l e ms))
  keep_put_at Less k l d e ms is order later =
      ap (λ x. cond (wants k) x (keep_members wants (member l e ms))) (sym (put_first k (keep wants d) (keep_members wants (member l e ms)) (before_keep k (member l e ms) is order)))
  keep_put_at Equal k l d e ms is order later =
      let same : k ≡ l = (bytes_eq-Decides k l).0 (sym (is_eq-slice_cmp k l) ∙ ap is_eq is) in
      equal_at (wants l) k l (keep wants d) (keep wants e) (keep_members wants ms) is
      ∙ ap (λ b. cond b (put k (keep wants d) (keep_members wants (member l e ms))) (keep_members wants (member l e ms))) (ap wants (sym same))
  keep_put_at Greater k l d e ms is order later =
      ap (λ x. cond (wants l) (member l (keep wants e) x) x) later
      ∙ greater_at (wants l) (wants k) k l (keep wants d) (keep wants e) (keep_members wants ms) is

  -- a member that is put stays if its key is wanted
  pub keep_put : (k : List ℕ) (d : Data) (ms : Members) → AreInOrder ms
      → keep_members wants (put k d ms) ≡ cond (wants k) (put k (keep wants d) (keep_members wants ms)) (keep_members wants ms)
  keep_put k d no_members order = refl
  keep_put k d (member l e ms) order = keep_put_at (slice_cmp nat_cmp k l) k l d e ms refl order (keep_put k d ms order.1)

  -- ---- what is found

  found_at : (o : Ordering) (b : Bool) (k l : List ℕ) (e : Data) (ms : Members) → slice_cmp nat_cmp k l ≡ o → wants l ≡ b → wants k ≡ true
      → get_member k (keep_members wants ms) ≡ option_map (keep wants) (get_member k ms)
      → get_member k (cond b (member l (keep wants e) (keep_members wants ms)) (keep_members wants ms)) ≡ option_map (keep wants) (match_ordering o (get_member k ms) (Some e) (get_member k ms))
  found_at Less true k l e ms is wanted some later =
      ap (λ o. match_ordering o (get_member k (keep_members wants ms)) (Some (keep wants e)) (get_member k (keep_members wants ms))) is ∙ later
  found_at Equal true k l e ms is wanted some later =
      ap (λ o. match_ordering o (get_member k (keep_members wants ms)) (Some (keep wants e)) (get_member k (keep_members wants ms))) is
  found_at Greater true k l e ms is wanted some later =
      ap (λ o. match_ordering o (get_member k (keep_members wants ms)) (Some (keep wants e)) (get_member k (keep_members wants ms))) is ∙ later
  found_at Less false k l e ms is wanted some later = later
  found_at Equal false k l e ms is wanted some later =
      let same : k ≡ l = (bytes_eq-Decides k l).0 (sym (is_eq-slice_cmp k l) ∙ ap is_eq is) in
      absurd (true≢false (sym some ∙ ap wants same ∙ wanted))
  found_at Greater false k l e ms is wanted some later = later

  found_member : (k : List ℕ) (ms : Members) → wants k ≡ true → get_member k (keep_members wants ms) ≡ option_map (keep wants) (get_member k ms)
  found_member k no_members some = refl
  found_member k (member l e ms) some = found_at (slice_cmp nat_cmp k l) (wants l) k l e ms refl refl some (found_member k ms some)

  -- a wanted member is found in what is kept
  pub get-keep : (k : List ℕ) (d : Data) → wants k ≡ true → get k (keep wants d) ≡ option_map (keep wants) (get k d)
  get-keep k null some = refl
  get-keep k (boolean b) some = refl
  get-keep k (number n) some = refl
  get-keep k (string s) some = refl
  get-keep k (array ds) some = refl
  get-keep k (object ms) some = found_member k ms some

-- ---- all members are wanted

mutual
  -- nothing is lost if all members are wanted
  pub keep-all : (d : Data) → keep (λ k. true) d ≡ d
  keep-all null = refl
  keep-all (boolean b) = refl
  keep-all (number n) = refl
  keep-all (string s) = refl
  keep-all (array ds) = ap array (keep_items-all ds)
  keep-all (object ms) = ap object (keep_members-all ms)

  keep_items-all : (ds : Items) → keep_items (λ k. true) ds ≡ ds
  keep_items-all no_items = refl
  keep_items-all (item d ds) = ap (λ e. item e (keep_items (λ k. true) ds)) (keep-all d) ∙ ap (item d) (keep_items-all ds)

  keep_members-all : (ms : Members) → keep_members (λ k. true) ms ≡ ms
  keep_members-all no_members = refl
  keep_members-all (member k d ms) = ap (λ e. member k e (keep_members (λ k. true) ms)) (keep-all d) ∙ ap (member k d) (keep_members-all ms)

-- a value of which all members are kept
pub all_kept : (o : Option Data) (d : Data) → option_map (keep (λ k. true)) o ≡ Some d → o ≡ Some d
all_kept None d is = is
all_kept (Some e) d is = sym (ap Some (keep-all e)) ∙ is
