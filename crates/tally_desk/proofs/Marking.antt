-- The effect of one more post on the marked posts and on those that missed a save.
use Rattle.std.proofs.Common.{◌≡◌, ℕ, zero, suc, ◌+◌, ◌≤◌, Bool, true, false, cond, List, [], ◌∷◌, ◌++◌, refl, ap, arith}
use Rattle.std.proofs.lemmas.List.Sums.{sum_by-cons, sum_by_push}
use Rattle.tally_desk.specs.declared.entry.Entry.{Entry}
use Rattle.tally_desk.specs.Entries.{post_of, ids_of, is_saved, is_missed, saves_made, missed, up_to_save, after_save, ends_saved_from}
use Rattle.audit_model.specs.Times.{times}
use Rattle.audit_model.proofs.Times.{times-cons}

abbrev pub mark : Entry → ℕ
mark e = cond (is_saved e) 1 0

-- one more post is one more save if it is marked
pub saves-push : (l : List Entry) (e : Entry) → saves_made (l ++ e ∷ []) ≡ saves_made l + mark e
saves-push l e = sum_by_push mark l e

-- the number of saves after one more post, by its mark
pub next_turn : (earlier : List Entry) (e : Entry) (s : Bool) → e.saved ≡ s → saves_made (earlier ++ e ∷ []) ≡ cond s (suc (saves_made earlier)) (saves_made earlier)
next_turn earlier e true is = let more = saves-push earlier e in let one_more = ap (λ (x : Bool). cond {A = ℕ} x 1 0) is in omega (arith, more, one_more)
next_turn earlier e false is = let more = saves-push earlier e in let none = ap (λ (x : Bool). cond {A = ℕ} x 1 0) is in omega (arith, more, none)

-- one more post is one more missed save if a save was due and it is not marked
pub missed-push : (every : ℕ) (l : List Entry) (e : Entry) → missed every (l ++ e ∷ []) ≡ missed every l + cond (is_missed every e) 1 0
missed-push every l e = sum_by_push (λ (x : Entry). cond (is_missed every x) 1 0) l e

-- a step towards a mark that exists
cond_within : (b : Bool) (n m : ℕ) → suc n ≤ cond b 1 0 + m → cond b n (suc n) ≤ m
cond_within true n m le = omega arith
cond_within false n m le = omega arith

-- the n-th mark is in the rest of the list
next_within : (x : Entry) (l : List Entry) (n : ℕ) → suc n ≤ saves_made (x ∷ l) → cond x.saved n (suc n) ≤ saves_made l
next_within x l n le = cond_within x.saved n (saves_made l) (omega (arith, le, sum_by-cons mark x l))

-- one more post does not move an earlier save
pub up_to_save-kept : (l : List Entry) (e : Entry) (n : ℕ) → n ≤ saves_made l → up_to_save n (l ++ e ∷ []) ≡ up_to_save n l
up_to_save-kept [] e zero le = refl
up_to_save-kept [] e (suc n) le = absurd (omega arith)
up_to_save-kept (x ∷ l) e zero le = refl
up_to_save-kept (x ∷ l) e (suc n) le = ap (λ (q : List Entry). x ∷ q) (up_to_save-kept l e (cond x.saved n (suc n)) (next_within x l n le))

-- one more post comes after each earlier mark
pub after_save-kept : (l : List Entry) (e : Entry) (n : ℕ) → n ≤ saves_made l → after_save n (l ++ e ∷ []) ≡ after_save n l ++ e ∷ []
after_save-kept [] e zero le = refl
after_save-kept [] e (suc n) le = absurd (omega arith)
after_save-kept (x ∷ l) e zero le = refl
after_save-kept (x ∷ l) e (suc n) le = after_save-kept l e (cond x.saved n (suc n)) (next_within x l n le)

-- a step towards a new last mark
cond_next : (b : Bool) (n m : ℕ) → suc n ≡ cond b 1 0 + m → cond b n (suc n) ≡ m
cond_next true n m e = omega arith
cond_next false n m e = omega arith

-- the new last mark is in the rest of the list
next_is : (x : Entry) (l : List Entry) (n : ℕ) → suc n ≡ saves_made (x ∷ l) + 1 → cond x.saved n (suc n) ≡ saves_made l + 1
next_is x l n is = cond_next x.saved n (saves_made l + 1) (omega (arith, is, sum_by-cons mark x l))

-- a marked post saves all posts
pub up_to_save-all : (l : List Entry) (t i n : ℕ) → n ≡ saves_made l + 1 → up_to_save n (l ++ post_of t i true ∷ []) ≡ l ++ post_of t i true ∷ []
up_to_save-all l t i zero is = absurd (omega arith)
up_to_save-all [] t i (suc zero) is = refl
up_to_save-all [] t i (suc (suc n)) is = absurd (omega arith)
up_to_save-all (x ∷ l) t i (suc n) is = ap (λ (q : List Entry). x ∷ q) (up_to_save-all l t i (cond x.saved n (suc n)) (next_is x l n is))

-- the mark of the last post
pub ends_saved-push : (b : Bool) (l : List Entry) (e : Entry) → ends_saved_from b (l ++ e ∷ []) ≡ e.saved
ends_saved-push b [] e = refl
ends_saved-push b (x ∷ l) e = ends_saved-push x.saved l e

-- the posts up to a save are among the posts
pub ids_up_to_save : (x : ℕ) (n : ℕ) (l : List Entry) → times x (ids_of (up_to_save n l)) ≤ times x (ids_of l)
ids_up_to_save x zero l = omega arith
ids_up_to_save x (suc n) [] = omega arith
ids_up_to_save x (suc n) (e ∷ l) =
    let rest = ids_up_to_save x (cond e.saved n (suc n)) l in
    omega (arith, rest, times-cons x e.id (ids_of (up_to_save (cond e.saved n (suc n)) l)), times-cons x e.id (ids_of l))
