-- Lists of posts at a desk, by rising ticket.
use Rattle.std.specs.Prelude.{◌≡◌, ℕ, zero, suc, ◌+◌, ◌*◌, ◌/◌, ◌%◌, ◌≤◌, ◌==◌, ◌&&◌, nat_lt, Bool, true, false, not, cond, List, [], ◌∷◌, map, length, count_by}
use Rattle.std.specs.List.{All, range_with_len}
use Rattle.tally_desk.specs.declared.entry.Entry.{Entry}

abbrev pub post_of : ℕ → ℕ → Bool → Entry
post_of ticket id saved = record { ticket = ticket; id = id; saved = saved }

abbrev pub ticket_of : Entry → ℕ
ticket_of e = e.ticket

abbrev pub posted_id : Entry → ℕ
posted_id e = e.id

abbrev pub is_saved : Entry → Bool
is_saved e = e.saved

abbrev pub tickets_of : List Entry → List ℕ
tickets_of posted = map ticket_of posted

abbrev pub ids_of : List Entry → List ℕ
ids_of posted = map posted_id posted

-- the number of saves made that succeeded
abbrev pub saves_made : List Entry → ℕ
saves_made posted = count_by is_saved posted

-- the posts up to and including the n-th marked one
abbrev pub up_to_save : ℕ → List Entry → List Entry
up_to_save zero posted = []
up_to_save (suc n) [] = []
up_to_save (suc n) (e ∷ posted) = e ∷ up_to_save (cond e.saved n (suc n)) posted

-- the posts after the n-th marked one
abbrev pub after_save : ℕ → List Entry → List Entry
after_save zero posted = posted
after_save (suc n) [] = []
after_save (suc n) (e ∷ posted) = after_save (cond e.saved n (suc n)) posted

-- true if the last post is marked
abbrev pub ends_saved_from : Bool → List Entry → Bool
ends_saved_from last [] = last
ends_saved_from last (e ∷ posted) = ends_saved_from e.saved posted

abbrev pub ends_saved : List Entry → Bool
ends_saved posted = ends_saved_from false posted

-- a save is due with the post: the number of posts is then a multiple of `every`
abbrev pub is_due : ℕ → Entry → Bool
is_due every e = (e.ticket + 1) % every == 0

-- a save was due with the post and did not succeed
abbrev pub is_missed : ℕ → Entry → Bool
is_missed every e = is_due every e && not e.saved

-- the number of saves that were due and did not succeed
abbrev pub missed : ℕ → List Entry → ℕ
missed every posted = count_by (is_missed every) posted

-- ---- a desk at which no save failed

-- one save was made for each full group of posts, and the last post has one if the number of posts is a multiple
pub record AreRegular (every : ℕ) (posted : List Entry) : Type 0 where
  pub count : saves_made posted ≡ length posted / every
  pub sizes : (n : ℕ) → n ≤ saves_made posted → length (up_to_save n posted) ≡ n * every
  pub last : ends_saved posted ≡ (nat_lt 0 (length posted) && (length posted % every == 0))

-- the law of posts by rising ticket that are marked exactly if a save was due
abbrev pub UnfailedPostsAreRegular : Type 0
UnfailedPostsAreRegular = (every : ℕ) (posted : List Entry) → 1 ≤ every → tickets_of posted ≡ range_with_len 0 (length posted)
    → All (λ e. e.saved ≡ true → is_due every e ≡ true) posted → missed every posted ≡ 0 → AreRegular every posted
