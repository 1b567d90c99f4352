-- The definitions on small runs, by computation.
use Rattle.std.proofs.Common.{◌≡◌, ℕ, Bool, true, false, List, [], ◌∷◌, refl}
use Rattle.std.specs.List.{range_with_len}
use Rattle.audit_model.specs.declared.place.Place.{Place}
use Rattle.tally_desk.specs.declared.entry.Entry.{Entry}
use Rattle.tally_desk.specs.Entries.{post_of, ids_of, saves_made, missed, up_to_save, after_save, ends_saved}
use Rattle.audit_statement.specs.InOrder.{moved}

abbrev at : ℕ → ℕ → Place
at slot generation = record { slot = slot; generation = generation }

abbrev post : ℕ → Bool → Entry
post ticket saved = post_of ticket ticket saved

-- ---- five posts, a save after every second

abbrev five : List Entry
five = post 0 false ∷ post 1 true ∷ post 2 false ∷ post 3 true ∷ post 4 false ∷ []

-- five posts, each second one with a save: two saves
five_saves : saves_made five ≡ 2
five_saves = refl

-- a last save goes to slot 0 with generation 2, and slot 1 has the first four with generation 1
five_place : moved (saves_made five) (at 0 0) ≡ at 0 2
five_place = refl

-- the last save has the first four
five_last : ids_of (up_to_save 2 five) ≡ 0 ∷ 1 ∷ 2 ∷ 3 ∷ []
five_last = refl

-- the save before it has two
five_next : ids_of (up_to_save 1 five) ≡ 0 ∷ 1 ∷ []
five_next = refl

-- none was missed
five_missed : missed 2 five ≡ 0
five_missed = refl

-- the last post has no save
five_ends : ends_saved five ≡ false
five_ends = refl

-- resumed from there at slot 1 with generation 0: after five more posts, a last save goes to slot 1 with generation 2
five_more : moved (saves_made five) (at 1 0) ≡ at 1 2
five_more = refl

-- resumed again: two posts, and the save with the second goes to slot 0 with generation 0
abbrev two : List Entry
two = post 0 false ∷ post 1 true ∷ []

-- two posts and a save with the second: the next save goes to slot 1
two_place : moved (saves_made two) (at 0 0) ≡ at 1 1
two_place = refl

-- the last post has a save
two_ends : ends_saved two ≡ true
two_ends = refl

-- ---- twelve posts, a save after every second, of which the third fails

abbrev six : List Entry
six = post 0 false ∷ post 1 true ∷ post 2 false ∷ post 3 true ∷ post 4 false ∷ post 5 false ∷ []

abbrev twelve : List Entry
twelve =
    post 0 false ∷ post 1 true ∷ post 2 false ∷ post 3 true ∷ post 4 false ∷ post 5 false ∷ post 6 false ∷ post 7 true
    ∷ post 8 false ∷ post 9 true ∷ post 10 false ∷ post 11 true ∷ []

-- after the failed save, the next slot may hold anything
six_missed : missed 2 (after_save (saves_made six) six) ≡ 1
six_missed = refl

-- six posts with three saves end at slot 0 with generation 2
six_place : moved (saves_made six) (at 0 0) ≡ at 0 2
six_place = refl

-- twelve posts with one missed save make five saves
twelve_saves : saves_made twelve ≡ 5
twelve_saves = refl

-- one was missed
twelve_missed : missed 2 twelve ≡ 1
twelve_missed = refl

-- slot 0 has generation 1 and all twelve posts, and slot 1 has generation 0 and the first ten
twelve_place : moved (saves_made twelve) (at 0 0) ≡ at 1 2
twelve_place = refl

-- the last save has all twelve
twelve_last : ids_of (up_to_save 5 twelve) ≡ range_with_len 0 12
twelve_last = refl

-- the save before it has ten
twelve_next : ids_of (up_to_save 4 twelve) ≡ range_with_len 0 10
twelve_next = refl

-- no post comes after the last save
twelve_after : after_save 5 twelve ≡ []
twelve_after = refl

-- the last post has a save
twelve_ends : ends_saved twelve ≡ true
twelve_ends = refl

-- ---- three posts: a save after two, after three, and a first save that fails

abbrev three : Bool → Bool → List Entry
three second third = post 0 false ∷ post 1 second ∷ post 2 third ∷ []

-- three posts, the second with a save: one save
after_two : saves_made (three true false) ≡ 1
after_two = refl

-- none was missed
after_two_missed : missed 2 (three true false) ≡ 0
after_two_missed = refl

-- the last post has no save
after_two_ends : ends_saved (three true false) ≡ false
after_two_ends = refl

-- with a save after three posts none was missed
after_three_missed : missed 3 (three false true) ≡ 0
after_three_missed = refl

-- the last post has the save
after_three_ends : ends_saved (three false true) ≡ true
after_three_ends = refl

-- three posts, the second with a missed save
first_failed : missed 2 (three false false) ≡ 1
first_failed = refl
