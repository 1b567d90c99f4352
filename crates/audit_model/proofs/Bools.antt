-- Booleans.
use Rattle.std.proofs.Common.{◌≡◌, Bool, true, false, ◌&&◌, refl, sym, ◌||◌}
use Rattle.std.proofs.lemmas.Bool.{or_left, or_right}

-- and-true is the other part
pub and_true : (b c : Bool) → c ≡ true → (b && c) ≡ b
and_true true c h = h
and_true false c h = refl

-- Booleans that imply each other are equal
pub same_bool : (a b : Bool) → (a ≡ true → b ≡ true) → (b ≡ true → a ≡ true) → a ≡ b
same_bool true b f g = sym (f refl)
same_bool false true f g = g refl
same_bool false false f g = refl

-- the first of four parts implies the disjunction
pub in_1 : (a b c d : Bool) → a ≡ true → (a || b || c || d) ≡ true
in_1 a b c d h = or_left (a || b || c) d (or_left (a || b) c (or_left a b h))

-- the second of four parts implies the disjunction
pub in_2 : (a b c d : Bool) → b ≡ true → (a || b || c || d) ≡ true
in_2 a b c d h = or_left (a || b || c) d (or_left (a || b) c (or_right a b h))

-- the third of four parts implies the disjunction
pub in_3 : (a b c d : Bool) → c ≡ true → (a || b || c || d) ≡ true
in_3 a b c d h = or_left (a || b || c) d (or_right (a || b) c h)

-- the fourth of four parts implies the disjunction
pub in_4 : (a b c d : Bool) → d ≡ true → (a || b || c || d) ≡ true
in_4 a b c d h = or_right (a || b || c) d h
