-- The ids of a range.
use Rattle.std.proofs.Common.{◌≡◌, ℕ, suc, ◌+◌, ◌<◌, ◌≤◌, arith, Bool, true, false, not, cond, List, [], ◌∷◌, length, ap, refl, sym}
use Rattle.std.proofs.lemmas.Bool.{and_parts, leb-true, ltb-true}
use Rattle.std.specs.Prelude.{◌==◌, ◌&&◌, ◌||◌, nat_le, nat_lt}
use Rattle.std.specs.List.{position_or_len, after_first}
use Rattle.audit_model.specs.Graph.{has}
use Rattle.audit_model.specs.declared.fault.Name.TheVariants.{Walks, Ends, Ids}
use Rattle.audit_model.specs.declared.setting.Command.TheVariants.{Check}
use Rattle.audit_statement.specs.Words.{NameAndValue, first_id, first_of_range, is_good, is_number, last_id, last_of_range, number_named, text_of}
use Rattle.audit_words.proofs.ValidValues.{number-bounds}

outside_by : (b found : Bool) (place more : ℕ) → (place ≡ more → found ≡ false) → cond (not b) (1 + place) 0 ≡ suc more → (b || found) ≡ false
outside_by true found place more h l = absurd (omega (arith, l))
outside_by false found place more h l = h (omega (arith, l))

-- a text does not contain a byte if the byte has no first place in it
outside : (c : ℕ) (text : List ℕ) → position_or_len (λ b. b == c) text ≡ length text → has text c ≡ false
outside c [] h = refl
outside c (x ∷ rest) h = outside_by (x == c) (has rest c) (position_or_len (λ b. b == c) rest) (length rest) (outside c rest) h

-- a text without a dash is the last of its range
pub last_alone : (text : List ℕ) → position_or_len (λ b. b == 45) text ≡ length text → text ≡ last_of_range text
last_alone text none = sym (ap (λ b. cond b (after_first (λ c. c == 45) text) text) (outside 45 text none))

-- the ids of a valid range are numbers in order, below the count of trajectories
pub record IsGoodRange (words : List NameAndValue) : Type 0 where
  pub few_first : first_id Check words ≤ 100000
  pub few_last : last_id Check words ≤ 100000
  pub in_order : first_id Check words ≤ last_id Check words
  pub within : last_id Check words < number_named Check words Walks + number_named Check words Ends

pub good_range : (words : List NameAndValue) → is_good Check words Ids ≡ true → IsGoodRange words
good_range words good =
    let first = first_of_range (text_of Check words Ids) in
    let last = last_of_range (text_of Check words Ids) in
    let count = number_named Check words Walks + number_named Check words Ends in
    let outer = and_parts (is_number 0 100000 first && is_number 0 100000 last && nat_le (first_id Check words) (last_id Check words)) (nat_lt (last_id Check words) count) good in
    let order = and_parts (is_number 0 100000 first && is_number 0 100000 last) (nat_le (first_id Check words) (last_id Check words)) outer.0 in
    let numbers = and_parts (is_number 0 100000 first) (is_number 0 100000 last) order.0 in
    record {
      few_first = (number-bounds 0 100000 first numbers.0).1;
      few_last = (number-bounds 0 100000 last numbers.1).1;
      in_order = leb-true (first_id Check words) (last_id Check words) order.1;
      within = ltb-true (last_id Check words) count outer.1;
    }
