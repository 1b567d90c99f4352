-- The test for a printed number.
use Rattle.std.proofs.Common.{◌≡◌, ℕ, ◌+◌, ◌-◌, ◌*◌, ◌^◌, ◌<◌, ◌≤◌, Bool, true, false, cond, List, refl, sym, subst, ap, ◌∙◌, arith, Option, Some, None, Result, Ok, inl, inr, rules}
use Rattle.std.specs.Prelude.{nat_le, ◌&&◌, unwrap_or, option_map, fold, decimal, bytes_eq}
use Rattle.std.specs.Result.{result_ok}
use Rattle.std.specs.Str.{all_ascii_digits}
use Rattle.std.specs.Str.Parse.{ParsesUnsigned}
use Rattle.std.proofs.lemmas.Bool.{and_parts, leb-true, le-leb, false≢true, cases_Bool, cond-false}
use Rattle.std.proofs.lemmas.Fmt.{parse-decimal, digits_value-decimal}
use Rattle.std.proofs.lemmas.Slice.Eq.{bytes_eq-Decides}
use Rattle.std.proofs.lemmas.Str.Parse.{IsNumeralModel, numerals_by_fold}
use Rattle.audit_statement.specs.Words.{digits_value, number_of, is_number}

-- the value of digits, from the left
own : IsNumeralModel (λ ds. all_ascii_digits ds ≡ true) digits_value
own = numerals_by_fold _ (search rules) (λ n text. fold (λ m c. 10 * m + (c - 48)) n text) (search rules)

-- the consequences of the test for a printed number with this value
tested : (b : Bool) (n low high : ℕ) → unwrap_or (option_map (λ m. nat_le low m && nat_le m high) (cond b (Some n) None)) false ≡ true
    → (b ≡ true) × (low ≤ n) × (n ≤ high)
tested true n low high h = let parts = and_parts (nat_le low n) (nat_le n high) h in (refl, leb-true low n parts.0, leb-true n high parts.1)
tested false n low high h = absurd (false≢true h)

-- a number that is given and lies within bounds is kept
passed : (b : Bool) (n low high : ℕ) → b ≡ true → low ≤ n → n ≤ high → cond (unwrap_or (option_map (λ m. nat_le low m && nat_le m high) (cond b (Some n) None)) false) (cond b (Some n) None) None ≡ Some n
passed true n low high e l u = rw (le-leb low n l, le-leb n high u) refl
passed false n low high e l u = absurd (false≢true e)

-- a number within bounds that fit is read by the parser of this width
pub is_number-parsed : {E : Type 0} (bits low high : ℕ) (text : List ℕ) (r : Result ℕ E) → high < 2 ^ bits → high < 2 ^ 64 → is_number low high text ≡ true → ParsesUnsigned bits 10 text r
    → (r ≡ Ok (digits_value text)) × (decimal (digits_value text) ≡ text)
is_number-parsed bits low high text r fits small h p =
    let facts = tested (bytes_eq (decimal (digits_value text)) text) (digits_value text) low high h in
    let same : decimal (digits_value text) ≡ text = (bytes_eq-Decides (decimal (digits_value text)) text).0 facts.0 in
    (parse-decimal bits (digits_value text) text r (omega (arith, facts.2, fits)) (omega (arith, facts.2)) (sym same) p, same)

-- a text that is no number within the bounds gives none
pub number-refused : (low high : ℕ) (text : List ℕ) → (is_number low high text ≡ true → ⊥) → cond (is_number low high text) (number_of text) None ≡ None
number-refused low high text not = elim (cases_Bool (is_number low high text)) [
  | inl is ↦ absurd (not is)
  | inr isnt ↦ cond-false {A = Option ℕ} (is_number low high text) (number_of text) None isnt
]

-- a printed number within the bounds is its own value
pub number-taken : (low high n : ℕ) (text : List ℕ) → n < 2 ^ 64 → text ≡ decimal n → low ≤ n → n ≤ high → cond (is_number low high text) (number_of text) None ≡ Some n
number-taken low high n text small same l u =
    let value : digits_value text ≡ n = subst (λ t. digits_value t ≡ n) (sym same) (digits_value-decimal own n small) in
    let printed : decimal (digits_value text) ≡ text = subst (λ m. decimal m ≡ text) (sym value) (sym same) in
    let found : cond (is_number low high text) (number_of text) None ≡ Some (digits_value text) =
    passed (bytes_eq (decimal (digits_value text)) text) (digits_value text) low high ((bytes_eq-Decides (decimal (digits_value text)) text).1 printed) (omega arith) (omega arith) in
    subst (λ m. cond (is_number low high text) (number_of text) None ≡ Some m) value found

-- a text read as a number that is printed differently, or lies outside the bounds, gives none
pub number-other : {E : Type 0} (bits low high n : ℕ) (text : List ℕ) (r : Result ℕ E) → high < 2 ^ bits → high < 2 ^ 64 → ParsesUnsigned bits 10 text r → Some n ≡ result_ok r
    → (decimal n ≡ text → low ≤ n → n ≤ high → ⊥) → cond (is_number low high text) (number_of text) None ≡ None
number-other bits low high n text r fits small p read other = number-refused low high text (λ is.
    let facts = tested (bytes_eq (decimal (digits_value text)) text) (digits_value text) low high is in
    let parsed = is_number-parsed bits low high text r fits small is p in
    let value : Some n ≡ Some (digits_value text) = read ∙ ap result_ok parsed.0 in
    let same : n ≡ digits_value text = cc in
    other (subst (λ m. decimal m ≡ text) (sym same) parsed.1) (omega (arith, facts.1)) (omega (arith, facts.2)))

-- a text that is read as no number gives none
pub number-unread : {E : Type 0} (bits low high : ℕ) (text : List ℕ) (r : Result ℕ E) → high < 2 ^ bits → high < 2 ^ 64 → ParsesUnsigned bits 10 text r → None ≡ result_ok r
    → cond (is_number low high text) (number_of text) None ≡ None
number-unread bits low high text r fits small p unread = number-refused low high text (λ is.
    let parsed = is_number-parsed bits low high text r fits small is p in
    let value : ◌≡◌ {A = Option ℕ} None (Some (digits_value text)) = unread ∙ ap result_ok parsed.0 in
    cc)
