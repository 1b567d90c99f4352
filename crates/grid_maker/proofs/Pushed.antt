-- Lists of JSON values, item by item.
use Rattle.std.proofs.Common.{◌≡◌, ℕ, ◌+◌, List, [], ◌++◌, map, Option, sym, ap, ◌∙◌}
use Rattle.std.specs.Prelude.{option_to_list}
use Rattle.serde_json.specs.Data.{Data}
use Rattle.std.proofs.lemmas.List.{map-append}

-- appending the value of an option, if there is one
one_more : (f : ℕ → Data) (before after : List Data) (numbers : List ℕ) (o p : Option ℕ) → before ≡ map f numbers → o ≡ p
    → after ≡ before ++ map f (option_to_list o) → after ≡ map f (numbers ++ option_to_list p)
one_more f before after numbers o p is same more =
    more ∙ ap (λ (q : Option ℕ). before ++ map f (option_to_list q)) same
    ∙ ap (λ (ds : List Data). ds ++ map f (option_to_list p)) is ∙ sym (map-append f numbers (option_to_list p))

-- appending up to four values
pub four_more : (f : ℕ → Data) (none one two three four : List Data) (o₁ o₂ o₃ o₄ p₁ p₂ p₃ p₄ : Option ℕ) → none ≡ []
    → o₁ ≡ p₁ → one ≡ none ++ map f (option_to_list o₁)
    → o₂ ≡ p₂ → two ≡ one ++ map f (option_to_list o₂)
    → o₃ ≡ p₃ → three ≡ two ++ map f (option_to_list o₃)
    → o₄ ≡ p₄ → four ≡ three ++ map f (option_to_list o₄)
    → four ≡ map f (option_to_list p₁ ++ option_to_list p₂ ++ option_to_list p₃ ++ option_to_list p₄)
four_more f none one two three four o₁ o₂ o₃ o₄ p₁ p₂ p₃ p₄ is a₁ h₁ a₂ h₂ a₃ h₃ a₄ h₄ =
    one_more f three four (option_to_list p₁ ++ option_to_list p₂ ++ option_to_list p₃) o₄ p₄
    (one_more f two three (option_to_list p₁ ++ option_to_list p₂) o₃ p₃ (one_more f one two (option_to_list p₁) o₂ p₂ (one_more f none one [] o₁ p₁ is a₁ h₁) a₂ h₂) a₃ h₃) a₄ h₄
