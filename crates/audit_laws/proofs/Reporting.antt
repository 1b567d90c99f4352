-- Known inputs determine one result.
use Rattle.std.proofs.Common.{◌≡◌, ℕ, List, Option, Some, None, Ok, subst}
use Rattle.audit_model.specs.declared.setting.Setting.{Setting}
use Rattle.audit_statement.specs.Words.{setting_of}
use Rattle.audit_model.specs.Observed.{IfObserved}

-- accepted arguments have one setting
pub same_setting : (words : List (List ℕ)) (a b : Setting) → setting_of words ≡ Ok a → setting_of words ≡ Ok b → a ≡ b
same_setting words a b p q = cc

-- a property of a value that may be known holds if it is known to be this
pub known_at : {A : Type 0} (o : Option A) (x : A) (P : A → Type 0) → o ≡ Some x → IfObserved o P → P x
known_at None x P e k = cc
known_at (Some y) x P e k = let same : y ≡ x = cc in subst P same k
