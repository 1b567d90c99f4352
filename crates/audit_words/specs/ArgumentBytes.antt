-- The arguments of a command line as lists of bytes, and the answer of a test for faults.
use Rattle.std.specs.Prelude.{◌≡◌, ◌⊎◌, ℕ, List, String, map, string_bytes, Option, Some, None, Result}
use Rattle.std.specs.Result.{MatchResult}
use Rattle.audit_model.specs.declared.fault.WordFault.{WordFault}
use Rattle.audit_model.specs.declared.fault.WordFault.TheVariants.{Memory}
use Rattle.audit_statement.specs.Words.{NameAndValue, pairs}

-- the bytes of each argument
abbrev pub argument_bytes : {A : Type 0} → List (String A) → List (List ℕ)
argument_bytes words = map string_bytes words

-- the pairs of the arguments after the command
abbrev pub pairs_in : {A : Type 0} → List (String A) → List NameAndValue
pairs_in words = pairs (argument_bytes words)

-- the answer is the fault, if there is one, or out of memory
abbrev pub MatchesFault : {A : Type 0} → Result A WordFault → Option WordFault → Type 0
MatchesFault result fault = MatchResult result (λ _. fault ≡ None) (λ f. (f ≡ Memory) ⊎ (fault ≡ Some f))
