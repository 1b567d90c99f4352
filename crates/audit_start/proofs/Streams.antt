-- Bytes that are read in several calls.
use Rattle.std.proofs.Common.{◌≡◌, ℕ, suc, true, ◌<◌, List, length, Option, Some, None, refl, ap, length-append, arith}
use Rattle.std.specs.Io.KnownBytes.{Consumes}
use Rattle.audit_statement.specs.Accepted.{most_bytes}
use Rattle.audit_statement.specs.Endings.{TakesTooMany}
use Rattle.audit_start.specs.Steps.{ReadsTooMany}
use Rattle.audit_model.specs.State.{Stream}
use Rattle.audit_model.specs.Observed.{IfObserved}

-- the remaining bytes: the known ones, or else those consumed
abbrev pub left_or : Option (List ℕ) → List ℕ → List ℕ
left_or None xs = xs
left_or (Some left) xs = left

-- the known bytes are the remaining ones
pub left_is : (a : Option (List ℕ)) (xs : List ℕ) → IfObserved a (λ left. left ≡ left_or a xs)
left_is None xs = tt
left_is (Some left) xs = refl

-- if many bytes were consumed, many remained
pub left_many : (a c : Option (List ℕ)) (xs : List ℕ) (n : ℕ) → Consumes a c xs → n < length xs → n < length (left_or a xs)
left_many None c xs n p h = h
left_many (Some u) None xs n p h = absurd p
left_many (Some u) (Some v) xs n p h = omega (arith, ap length p, length-append xs v)

-- one more byte than the limit was read
pub left_taken : (a c : Option (List ℕ)) (xs : List ℕ) → Consumes a c xs → length xs ≡ suc most_bytes → TakesTooMany true a c
left_taken None c xs p h = tt
left_taken (Some u) None xs p h = absurd p
left_taken (Some u) (Some v) xs p h = omega (arith, ap length p, length-append xs v)

-- more bytes than the limit remained, and one more than the limit was read
pub reads_too_many : (before after : Stream) (xs : List ℕ) → Consumes before.bytes after.bytes xs → length xs ≡ suc most_bytes
    → after.faults ≡ before.faults → ReadsTooMany before after
reads_too_many before after xs p h same = record {
  bytes = left_or before.bytes xs;
  given = left_is before.bytes xs;
  many = left_many before.bytes after.bytes xs most_bytes p (omega arith);
  taken = left_taken before.bytes after.bytes xs p h;
  faults = same;
}
