-- Writing bytes in several calls.
use Rattle.std.proofs.Common.{ℕ, ◌+◌, ◌≤◌, List, ◌++◌, length, take, drop, Option, Some, None, ap, sym, subst, ◌-◌, ◌∙◌, append_assoc, length-append, arith}
use Rattle.std.proofs.lemmas.List.{take-take, take-append-le}
use Rattle.std.proofs.Math.Seq.{take-add, take-append-add}
use Rattle.std.specs.Io.KnownBytes.{Appends}
use Rattle.std.proofs.KnownBytes.{Appends-trans}
pub use Rattle.std.proofs.KnownBytes.{Appends-trans as appends_more, Appends-nil as appends_nothing}
use Rattle.audit_statement.specs.Endings.{AppendsPart}

-- a piece of a text and the piece after it are appended as one
pub appends_then : (a b c : Option (List ℕ)) (text : List ℕ) (at n : ℕ) → Appends a b (take at text) → Appends b c (take n (drop at text)) → Appends a c (take (at + n) text)
appends_then None b c text at n p q = tt
appends_then (Some u) None c text at n p q = absurd p
appends_then (Some u) (Some v) None text at n p q = absurd q
appends_then (Some u) (Some v) (Some w) text at n p q =
    rw take-add (q ∙ ap (λ r. r ++ take n (drop at text)) p ∙ append_assoc u (take at text) (take n (drop at text)))

-- writing the rest of a text continues from its front
pub appends_rest : (a b c : Option (List ℕ)) (text : List ℕ) (at n : ℕ) → Appends a b (take at text) → n ≤ length text - at
    → Appends b c (take n (take (length text - at) (drop at text))) → Appends a c (take (at + n) text)
appends_rest a b c text at n p few q =
    appends_then a b c text at n p (subst (λ (xs : List ℕ). Appends b c xs) (take-take n (length text - at) (drop at text) few) q)

-- a part of a text is a part of a longer one
pub part_of_more : (a b : Option (List ℕ)) (xs ys : List ℕ) → AppendsPart a b xs → AppendsPart a b (xs ++ ys)
part_of_more a b xs ys (n, few, p) =
    (n, omega (arith, length-append xs ys, few), subst (λ (zs : List ℕ). Appends a b zs) (sym (take-append-le n xs ys few)) p)

-- a whole text and a part of the next one are a part of both
pub part_after : (a b c : Option (List ℕ)) (xs ys : List ℕ) → Appends a b xs → AppendsPart b c ys → AppendsPart a c (xs ++ ys)
part_after a b c xs ys p (n, few, q) = (
  length xs + n,
  omega (arith, length-append xs ys, few),
  subst (λ (zs : List ℕ). Appends a c zs) (sym (take-append-add xs ys n)) (Appends-trans a b c xs (take n ys) p q),
)
