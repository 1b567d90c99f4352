-- Texts of folders, one after the other.
use Rattle.std.proofs.Common.{◌≡◌, ◌⊎◌, ◌∙◌, ℕ, zero, suc, ◌+◌, ◌-◌, ◌<◌, ◌≤◌, Bool, true, false, List, [], ◌∷◌, ◌++◌, length, take, drop, get_or, min, refl, sym, ap, append_assoc, append-nil, arith, subst, inl, inr}
use Rattle.std.proofs.KnownBytes.{Appends-nil}
use Rattle.std.proofs.lemmas.Bool.{cases_lt}
use Rattle.audit_model.specs.State.{Stream}
use Rattle.audit_statement.specs.Endings.{AddsLine}
use Rattle.ckpt_store.specs.declared.finding.Finding.{Finding}
use Rattle.audit_folders.specs.FolderLines.{name_of, of_each}
use Rattle.report.specs.AddedText.{AddsText, HasAdded, LetsNext}
use Rattle.audit_statement.specs.DueText.{LetsBytes}
use Rattle.report.proofs.Letting.{next_as, next_front, next_rest}

-- the name of a folder other than the working folder
pub name_behind : (names : List (List ℕ)) (n : ℕ) → (n ≡ 0 → ⊥) → name_of names n ≡ get_or names (n - 1) []
name_behind names zero other = absurd (other refl)
name_behind names (suc n) other = ap (λ m. get_or names m []) (omega arith)

-- ---- appended texts

module _ {before after : Stream} {going result : Bool} where
  -- the appended text may be replaced by an equal one
  pub adds_as : {one other : List ℕ} → AddsText before after going one result → one ≡ other → AddsText before after going other result
  adds_as a e = subst (λ (t : List ℕ). AddsText before after going t result) e a

-- nothing was appended
pub adds_none : {s : Stream} {going : Bool} → AddsText s s going [] going
adds_none {s = s} {going = going} = record { adds = λ start text_so_far h. subst (λ (t : List ℕ). HasAdded start s t going) (sym (append-nil text_so_far)) h }

-- one text was appended after another
pub adds_both : {a b c : Stream} {first then last : Bool} {one other : List ℕ} → AddsText a b first one then → AddsText b c then other last → AddsText a c first (one ++ other) last
adds_both {c = c} {last = last} {one = one} {other = other} x y = record {
  adds = λ start text_so_far s. subst (λ (t : List ℕ). HasAdded start c t last) (append_assoc text_so_far one other) (y.adds start (text_so_far ++ one) (x.adds start text_so_far s));
}

-- a text appended to nothing was written
pub said_of : {a b : Stream} {text : List ℕ} {result : Bool} → AddsText a b true text result → HasAdded a b text result
said_of {a = a} x = x.adds a [] (Appends-nil a.bytes, refl)

-- a text written in full or in part was appended
pub added_line : {a b : Stream} {text : List ℕ} (result : Bool) → HasAdded a b text result → AddsLine a b text
added_line true s = record { added = inl s }
added_line false s = record { added = inr s }

module _ (say : List ℕ → Finding → List ℕ) where
  -- the text of one more folder
  each_suc : (names : List (List ℕ)) (found : List Finding) (i : ℕ) (name : List ℕ) (what : Finding) → i < length names → i < length found
      → of_each say (take (suc i) names) (take (suc i) found) ≡ of_each say (take i names) (take i found) ++ say (get_or names i name) (get_or found i what)
  each_suc [] found i name what l m = absurd (omega (arith, l))
  each_suc (n ∷ names) [] i name what l m = absurd (omega (arith, m))
  each_suc (n ∷ names) (f ∷ found) zero name what l m = append-nil (say n f)
  each_suc (n ∷ names) (f ∷ found) (suc i) name what l m =
      ap (λ t. say n f ++ t) (each_suc names found i name what (omega (arith, l)) (omega (arith, m)))
      ∙ sym (append_assoc (say n f) (of_each say (take i names) (take i found)) (say (get_or names i name) (get_or found i what)))

  pub each_more : (names : List (List ℕ)) (found : List Finding) (i next : ℕ) (name : List ℕ) (what : Finding) → next ≡ i + 1 → i < length names → i < length found
      → of_each say (take next names) (take next found) ≡ of_each say (take i names) (take i found) ++ say (get_or names i name) (get_or found i what)
  each_more names found i next name what is l m =
      let one : next ≡ suc i = omega (arith, is) in
      ap (λ k. of_each say (take k names) (take k found)) one ∙ each_suc names found i name what l m

  -- the text of one more folder, with its name given by an equation
  pub each_next : (names : List (List ℕ)) (found : List Finding) (i next : ℕ) (seen : List ℕ) (what : Finding) → seen ≡ get_or names i [] → next ≡ i + 1 → i < length names
      → i < length found → of_each say (take i names) (take i found) ++ say seen (get_or found i what) ≡ of_each say (take next names) (take next found)
  each_next names found i next seen what name is l m =
      ap (λ (n : List ℕ). of_each say (take i names) (take i found) ++ say n (get_or found i what)) name ∙ sym (each_more names found i next [] what is l m)

  -- the texts of all folders
  pub each_all : (names : List (List ℕ)) (found : List Finding) (i : ℕ) → (length names ≤ i) ⊎ (length found ≤ i)
      → of_each say (take i names) (take i found) ≡ of_each say names found
  each_all [] [] i all = ends i
    where
      ends : (j : ℕ) → of_each say (take j []) (take j []) ≡ []
      ends zero = refl
      ends (suc j) = refl
  each_all [] (f ∷ found) zero all = refl
  each_all [] (f ∷ found) (suc i) all = refl
  each_all (n ∷ names) [] zero all = refl
  each_all (n ∷ names) [] (suc i) all = refl
  each_all (n ∷ names) (f ∷ found) zero (inl l) = absurd (omega (arith, l))
  each_all (n ∷ names) (f ∷ found) zero (inr l) = absurd (omega (arith, l))
  each_all (n ∷ names) (f ∷ found) (suc i) (inl l) = ap (λ t. say n f ++ t) (each_all names found i (inl (omega (arith, l))))
  each_all (n ∷ names) (f ∷ found) (suc i) (inr l) = ap (λ t. say n f ++ t) (each_all names found i (inr (omega (arith, l))))

  -- the texts before a place, the text there and those after it
  each_split : (names : List (List ℕ)) (found : List Finding) (i : ℕ) (name : List ℕ) (what : Finding) → i < length names → i < length found
      → of_each say names found
      ≡ of_each say (take i names) (take i found) ++ (say (get_or names i name) (get_or found i what) ++ of_each say (drop (suc i) names) (drop (suc i) found))
  each_split [] found i name what l m = absurd (omega (arith, l))
  each_split (n ∷ names) [] i name what l m = absurd (omega (arith, m))
  each_split (n ∷ names) (f ∷ found) zero name what l m = refl
  each_split (n ∷ names) (f ∷ found) (suc i) name what l m =
      ap (λ t. say n f ++ t) (each_split names found i name what (omega (arith, l)) (omega (arith, m)))
      ∙ sym (append_assoc (say n f) (of_each say (take i names) (take i found)) (say (get_or names i name) (get_or found i what) ++ of_each say (drop (suc i) names) (drop (suc i) found)))

  -- after the texts before a place, the text there comes next
  pub next_each : {lets : LetsBytes} {s t : Stream} {going then : Bool} (names : List (List ℕ)) (found : List Finding) (i : ℕ) (seen : List ℕ) (what : Finding)
      → seen ≡ get_or names i [] → i < length names → i < length found → LetsNext lets s going (of_each say names found)
      → AddsText s t going (of_each say (take i names) (take i found)) then → LetsNext lets t then (say seen (get_or found i what))
  next_each names found i seen what is l m permitted added =
      let here = say (get_or names i []) (get_or found i what) in
      let rest = of_each say (drop (suc i) names) (drop (suc i) found) in
      next_as (next_front here rest (next_rest (of_each say (take i names) (take i found)) (here ++ rest) (next_as permitted (each_split names found i [] what l m)) added.adds))
      (ap (λ n. say n (get_or found i what)) (sym is))

-- a place past the lesser of two lengths is past one of them
pub past : (a b count i : ℕ) {n : ℕ} → count ≡ min a b → n ≡ a → count ≤ i → (n ≤ i) ⊎ (b ≤ i)
past a b count i {n} is same over = elim (cases_lt a b) [
  | inl lt ↦ inl (omega (arith, is, same, over, lt))
  | inr le ↦ inr (omega (arith, is, same, over, le))
]
