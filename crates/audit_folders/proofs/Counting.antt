-- The words before the first command, counted one by one.
use Rattle.std.proofs.Common.{◌≡◌, ◌∙◌, ℕ, zero, suc, ◌+◌, ◌<◌, Bool, true, false, List, [], ◌∷◌, cond, drop, get_or, length, ap, arith, sym}
use Rattle.std.specs.Prelude.{is_some}
use Rattle.audit_folders.specs.GatherProgram.{count_folders}
use Rattle.audit_statement.specs.Words.{command_of}

more_suc : (words : List (List ℕ)) (i : ℕ) (word : List ℕ) → i < length words → is_some (command_of (get_or words i word)) ≡ false
    → count_folders (drop i words) ≡ suc (count_folders (drop (suc i) words))
more_suc [] i word l e = absurd (omega (arith, l))
more_suc (w ∷ ws) zero word l e = ap (λ (b : Bool). cond {A = ℕ} b 0 (suc (count_folders ws))) e
more_suc (w ∷ ws) (suc i) word l e = more_suc ws i word (omega (arith, l)) e

-- a word that is no command is one more folder
pub one_more : (words : List (List ℕ)) (i next : ℕ) (word : List ℕ) → next ≡ i + 1 → i < length words → is_some (command_of (get_or words i word)) ≡ false
    → count_folders (drop i words) ≡ suc (count_folders (drop next words))
one_more words i next word is l e =
    let one : next ≡ suc i = omega (arith, is) in
    more_suc words i word l e ∙ ap (λ k. suc (count_folders (drop k words))) (sym one)

-- no folder is counted at a command
pub no_more : (words : List (List ℕ)) (i : ℕ) (word : List ℕ) → i < length words → is_some (command_of (get_or words i word)) ≡ true → count_folders (drop i words) ≡ 0
no_more [] i word l e = absurd (omega (arith, l))
no_more (w ∷ ws) zero word l e = ap (λ (b : Bool). cond {A = ℕ} b 0 (suc (count_folders ws))) e
no_more (w ∷ ws) (suc i) word l e = no_more ws i word (omega (arith, l)) e
