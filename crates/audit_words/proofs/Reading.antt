-- The setting of arguments, by the order of the tests for faults.
use Rattle.std.proofs.Common.{◌≡◌, ◌∙◌, ℕ, arith, List, [], ◌∷◌, length, refl, ap, sym, String, Option, Some, None, Ok, Err}
use Rattle.audit_model.specs.First.{first_some}
use Rattle.audit_model.specs.declared.fault.WordFault.{WordFault}
use Rattle.audit_model.specs.declared.fault.WordFault.TheVariants.{NoCommand, UnknownCommand}
use Rattle.audit_model.specs.declared.setting.Command.{Command}
use Rattle.audit_words.specs.Judged.{fault_of_pairs, fault_of_names, fault_of_values, fault_of_walks}
use Rattle.audit_words.specs.ArgumentBytes.{argument_bytes}
use Rattle.audit_statement.specs.Words.{NameAndValue, pairs, command_of, fault_of, of_command, setting_for, setting_or, setting_of}

-- the first of four options has a value
first_of : {A : Type 0} (a b c d : Option A) (x : A) → a ≡ Some x → first_some (a ∷ b ∷ c ∷ d ∷ []) ≡ Some x
first_of a b c d x h = rw h refl

-- if the first of four options is empty, the second is the first with a value
second_of : {A : Type 0} (a b c d : Option A) (x : A) → a ≡ None → b ≡ Some x → first_some (a ∷ b ∷ c ∷ d ∷ []) ≡ Some x
second_of a b c d x none h = rw (none, h) refl

-- if the first two of four options are empty, the third is the first with a value
third_of : {A : Type 0} (a b c d : Option A) (x : A) → a ≡ None → b ≡ None → c ≡ Some x → first_some (a ∷ b ∷ c ∷ d ∷ []) ≡ Some x
third_of a b c d x none nor h = rw (none, nor, h) refl

-- if the first three of four options are empty, the answer is the fourth
fourth_of : {A : Type 0} (a b c d : Option A) (o : Option A) → a ≡ None → b ≡ None → c ≡ None → d ≡ o → first_some (a ∷ b ∷ c ∷ d ∷ []) ≡ o
fourth_of a b c d None none nor neither h = rw (none, nor, neither, h) refl
fourth_of a b c d (Some x) none nor neither h = rw (none, nor, neither, h) refl

-- without words there are no bytes
pub argument_bytes-empty : {A : Type 0} (words : List (String A)) → length words ≡ 0 → argument_bytes words ≡ []
argument_bytes-empty [] h = refl
argument_bytes-empty (word ∷ words) h = absurd (omega arith)

-- without words there is no command
pub setting_of-no_words : (words : List (List ℕ)) → words ≡ [] → setting_of words ≡ Err NoCommand
unfolding setting_of
setting_of-no_words words h = ap setting_of h

-- a first word that is no command is refused by name
pub setting_of-other_word : (words : List (List ℕ)) (word : List ℕ) (rest : List (List ℕ)) → words ≡ word ∷ rest → None ≡ command_of word → setting_of words ≡ Err (UnknownCommand word)
unfolding setting_of
setting_of-other_word words word rest h e = ap setting_of h ∙ ap (of_command word (pairs rest)) (sym e)

-- the arguments of a command
pub setting_of-command : (words : List (List ℕ)) (word : List ℕ) (rest : List (List ℕ)) (command : Command) → words ≡ word ∷ rest → Some command ≡ command_of word
    → setting_of words ≡ setting_or command (pairs rest) (fault_of command (pairs rest))
unfolding setting_of
setting_of-command words word rest command h e = ap setting_of h ∙ ap (of_command word (pairs rest)) (sym e)

module _ (command : Command) (words : List NameAndValue) where
  pub refused_by_pairs : (fault : WordFault) → fault_of_pairs command words ≡ Some fault → setting_or command words (fault_of command words) ≡ Err fault
  refused_by_pairs fault h = ap (setting_or command words) (first_of (fault_of_pairs command words) (fault_of_names command words) (fault_of_values command words) (fault_of_walks words) fault h)

  pub refused_by_names : (fault : WordFault) → fault_of_pairs command words ≡ None → fault_of_names command words ≡ Some fault → setting_or command words (fault_of command words) ≡ Err fault
  refused_by_names fault none h = ap (setting_or command words) (second_of (fault_of_pairs command words) (fault_of_names command words) (fault_of_values command words) (fault_of_walks words) fault none h)

  pub refused_by_values : (fault : WordFault) → fault_of_pairs command words ≡ None → fault_of_names command words ≡ None → fault_of_values command words ≡ Some fault
      → setting_or command words (fault_of command words) ≡ Err fault
  refused_by_values fault none nor h = ap (setting_or command words) (third_of (fault_of_pairs command words) (fault_of_names command words) (fault_of_values command words) (fault_of_walks words) fault none nor h)

  pub refused_by_walks : (fault : WordFault) → fault_of_pairs command words ≡ None → fault_of_names command words ≡ None → fault_of_values command words ≡ None
      → fault_of_walks words ≡ Some fault → setting_or command words (fault_of command words) ≡ Err fault
  refused_by_walks fault none nor neither h = ap (setting_or command words) (fourth_of (fault_of_pairs command words) (fault_of_names command words) (fault_of_values command words) (fault_of_walks words) (Some fault) none nor neither h)

  pub taken : fault_of_pairs command words ≡ None → fault_of_names command words ≡ None → fault_of_values command words ≡ None → fault_of_walks words ≡ None
      → setting_or command words (fault_of command words) ≡ Ok (setting_for command words)
  taken none nor neither enough = ap (setting_or command words) (fourth_of (fault_of_pairs command words) (fault_of_names command words) (fault_of_values command words) (fault_of_walks words) None none nor neither enough)
