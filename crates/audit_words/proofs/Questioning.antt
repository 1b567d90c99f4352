-- Arguments that ask for help or the version are no arguments of an audit.
use Rattle.std.proofs.Common.{◌≡◌, ℕ, Bool, true, false, List, [], ◌∷◌, Option, Some, None, refl, sym, subst}
use Rattle.std.proofs.lemmas.Slice.Eq.{bytes_eq-Decides}
use Rattle.std.specs.Prelude.{bytes_eq, codes, cond, option_map, IsErr}
use Rattle.audit_model.specs.declared.setting.Command.{Command}
use Rattle.audit_model.specs.declared.setting.Command.TheVariants.{Check, Run, Make, Plans, Trace}
use Rattle.audit_statement.specs.Words.{command_of, of_command, pairs, setting_of}
use Rattle.audit_words.specs.declared.question.Question.{Question}
use Rattle.audit_words.specs.declared.question.Question.TheVariants.{Usage, Version, Arguments}
use Rattle.audit_words.specs.Laws.{QuestionsWereRefused}

-- each command refuses `--help`, which is no name of its arguments
refused_of : (word : List ℕ) (command : Command) → IsErr (of_command word (pairs (codes "--help" ∷ [])) (Some command))
refused_of word Check = refl
refused_of word Run = refl
refused_of word Make = refl
refused_of word Plans = refl
refused_of word Trace = refl

-- a single argument `--help` or `--version` is refused
by_word : (word : List ℕ) (help version : Bool) (question : Question) → bytes_eq word (codes "--help") ≡ help → bytes_eq word (codes "--version") ≡ version
    → cond help (Some Usage) (cond version (Some Version) None) ≡ Some question → IsErr (setting_of (word ∷ []))
unfolding setting_of
by_word word true version question e f asked =
    subst (λ w. IsErr (setting_of (w ∷ []))) (sym ((bytes_eq-Decides word (codes "--help")).0 e)) refl
by_word word false true question e f asked =
    subst (λ w. IsErr (setting_of (w ∷ []))) (sym ((bytes_eq-Decides word (codes "--version")).0 f)) refl
by_word word false false question e f asked = cc

-- a command followed by `--help` is refused
by_two : (word next : List ℕ) (help : Bool) (command : Option Command) (question : Question) → bytes_eq next (codes "--help") ≡ help → command_of word ≡ command
    → cond help (option_map Arguments command) None ≡ Some question → IsErr (setting_of (word ∷ next ∷ []))
unfolding setting_of
by_two word next false command question e c asked = cc
by_two word next true None question e c asked = cc
by_two word next true (Some command) question e c asked =
    subst (λ o. IsErr (of_command word (pairs (next ∷ [])) o)) (sym c)
    (subst (λ n. IsErr (of_command word (pairs (n ∷ [])) (Some command))) (sym ((bytes_eq-Decides next (codes "--help")).0 e)) (refused_of word command))

-- arguments that ask for help or the version are refused as those of an audit
pub asking_refused : QuestionsWereRefused
asking_refused [] question asked = cc
asking_refused (word ∷ []) question asked = by_word word (bytes_eq word (codes "--help")) (bytes_eq word (codes "--version")) question refl refl asked
asking_refused (word ∷ next ∷ []) question asked = by_two word next (bytes_eq next (codes "--help")) (command_of word) question refl refl asked
asking_refused (word ∷ next ∷ more ∷ rest) question asked = cc
