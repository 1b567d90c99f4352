-- Arguments that ask neither for help nor for the version.
use Rattle.std.proofs.Common.{◌≡◌, ◌≢◌, ◌∙◌, ℕ, Bool, true, false, List, [], ◌∷◌, Option, Some, None, Ok, refl, ap, subst}
use Rattle.std.proofs.lemmas.Bool.{false≢true}
use Rattle.std.proofs.lemmas.Slice.Eq.{bytes_eq-Decides}
use Rattle.std.specs.Prelude.{bytes_eq, codes, cond, option_map, IsErr}
use Rattle.audit_model.specs.declared.setting.Setting.{Setting}
use Rattle.audit_statement.specs.Words.{command_of, setting_of}
use Rattle.audit_words.specs.declared.question.Question.{Question}
use Rattle.audit_words.specs.declared.question.Question.TheVariants.{Arguments}
use Rattle.audit_words.specs.Laws.{QuestionsWereRefused}
use Rattle.audit_words.specs.Questions.{question_of}

-- `run` and an argument other than `--help` ask for neither
run_and_word : (next : List ℕ) (help : Bool) → bytes_eq next (codes "--help") ≡ help → next ≢ codes "--help" → question_of (codes "run" ∷ next ∷ []) ≡ None
run_and_word next true e other = absurd (other ((bytes_eq-Decides next (codes "--help")).0 e))
run_and_word next false e other = ap (λ b. cond b (option_map Arguments (command_of (codes "run"))) None) e

-- the arguments of `run` ask for neither, except `run --help`
pub run_asks_nothing : (words rest : List (List ℕ)) → words ≡ codes "run" ∷ rest → words ≢ codes "run" ∷ codes "--help" ∷ [] → question_of words ≡ None
run_asks_nothing words [] is other = ap question_of is
run_asks_nothing words (next ∷ []) is other =
    ap question_of is ∙ run_and_word next (bytes_eq next (codes "--help")) refl (λ same. other (is ∙ ap (λ n. codes "run" ∷ n ∷ []) same))
run_asks_nothing words (next ∷ more ∷ rest) is other = ap question_of is

-- accepted arguments ask for neither
pub accepted_ask_nothing : QuestionsWereRefused → (words : List (List ℕ)) (setting : Setting) → setting_of words ≡ Ok setting → question_of words ≡ None
accepted_ask_nothing refused words setting ok = by_question (question_of words) refl
  where
    by_question : (asked : Option Question) → question_of words ≡ asked → question_of words ≡ None
    by_question None e = e
    by_question (Some question) e = absurd (false≢true (subst IsErr ok (refused words question e)))
