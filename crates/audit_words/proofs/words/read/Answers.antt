use Rattle.std.proofs.Common.{◌≡◌, ◌∙◌, Some, None, Ok, Err, ap, sym, subst, inl, inr, string_bytes}
use Rattle.std.proofs.lemmas.Result.{err_from_is_err_and}
use Rattle.audit_model.specs.declared.fault.WordFault.TheVariants as fault
use Rattle.audit_model.specs.Limits.{IsSetting}
use Rattle.audit_words.specs.ArgumentBytes.{argument_bytes, pairs_in}
use Rattle.audit_words.proofs.Accepted.{IsSetting-good}
use Rattle.audit_words.proofs.ValidValues.{AreReadable-good}
use Rattle.audit_words.proofs.Reading.{argument_bytes-empty, setting_of-no_words, setting_of-other_word, setting_of-command, refused_by_pairs, refused_by_names, refused_by_values, refused_by_walks, taken}
use Rattle.audit_statement.specs.Words as definition
use Rattle.audit_words.proofs.words.read.Goals as goal

pub returns-in_default-clause-exact : goal.returns-in_default-clause-exact
returns-in_default-clause-exact c = inr (setting_of-no_words (argument_bytes c.args.words.now) (argument_bytes-empty c.args.words.now c.in_default.ensures.cases))

pub returns-in_default-command_of-clause-exact : goal.returns-in_default-command_of-clause-exact
returns-in_default-command_of-clause-exact c =
    let other : None ≡ definition.command_of (string_bytes c.in-Some.word.now) = subst (λ t. None ≡ definition.command_of t) c.as_str.ensures.value c.in_default-command_of.ensures in
    let whole = setting_of-other_word (argument_bytes c.args.words.now) (string_bytes c.in-Some.word.now) (argument_bytes c.in-Some.rest.now) (ap argument_bytes c.in-Some.ensures.cases.0) other in
    elim c.unknown_command.ensures [
      | inl memory ↦ inl memory
      | inr found ↦ inr (whole ∙ ap (λ t. Err (fault.UnknownCommand t)) (sym c.as_str-in_default-command_of.ensures.value) ∙ ap (λ f. Err f) (sym found))
    ]

pub returns-in_err-judge_pairs-clause-exact : goal.returns-in_err-judge_pairs-clause-exact
returns-in_err-judge_pairs-clause-exact c =
    let p = err_from_is_err_and c.from_residual.result c.from_residual.ensures.1 in
    let known : Some c.in-Some-command_of.command ≡ definition.command_of (string_bytes c.in-Some.word.now) = subst (λ t. Some c.in-Some-command_of.command ≡ definition.command_of t) c.as_str.ensures.value c.in-Some-command_of.ensures in
    let whole = setting_of-command (argument_bytes c.args.words.now) (string_bytes c.in-Some.word.now) (argument_bytes c.in-Some.rest.now) c.in-Some-command_of.command (ap argument_bytes c.in-Some.ensures.cases.0) known in
    rw (p.1, p.2) (elim c.in_err-judge_pairs.ensures [
      | inl memory ↦ inl memory
      | inr found ↦ inr (whole ∙ refused_by_pairs c.in-Some-command_of.command (pairs_in c.in-Some.rest.now) c.in_err-judge_pairs.field-0.0 found)
    ])

pub returns-in_err-judge_missing-clause-exact : goal.returns-in_err-judge_missing-clause-exact
returns-in_err-judge_missing-clause-exact c =
    let p = err_from_is_err_and c.from_residual-in_err-judge_missing.result c.from_residual-in_err-judge_missing.ensures.1 in
    let known : Some c.in-Some-command_of.command ≡ definition.command_of (string_bytes c.in-Some.word.now) = subst (λ t. Some c.in-Some-command_of.command ≡ definition.command_of t) c.as_str.ensures.value c.in-Some-command_of.ensures in
    let whole = setting_of-command (argument_bytes c.args.words.now) (string_bytes c.in-Some.word.now) (argument_bytes c.in-Some.rest.now) c.in-Some-command_of.command (ap argument_bytes c.in-Some.ensures.cases.0) known in
    rw (p.1, p.2) (elim c.in_err-judge_missing.ensures [
      | inl memory ↦ inl memory
      | inr found ↦ inr (whole ∙ refused_by_names c.in-Some-command_of.command (pairs_in c.in-Some.rest.now) c.in_err-judge_missing.field-0.0 c.in_ok-judge_pairs.ensures found)
    ])

pub returns-in_err-judge_values-clause-exact : goal.returns-in_err-judge_values-clause-exact
returns-in_err-judge_values-clause-exact c =
    let p = err_from_is_err_and c.from_residual-in_err-judge_values.result c.from_residual-in_err-judge_values.ensures.1 in
    let known : Some c.in-Some-command_of.command ≡ definition.command_of (string_bytes c.in-Some.word.now) = subst (λ t. Some c.in-Some-command_of.command ≡ definition.command_of t) c.as_str.ensures.value c.in-Some-command_of.ensures in
    let whole = setting_of-command (argument_bytes c.args.words.now) (string_bytes c.in-Some.word.now) (argument_bytes c.in-Some.rest.now) c.in-Some-command_of.command (ap argument_bytes c.in-Some.ensures.cases.0) known in
    rw (p.1, p.2) (elim c.in_err-judge_values.ensures [
      | inl memory ↦ inl memory
      | inr found ↦ inr (whole ∙ refused_by_values c.in-Some-command_of.command (pairs_in c.in-Some.rest.now) c.in_err-judge_values.field-0.0 c.in_ok-judge_pairs.ensures c.in_ok-judge_missing.ensures found)
    ])

pub returns-in_err-judge_walks-clause-exact : goal.returns-in_err-judge_walks-clause-exact
returns-in_err-judge_walks-clause-exact c =
    let p = err_from_is_err_and c.from_residual-in_err-judge_walks.result c.from_residual-in_err-judge_walks.ensures.1 in
    let known : Some c.in-Some-command_of.command ≡ definition.command_of (string_bytes c.in-Some.word.now) = subst (λ t. Some c.in-Some-command_of.command ≡ definition.command_of t) c.as_str.ensures.value c.in-Some-command_of.ensures in
    let whole = setting_of-command (argument_bytes c.args.words.now) (string_bytes c.in-Some.word.now) (argument_bytes c.in-Some.rest.now) c.in-Some-command_of.command (ap argument_bytes c.in-Some.ensures.cases.0) known in
    rw (p.1, p.2) (elim c.in_err-judge_walks.ensures [
      | inl memory ↦ inl memory
      | inr found ↦ inr (whole ∙ refused_by_walks c.in-Some-command_of.command (pairs_in c.in-Some.rest.now) c.in_err-judge_walks.field-0.0 c.in_ok-judge_pairs.ensures c.in_ok-judge_missing.ensures c.in_ok-judge_values.ensures found)
    ])

pub returns-in-Ok-clause-exact : goal.returns-in-Ok-clause-exact
returns-in-Ok-clause-exact c =
    let known : Some c.in-Some-command_of.command ≡ definition.command_of (string_bytes c.in-Some.word.now) = subst (λ t. Some c.in-Some-command_of.command ≡ definition.command_of t) c.as_str.ensures.value c.in-Some-command_of.ensures in
    let whole = setting_of-command (argument_bytes c.args.words.now) (string_bytes c.in-Some.word.now) (argument_bytes c.in-Some.rest.now) c.in-Some-command_of.command (ap argument_bytes c.in-Some.ensures.cases.0) known in
    whole ∙ taken c.in-Some-command_of.command (pairs_in c.in-Some.rest.now) c.in_ok-judge_pairs.ensures c.in_ok-judge_missing.ensures c.in_ok-judge_values.ensures c.in_ok-judge_walks.ensures
    ∙ ap (λ s. Ok s) (sym c.in-Ok.ensures)

pub setting_for-requires : goal.setting_for-requires
setting_for-requires c = AreReadable-good c.as_str.result.now c.in-Some-command_of.command (pairs_in c.in-Some.rest.now) c.in-Some-command_of.ensures c.in_ok-judge_pairs.ensures c.in_ok-judge_values.ensures

pub returns-in-Ok-clause-within : goal.returns-in-Ok-clause-within
returns-in-Ok-clause-within c =
    let readable = AreReadable-good c.as_str.result.now c.in-Some-command_of.command (pairs_in c.in-Some.rest.now) c.in-Some-command_of.ensures c.in_ok-judge_pairs.ensures c.in_ok-judge_values.ensures in
    subst IsSetting (sym c.in-Ok.ensures) (IsSetting-good c.in-Some-command_of.command (pairs_in c.in-Some.rest.now) readable)
