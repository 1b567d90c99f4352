use Rattle.std.proofs.Common.{◌≡◌, ◌∙◌, ℕ, List, ◌++◌, ◌/◌, ◌%◌, ap, sym, decimal}
use Rattle.std.specs.Prelude.{bytes_eq}
use Rattle.audit_statement.specs.Words.{quarter_digits}
use Rattle.audit_words.proofs.Prefixes.{behind_decides, begins_otherwise}
use Rattle.audit_words.proofs.values.is_spelled.Goals as goal

pub returns-in-Some : goal.returns-in-Some
returns-in-Some c =
    let text = c.args.text.now in
    let whole = c.as_bytes-whole.result.now in
    let more = quarter_digits (c.args.quarters % 4) in
    let rest = c.in-Some.rest.now in
    let front : whole ≡ decimal (c.args.quarters / 4) = c.as_bytes-whole.ensures.value ∙ c.format.ensures.text in
    let behind : c.as_bytes-in-Some.result.now ≡ more = c.as_bytes-in-Some.ensures.value ∙ c.quarter_digits.ensures in
    c.eq.ensures ∙ ap (λ (t : List ℕ). bytes_eq rest t) behind
    ∙ behind_decides c.as_bytes.result.now whole rest more c.in-Some.ensures.cases.0 c.in-Some.ensures.cases.1
    ∙ ap (λ (t : List ℕ). bytes_eq (whole ++ more) t) c.as_bytes.ensures.value
    ∙ ap (λ (t : List ℕ). bytes_eq (t ++ more) text) front

pub returns-in-None : goal.returns-in-None
returns-in-None c =
    let text = c.args.text.now in
    let whole = c.as_bytes-whole.result.now in
    let more = quarter_digits (c.args.quarters % 4) in
    let front : whole ≡ decimal (c.args.quarters / 4) = c.as_bytes-whole.ensures.value ∙ c.format.ensures.text in
    sym (begins_otherwise c.as_bytes.result.now whole more c.in-None.ensures.cases)
    ∙ ap (λ (t : List ℕ). bytes_eq (whole ++ more) t) c.as_bytes.ensures.value
    ∙ ap (λ (t : List ℕ). bytes_eq (t ++ more) text) front
