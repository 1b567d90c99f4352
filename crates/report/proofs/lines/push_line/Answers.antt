use Rattle.std.proofs.Common.{◌≡◌, ◌∷◌, ◌++◌, ap, map, [], sym, subst, ◌∙◌}
use Rattle.std.proofs.lemmas.Result.{err_from_is_err_and}
use Rattle.std.proofs.lemmas.List.{nil_from_length}
use Rattle.report.specs.Lines.{word_text, tail_of, AppendsText}
use Rattle.report.proofs.Written.{line-cons, appends-two, appends-err}
use Rattle.audit_statement.specs.Report.{line}
use Rattle.report.proofs.lines.push_line.Goals as goal

pub returns-in_default : goal.returns-in_default
returns-in_default c =
    let whole : 10 ∷ [] ≡ line (map word_text c.args.words.now) = ap (λ w. line (map word_text w)) (sym (nil_from_length c.args.words.now c.in_default.ensures.cases)) in
    subst (λ t. AppendsText c.args.out.now c.push.new.self t c.push.result) whole (record { ok = c.push.ensures.ok; room = c.push.ensures.room })

pub returns-in_err-push_word : goal.returns-in_err-push_word
returns-in_err-push_word c =
    let p = err_from_is_err_and c.from_residual.result c.from_residual.ensures.1 in
    let whole : line (map word_text c.args.words.now) ≡ word_text c.in-Some.first.now ++ tail_of (map word_text c.in-Some.rest.now) =
    ap (λ w. line (map word_text w)) c.in-Some.ensures.cases.0 ∙ line-cons (word_text c.in-Some.first.now) (map word_text c.in-Some.rest.now) in
    rw (p.1, p.2, whole) (appends-err c.args.out.now c.push_word.new.out (word_text c.in-Some.first.now) (tail_of (map word_text c.in-Some.rest.now)) c.in_err-push_word.field-0.0 c.in_err-push_word.ensures)

pub returns : goal.returns
returns c =
    let whole : line (map word_text c.args.words.now) ≡ word_text c.in-Some.first.now ++ tail_of (map word_text c.in-Some.rest.now) =
    ap (λ w. line (map word_text w)) c.in-Some.ensures.cases.0 ∙ line-cons (word_text c.in-Some.first.now) (map word_text c.in-Some.rest.now) in
    subst (λ t. AppendsText c.args.out.now c.push_tail.new.out t c.push_tail.result) (sym whole)
    (appends-two c.args.out.now c.push_word.new.out c.push_tail.new.out (word_text c.in-Some.first.now) (tail_of (map word_text c.in-Some.rest.now)) c.push_tail.result c.in_ok-push_word.ensures c.push_tail.ensures)
