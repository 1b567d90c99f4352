use Rattle.std.proofs.Common.{◌∷◌, ◌++◌, map, [], sym}
use Rattle.std.proofs.lemmas.Result.{err_from_is_err_and}
use Rattle.report.specs.Lines.{spaced, word_text}
use Rattle.report.proofs.Written.{appends-by, appends-err, appends-two, tail-spaced}
use Rattle.report.proofs.lines.push_tail.Goals as goal

pub returns-in_err-push_words : goal.returns-in_err-push_words
returns-in_err-push_words c =
    let p = err_from_is_err_and c.from_residual.result c.from_residual.ensures.1 in
    let words = map word_text c.args.words.now in
    rw (p.1, p.2, tail-spaced words) (appends-err c.args.out.now c.push_words.new.out (spaced words) (10 ∷ []) c.in_err-push_words.field-0.0 c.in_err-push_words.ensures)

pub returns : goal.returns
returns c =
    let words = map word_text c.args.words.now in
    appends-by c.args.out.now c.push.new.self (spaced words ++ 10 ∷ []) _ c.push.result (sym (tail-spaced words))
    (appends-two c.args.out.now c.push_words.new.out c.push.new.self (spaced words) (10 ∷ []) c.push.result c.in_ok-push_words.ensures
    (record { ok = c.push.ensures.ok; room = c.push.ensures.room }))
