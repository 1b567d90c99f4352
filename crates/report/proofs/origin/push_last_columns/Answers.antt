use Rattle.audit_statement.specs.Report.{frozen_words, length_words}
use Rattle.report.specs.Lines.{spaced}
use Rattle.std.proofs.lemmas.Result.{err_from_is_err_and}
use Rattle.report.proofs.Written.{appends-two, appends-err}
use Rattle.report.proofs.origin.push_last_columns.Goals as goal

pub returns-in_err-push_frozen_words : goal.returns-in_err-push_frozen_words
returns-in_err-push_frozen_words c =
    let p = err_from_is_err_and c.from_residual.result c.from_residual.ensures.1 in
    rw (p.1, p.2) (appends-err c.args.out.now c.push_frozen_words.new.out (spaced (frozen_words c.args.columns.now.frozen)) (spaced (length_words c.args.columns.now.length)) c.in_err-push_frozen_words.field-0.0 c.in_err-push_frozen_words.ensures)

pub returns : goal.returns
returns c = appends-two c.args.out.now c.push_frozen_words.new.out c.push_length_words.new.out (spaced (frozen_words c.args.columns.now.frozen)) (spaced (length_words c.args.columns.now.length)) c.push_length_words.result c.in_ok-push_frozen_words.ensures c.push_length_words.ensures
