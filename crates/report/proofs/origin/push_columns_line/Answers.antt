use Rattle.std.proofs.Common.{◌++◌, ◌∷◌, [], ℕ, List, codes, Err}
use Rattle.audit_model.specs.declared.setting.Columns.{Columns}
use Rattle.audit_statement.specs.Report.{columns_line, frozen_words, group_words, length_words, region_words}
use Rattle.json.specs.Print.{quoted}
use Rattle.report.specs.Parts.{first_columns, last_columns}
use Rattle.std.proofs.Common.{◌≡◌}
use Rattle.std.proofs.lemmas.Result.{err_from_is_err_and}
use Rattle.report.proofs.Written.{appends-by, appends-err, appends-two, line-five}
use Rattle.report.proofs.origin.push_columns_line.Goals as goal

-- the words and a line feed are the line
line_of : (columns : Columns) (region : List ℕ) → (first_columns columns region ++ last_columns columns) ++ 10 ∷ [] ≡ columns_line columns region
line_of columns region =
    line-five (codes "columns") (quoted columns.population ∷ quoted columns.first ∷ quoted columns.second ∷ quoted columns.district ∷ [])
    (region_words region) (group_words columns.group columns.whole) (frozen_words columns.frozen) (length_words columns.length)

pub returns : goal.returns
returns c =
    let words = first_columns c.args.columns.now c.args.region.now ++ last_columns c.args.columns.now in
    let out = c.args.out.now in
    appends-by out c.push.new.self (words ++ 10 ∷ []) _ c.push.result (line_of c.args.columns.now c.args.region.now)
    (appends-two out c.push_columns.new.out c.push.new.self words (10 ∷ []) _ c.in_ok-push_columns.ensures (record { ok = c.push.ensures.ok; room = c.push.ensures.room }))

pub returns-in_err-push_columns : goal.returns-in_err-push_columns
returns-in_err-push_columns c =
    let words = first_columns c.args.columns.now c.args.region.now ++ last_columns c.args.columns.now in
    let out = c.args.out.now in
    let e = c.in_err-push_columns.field-0.0 in
    let p = err_from_is_err_and c.from_residual.result c.from_residual.ensures.1 in
    rw (p.1, p.2)
    (appends-by out c.push_columns.new.out (words ++ 10 ∷ []) _ (Err e) (line_of c.args.columns.now c.args.region.now)
    (appends-err out c.push_columns.new.out words (10 ∷ []) e c.in_err-push_columns.ensures))
