use Rattle.std.proofs.Common.{◌++◌, ◌∷◌, [], codes, Err}
use Rattle.std.proofs.lemmas.Result.{err_from_is_err_and}
use Rattle.json.specs.Print.{quoted}
use Rattle.audit_statement.specs.Report.{group_words, region_words}
use Rattle.report.specs.Lines.{spaced}
use Rattle.report.proofs.Written.{appends-err, appends-two}
use Rattle.report.proofs.origin.push_first_columns.Goals as goal

pub returns-in_err-push_word : goal.returns-in_err-push_word
returns-in_err-push_word c =
    let columns = c.args.columns.now in
    let out = c.args.out.now in
    let new = c.push_word.new.out in
    let names = spaced (quoted columns.population ∷ quoted columns.first ∷ quoted columns.second ∷ quoted columns.district ∷ []) in
    let region = spaced (region_words c.args.region.now) in
    let e = c.in_err-push_word.field-0.0 in
    let p = err_from_is_err_and c.from_residual.result c.from_residual.ensures.1 in
    let f2 = appends-err out new (codes "columns") names e c.in_err-push_word.ensures in
    let f3 = appends-err out new (codes "columns" ++ names) region e f2 in
    rw (p.1, p.2) (appends-err out new (codes "columns" ++ names ++ region) (spaced (group_words columns.group columns.whole)) e f3)

pub returns-in_err-push_words : goal.returns-in_err-push_words
returns-in_err-push_words c =
    let columns = c.args.columns.now in
    let out = c.args.out.now in
    let new = c.push_words.new.out in
    let names = spaced (quoted columns.population ∷ quoted columns.first ∷ quoted columns.second ∷ quoted columns.district ∷ []) in
    let region = spaced (region_words c.args.region.now) in
    let e = c.in_err-push_words.field-0.0 in
    let p = err_from_is_err_and c.from_residual-in_err-push_words.result c.from_residual-in_err-push_words.ensures.1 in
    let f2 = appends-two out c.push_word.new.out new (codes "columns") names (Err e) c.in_ok-push_word.ensures
    (rw (c.as_str.ensures, c.as_str-2.ensures, c.as_str-3.ensures, c.as_str-4.ensures) at c.in_err-push_words.ensures) in
    let f3 = appends-err out new (codes "columns" ++ names) region e f2 in
    rw (p.1, p.2) (appends-err out new (codes "columns" ++ names ++ region) (spaced (group_words columns.group columns.whole)) e f3)

pub returns-in_err-push_region_words : goal.returns-in_err-push_region_words
returns-in_err-push_region_words c =
    let columns = c.args.columns.now in
    let out = c.args.out.now in
    let new = c.push_region_words.new.out in
    let names = spaced (quoted columns.population ∷ quoted columns.first ∷ quoted columns.second ∷ quoted columns.district ∷ []) in
    let region = spaced (region_words c.args.region.now) in
    let e = c.in_err-push_region_words.field-0.0 in
    let p = err_from_is_err_and c.from_residual-in_err-push_region_words.result c.from_residual-in_err-push_region_words.ensures.1 in
    let d2 = appends-two out c.push_word.new.out c.push_words.new.out (codes "columns") names _ c.in_ok-push_word.ensures
    (rw (c.as_str.ensures, c.as_str-2.ensures, c.as_str-3.ensures, c.as_str-4.ensures) at c.in_ok-push_words.ensures) in
    let f3 = appends-two out c.push_words.new.out new (codes "columns" ++ names) region (Err e) d2 c.in_err-push_region_words.ensures in
    rw (p.1, p.2) (appends-err out new (codes "columns" ++ names ++ region) (spaced (group_words columns.group columns.whole)) e f3)

pub returns : goal.returns
returns c =
    let columns = c.args.columns.now in
    let out = c.args.out.now in
    let names = spaced (quoted columns.population ∷ quoted columns.first ∷ quoted columns.second ∷ quoted columns.district ∷ []) in
    let region = spaced (region_words c.args.region.now) in
    let d2 = appends-two out c.push_word.new.out c.push_words.new.out (codes "columns") names _ c.in_ok-push_word.ensures
    (rw (c.as_str.ensures, c.as_str-2.ensures, c.as_str-3.ensures, c.as_str-4.ensures) at c.in_ok-push_words.ensures) in
    let d3 = appends-two out c.push_words.new.out c.push_region_words.new.out (codes "columns" ++ names) region _ d2 c.in_ok-push_region_words.ensures in
    appends-two out c.push_region_words.new.out c.push_group_words.new.out (codes "columns" ++ names ++ region) (spaced (group_words columns.group columns.whole)) c.push_group_words.result
    d3 c.push_group_words.ensures
