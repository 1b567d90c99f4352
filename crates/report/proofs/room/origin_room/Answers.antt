use Rattle.std.proofs.Common.{◌≤◌, ◌∙◌, length, sym, subst}
use Rattle.audit_model.specs.declared.setting.Setting.{Setting}
use Rattle.audit_statement.specs.Report.{columns_line}
use Rattle.report.specs.Parts.{source_line}
use Rattle.report.proofs.Longest.{both_observed}
use Rattle.report.proofs.room.origin_room.Goals as goal

pub returns-in_ok-columns_room-in-Some-clause-enough : goal.returns-in_ok-columns_room-in-Some-clause-enough
returns-in_ok-columns_room-in-Some-clause-enough c =
    let setting = c.args.job.now.setting in
    let short : length (columns_line setting.columns setting.region) ≤ c.in_ok-columns_room-in-Some.field-0 =
    subst (λ (s : Setting). length (columns_line s.columns s.region) ≤ c.in_ok-columns_room-in-Some.field-0) c.setting.ensures.value c.in_ok-columns_room-in-Some.ensures.enough in
    rw (sym c.origin.ensures ∙ c.in-Some.is)
    (both_observed (source_line c.in-Some.origin) (columns_line setting.columns setting.region) c.source_room.result c.in_ok-columns_room-in-Some.field-0 _ c.checked_add.result
    c.source_room.ensures.enough short c.checked_add.ensures)
