use Rattle.std.proofs.Common.{◌++◌, ◌∙◌, List, ℕ, ap, codes}
use Rattle.audit_statement.specs.Note.{as_line, plan_note}
use Rattle.report.proofs.NoteLines.{adds_line}
use Rattle.report.proofs.note.plan.write_named.Goals as goal

pub returns : goal.returns
returns g c =
    adds_line c.write_note.ensures
    (ap (λ (t : List ℕ). codes "plan " ++ (c.as_str-name.result.now ++ (codes ": " ++ t))) c.plan_line.ensures
    ∙ ap (λ (n : List ℕ). codes "plan " ++ (n ++ (codes ": " ++ as_line (plan_note c.args.fault.now)))) c.as_str-name.ensures)
