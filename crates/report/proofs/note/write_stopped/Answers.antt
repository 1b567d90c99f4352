use Rattle.std.proofs.Common.{◌∙◌, ◌++◌, List, ℕ, ap, codes}
use Rattle.report.proofs.NoteLines.{adds_line}
use Rattle.report.proofs.note.write_stopped.Goals as goal

pub returns : goal.returns
returns g c = adds_line c.write_fault.ensures (ap (λ (t : List ℕ). codes "stopped: " ++ t) (c.counts_line.ensures ∙ rw (c.from.ensures, c.from-2.ensures)))
